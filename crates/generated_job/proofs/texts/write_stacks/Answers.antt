use Rattle.std.proofs.Common.{◌∙◌, ◌++◌, ◌∷◌, [], ap}
use Rattle.generated_job.specs.Texts.{stack_line}
use Rattle.generated_job.proofs.Writing.{lines_more}
use Rattle.generated_job.proofs.texts.write_stacks.Goals as goal

pub loop-r-preserved : goal.loop-r-preserved
loop-r-preserved c = c.in_ok-write_stack.ensures ∙ ap (λ t. t ++ (stack_line c.args.remainder c.args.time c.loop-r.r ++ 10 ∷ [])) c.loop-r.invariant ∙ lines_more c.args.out.now.items (stack_line c.args.remainder c.args.time) c.loop-r.r
