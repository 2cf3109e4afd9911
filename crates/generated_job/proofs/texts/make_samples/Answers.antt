use Rattle.std.proofs.Common.{◌≡◌, ◌∙◌, ◌++◌, ◌∷◌, [], ◌%◌, ap, map, arith}
use Rattle.generated_job.specs.Texts.{numbers, text_of, daemon_line, stack_lines}
use Rattle.generated_job.proofs.Writing.{lines_more, samples_written}
use Rattle.generated_job.proofs.texts.make_samples.Goals as goal

pub loop-j-preserved : goal.loop-j-preserved
loop-j-preserved c = c.in_ok-write_daemon.ensures ∙ ap (λ t. t ++ (daemon_line c.loop-j.j ++ 10 ∷ [])) c.loop-j.invariant ∙ lines_more [] daemon_line c.loop-j.j

pub returns : goal.returns
returns c =
    c.in_ok-write_stacks-2.ensures
    ∙ ap (λ t. t ++ text_of (stack_lines (c.args.seed % 3) c.args.size 1)) (c.in_ok-write_stacks.ensures ∙ ap (λ t. t ++ text_of (stack_lines (c.args.seed % 3) c.args.size 0)) (c.loop-j.invariant ∙ (let e : c.loop-j.j ≡ c.args.size = omega arith in ap (λ n. text_of (map daemon_line (numbers n))) e)))
    ∙ samples_written c.args.seed c.args.size
