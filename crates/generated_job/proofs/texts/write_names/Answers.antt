use Rattle.std.proofs.Common.{◌∙◌, ◌++◌, ap, refl, ◌+◌}
use Rattle.std.specs.Fmt.{decimal}
use Rattle.generated_job.proofs.Writing.{pieces_more}
use Rattle.generated_job.proofs.texts.write_names.Goals as goal

pub loop-k-preserved : goal.loop-k-preserved
loop-k-preserved c = c.in_ok-write_numbered.ensures ∙ ap (λ t. t ++ (c.args.word.now ++ decimal (c.args.first + c.loop-k.k))) c.loop-k.invariant ∙ pieces_more c.args.out.now.items (λ i. c.args.word.now ++ decimal i) c.args.first c.loop-k.k (c.args.first + c.loop-k.k) refl
