use Rattle.std.proofs.Common.{◌∙◌, ◌++◌, ◌∷◌, [], ap}
use Rattle.generated_job.specs.Texts.{text_of, stream_lines, lose_line}
use Rattle.generated_job.proofs.Writing.{lines_more}
use Rattle.generated_job.proofs.texts.make_script.Goals as goal

pub loop-k-preserved : goal.loop-k-preserved
loop-k-preserved c = c.in_ok-write_lose.ensures ∙ ap (λ t. t ++ (lose_line c.loop-k.k ++ 10 ∷ [])) c.loop-k.invariant ∙ lines_more (text_of stream_lines) lose_line c.loop-k.k
