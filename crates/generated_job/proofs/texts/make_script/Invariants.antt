use Rattle.std.proofs.Common.{◌≡◌, ◌++◌, map}
use Rattle.std.specs.List.{range_with_len}
use Rattle.generated_job.specs.Texts.{text_of, stream_lines, lose_line}
use Rattle.generated_job.proofs.texts.make_script.Given as goal

abbrev pub invariant-loop-k : goal.invariant-loop-k
invariant-loop-k l = l.out.items ≡ text_of stream_lines ++ text_of (map lose_line (range_with_len 0 l.k))
