use Rattle.std.proofs.Common.{◌≡◌, map}
use Rattle.std.specs.List.{range_with_len}
use Rattle.generated_job.specs.Texts.{text_of, daemon_line}
use Rattle.generated_job.proofs.texts.make_samples.Given as goal

abbrev pub invariant-loop-j : goal.invariant-loop-j
invariant-loop-j l = l.out.items ≡ text_of (map daemon_line (range_with_len 0 l.j))
