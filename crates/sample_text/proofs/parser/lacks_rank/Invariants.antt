use Rattle.std.proofs.Common.{◌≡◌, drop}
use Rattle.sample_text.specs.Whole.{lacks_rank}
use Rattle.sample_text.proofs.parser.lacks_rank.Given as goal

abbrev pub invariant-loop-n : goal.invariant-loop-n
invariant-loop-n l = lacks_rank l.topology.parents l.n (drop l.n l.placed) ≡ lacks_rank l.topology.parents 0 l.placed
