use Rattle.std.proofs.Common.{◌≡◌, take}
use Rattle.rank_sums.specs.PartPlans.{paths_of}
use Rattle.rank_sums.proofs.lines.paths_of.Given as goal

abbrev pub invariant-loop-part : goal.invariant-loop-part
invariant-loop-part l = l.paths.items ≡ paths_of (take l.part-index l.parts)
