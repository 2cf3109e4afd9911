use Rattle.std.proofs.Common.{◌≡◌, ◌<◌, ◌^◌, ℕ, Some, map}
use Rattle.std.proofs.Math.IntN.{ℤ}
use lib.Signed.{mag}
use Rattle.overlay_setup.specs.NodeSets.{up_to}
use Rattle.rank_sums.specs.Parts.{part_at}
use Rattle.rank_sums.proofs.parts.parts_of.Given as goal

abbrev pub invariant-loop-n : goal.invariant-loop-n
invariant-loop-n l = record {
  parts : l.parts.items ≡ map (part_at l.plan l.values l.fold) (up_to l.n);
  fit : (d : ℕ) (z : ℤ) → d < l.n → part_at l.plan l.values l.fold d ≡ Some z → mag z < 2 ^ 63;
}
