use Rattle.std.proofs.Common.{◌≡◌, ℕ, ◌+◌, ◌<◌, ◌≤◌, ◌*◌, ◌^◌}
use Rattle.rank_set.specs.Words.{bit_in}
use Rattle.rank_set.proofs.NextBits.{IsMask, IsMaskFrom}
use Rattle.rank_set.proofs.words.next_bit.Given as goal

abbrev pub invariant-loop-i : goal.invariant-loop-i
invariant-loop-i l = record {
  fits : l.mask < 2 ^ 64;
  masks : IsMask l.mask l.from (l.offset + l.i);
  above : IsMaskFrom l.mask l.from (l.offset + l.i);
  before : (q : ℕ) → l.from ≤ q → q < 64 * (l.offset + l.i) → bit_in l.offset l.words q ≡ l.gap;
}
