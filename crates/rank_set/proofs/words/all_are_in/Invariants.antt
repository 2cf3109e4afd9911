use Rattle.std.proofs.Common.{◌≡◌, ℕ, ◌<◌, ◌+◌, w64}
use Rattle.std.specs.Prelude.{bit_and}
use Rattle.std.specs.Int.{bit_not}
use Rattle.rank_set.specs.Words.{word_at}
use Rattle.rank_set.proofs.words.all_are_in.Given as goal

abbrev pub invariant-loop-i : goal.invariant-loop-i
invariant-loop-i l = (j : ℕ) → j < l.offset + l.i → bit_and (word_at l.offset l.words j) (bit_not w64 (word_at l.other_offset l.others j)) ≡ 0
