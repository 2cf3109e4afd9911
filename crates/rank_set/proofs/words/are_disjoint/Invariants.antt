use Rattle.std.proofs.Common.{◌≡◌, ℕ, ◌<◌, ◌+◌}
use Rattle.std.specs.Prelude.{bit_and}
use Rattle.rank_set.specs.Words.{word_at}
use Rattle.rank_set.proofs.words.are_disjoint.Given as goal

abbrev pub invariant-loop-i : goal.invariant-loop-i
invariant-loop-i l = (q : ℕ) → q < l.i → bit_and (word_at l.offset l.words (l.offset + (l.common.index + q))) (word_at l.other_offset l.others (l.offset + (l.common.index + q))) ≡ 0
