use Rattle.std.proofs.Common.{◌+◌, cond, nat_lt, w64}
use Rattle.std.specs.Prelude.{bit_and}
use Rattle.std.specs.Int.{bit_not}
use Rattle.rank_set.specs.Words.{word_at}
use Rattle.rank_set.proofs.Changes.{HasChanged}
use Rattle.rank_set.proofs.words.clear_words.Given as goal

abbrev pub invariant-loop-i : goal.invariant-loop-i
invariant-loop-i l = HasChanged l.fn.words l.words (λ j w. cond (nat_lt j l.common.index) w (bit_and w (bit_not w64 (word_at l.other_offset l.others (l.offset + j))))) (l.common.index + l.i)
