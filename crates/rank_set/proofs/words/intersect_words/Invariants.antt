use Rattle.std.proofs.Common.{◌+◌}
use Rattle.std.specs.Prelude.{bit_and}
use Rattle.rank_set.specs.Words.{word_at}
use Rattle.rank_set.proofs.Changes.{HasChanged}
use Rattle.rank_set.proofs.words.intersect_words.Given as goal

abbrev pub invariant-loop-i : goal.invariant-loop-i
invariant-loop-i l = HasChanged l.fn.words l.words (λ j w. bit_and w (word_at l.other_offset l.others (l.offset + j))) l.i

abbrev pub invariant-loop-i-2 : goal.invariant-loop-i-2
invariant-loop-i-2 l = HasChanged l.fn.words l.words (λ j w. bit_and w (word_at l.other_offset l.others (l.offset + j))) (l.common.index + l.i)

abbrev pub invariant-loop-i-3 : goal.invariant-loop-i-3
invariant-loop-i-3 l = HasChanged l.fn.words l.words (λ j w. bit_and w (word_at l.other_offset l.others (l.offset + j))) l.i
