use Rattle.std.proofs.Common.{get_or}
use Rattle.std.specs.Prelude.{bit_or}
use Rattle.rank_set.proofs.Changes.{HasChanged}
use Rattle.rank_set.proofs.words.or_each.Given as goal

abbrev pub invariant-loop-i : goal.invariant-loop-i
invariant-loop-i l = HasChanged l.fn.words l.words (λ j w. bit_or w (get_or l.others j 0)) l.i
