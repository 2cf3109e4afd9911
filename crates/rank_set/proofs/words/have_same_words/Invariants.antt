use Rattle.std.proofs.Common.{nat_eq}
use Rattle.rank_set.proofs.SameWords.{AreSame}
use Rattle.rank_set.proofs.words.have_same_words.Given as goal

abbrev pub invariant-loop-i : goal.invariant-loop-i
invariant-loop-i l = AreSame (nat_eq l.differing 0) l.i l.xs l.ys-2
