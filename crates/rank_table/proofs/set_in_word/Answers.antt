use Rattle.rank_table.proofs.Numbers.{same_at}
use Rattle.std.proofs.Common.{◌∙◌, arith}
use Rattle.rank_table.proofs.set_in_word.Goals as goal

pub returns-then-end-first-eq-WORD-clause-given : goal.returns-then-end-first-eq-WORD-clause-given
returns-then-end-first-eq-WORD-clause-given c i ge lt = same_at c.args.number i (omega (arith, lt, c.requires.in_word))

pub returns-in-Same-clause-given : goal.returns-in-Same-clause-given
returns-in-Same-clause-given c i ge lt = same_at c.in-Same.all i (omega (arith, lt, c.requires.in_word)) ∙ c.if-all-number.true
