use Rattle.rank_table.proofs.Numbers.{same_at}
use Rattle.rank_table.specs.Numbers.{numbers_of}
use Rattle.std.proofs.Common.{◌∙◌, sym, ap, get_or, arith}
use Rattle.rank_table.proofs.same_until.Goals as goal

pub returns-in-Same-clause-same : goal.returns-in-Same-clause-same
returns-in-Same-clause-same c i ge lt = ap (λ w. get_or (numbers_of w) i 0) c.in-Same.is ∙ same_at c.in-Same.all i (omega (arith, lt, c.requires.in_word)) ∙ c.if-all-number.true

pub returns-in-Same-2-clause-differs : goal.returns-in-Same-2-clause-differs
returns-in-Same-2-clause-differs c lt same =
    c.if-all-number.false (sym (same_at c.in-Same.all c.args.first (omega (arith, lt, c.requires.in_word))) ∙ sym (ap (λ w. get_or (numbers_of w) c.args.first 0) c.in-Same.is) ∙ same)
