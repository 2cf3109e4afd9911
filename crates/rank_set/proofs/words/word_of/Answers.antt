use Rattle.std.proofs.Common.{◌-◌, sym, ◌∙◌, arith}
use Rattle.rank_set.proofs.WordSets.{word_at-below, word_at-from, word_at-beyond}
use Rattle.std.proofs.lemmas.List.{get_or-set_same, get_or-set_other}
use Rattle.std.proofs.lemmas.Bool.{cases_eq, cases_lt}
use Rattle.rank_set.proofs.words.word_of.Goals as goal

pub returns-then-k-offset : goal.returns-then-k-offset
returns-then-k-offset c = sym (word_at-below c.args.offset c.args.words.now c.args.k c.if-k-offset.true)

pub returns-in-Some : goal.returns-in-Some
returns-in-Some c =
    c.in-Some.ensures.lookup.1 ∙ Rattle.std.proofs.lemmas.List.get_or_default c.args.words.now (c.args.k - c.args.offset) _ 0 (Rattle.std.proofs.lemmas.Bool.ltb-true _ _ (sym c.in-Some.ensures.lookup.0))
    ∙ sym (word_at-from c.args.offset c.args.words.now c.args.k c.if-k-offset.false)

pub returns-in-None : goal.returns-in-None
returns-in-None c = sym (word_at-beyond c.args.offset c.args.words.now c.args.k (omega (arith, c.if-k-offset.false, Rattle.std.proofs.lemmas.Bool.ltb-false _ _ (sym c.in-None.ensures.lookup.0))))
