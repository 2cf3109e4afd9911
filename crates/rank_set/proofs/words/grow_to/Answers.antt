use Rattle.std.proofs.Common.{◌<◌, length, inl, inr, sym, arith}
use Rattle.std.proofs.lemmas.Bool.{cases_lt, eqb-false, eqb-true}
use Rattle.rank_set.proofs.Trimming.{covers_itself, covers_longer, covers_new}
use Rattle.rank_set.proofs.words.grow_to.Goals as goal

pub returns-then-is_empty-clause-ok : goal.returns-then-is_empty-clause-ok
returns-then-is_empty-clause-ok c =
    covers_new c.args.offset.now c.args.words.now.items c.args.low c.args.high c.pad.new.words.items c.requires.trimmed c.requires.not_empty c.requires.within_limit (eqb-true _ _ (sym c.if-is_empty.ensures)) c.in_ok-pad.ensures.ok

pub returns-in_ok-pad-2-clause-ok : goal.returns-in_ok-pad-2-clause-ok
returns-in_ok-pad-2-clause-ok c =
    let some : 0 < length c.args.words.now.items = elim (cases_lt 0 (length c.args.words.now.items)) [ inl lt ↦ lt | inr none ↦ absurd (eqb-false _ _ (sym c.if-is_empty.ensures) (omega arith)) ] in
    covers_longer c.args.offset.now c.args.words.now.items c.args.low c.args.high c.pad-then-len.new.words.items c.requires.trimmed c.requires.not_empty c.requires.within_limit some c.if-low-offset.false (omega (arith, c.if-len.true, c.len.ensures.value)) c.in_ok-pad-2.ensures.ok

pub returns-else-len-clause-ok : goal.returns-else-len-clause-ok
returns-else-len-clause-ok c =
    covers_itself c.args.offset.now c.args.words.now.items c.args.low c.args.high c.requires.trimmed c.requires.not_empty c.if-low-offset.false (omega (arith, c.if-len.false, c.len.ensures.value))
