use Rattle.std.proofs.Common.{◌≡◌, ◌<◌, ℕ, zero, suc, refl, sym, arith}
use Rattle.std.proofs.lemmas.Bool.{eqb-true, eqb-false}
use Rattle.rank_set.proofs.OneItem.{number_len, number_alone, none_at_end, none_at_comma}
use Rattle.rank_set.proofs.read.number_item.Goals as goal

above_nothing : (n : ℕ) → (n ≡ 0 → ⊥) → 0 < n
above_nothing zero f = absurd (f refl)
above_nothing (suc n) f = omega arith

pub returns-then-is_empty-clause-len : goal.returns-then-is_empty-clause-len
returns-then-is_empty-clause-len c =
    number_len c.args.text.now c.split_at.result.1.now c.capped_number-number.result.0 c.capped_number-number.result.1 c.capped_number-number.ensures.value c.capped_number-number.ensures.len (above_nothing _ c.if-len-eq0.false) c.if-number-ge-RANK_LIMIT.false c.split_at.ensures.back
    (none_at_end c.split_at.result.1.now (eqb-true _ _ (sym c.if-is_empty.ensures)))

pub returns-then-is_empty-clause-item : goal.returns-then-is_empty-clause-item
returns-then-is_empty-clause-item c =
    number_alone c.args.text.now c.split_at.result.1.now c.capped_number-number.result.0 c.capped_number-number.result.1 c.capped_number-number.ensures.value c.capped_number-number.ensures.len (above_nothing _ c.if-len-eq0.false) c.if-number-ge-RANK_LIMIT.false c.split_at.ensures.back
    (none_at_end c.split_at.result.1.now (eqb-true _ _ (sym c.if-is_empty.ensures)))

pub returns-clause-len : goal.returns-clause-len
returns-clause-len c =
    number_len c.args.text.now c.split_at.result.1.now c.capped_number-number.result.0 c.capped_number-number.result.1 c.capped_number-number.ensures.value c.capped_number-number.ensures.len (above_nothing _ c.if-len-eq0.false) c.if-number-ge-RANK_LIMIT.false c.split_at.ensures.back
    (none_at_comma c.split_at.result.1.now (above_nothing _ (eqb-false _ _ (sym c.if-is_empty.ensures))) (omega (arith, c.if-rest-ne44.false)))

pub returns-clause-item : goal.returns-clause-item
returns-clause-item c =
    number_alone c.args.text.now c.split_at.result.1.now c.capped_number-number.result.0 c.capped_number-number.result.1 c.capped_number-number.ensures.value c.capped_number-number.ensures.len (above_nothing _ c.if-len-eq0.false) c.if-number-ge-RANK_LIMIT.false c.split_at.ensures.back
    (none_at_comma c.split_at.result.1.now (above_nothing _ (eqb-false _ _ (sym c.if-is_empty.ensures))) (omega (arith, c.if-rest-ne44.false)))
