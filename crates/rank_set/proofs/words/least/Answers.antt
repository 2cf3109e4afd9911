use Rattle.std.proofs.Common.{◌≡◌, ℕ, zero, suc, ◌<◌, false, eqb, get_or, refl, sym, arith}
use Rattle.rank_set.proofs.WordSets.{no_ranks}
use Rattle.rank_set.proofs.Members.{least_in}
use Rattle.std.proofs.lemmas.Bool.{cases_eq, cases_lt}
use Rattle.std.proofs.lemmas.Bool.{eqb-true}
use Rattle.rank_set.proofs.words.least.Goals as goal

pub returns-then-is_empty-clause-none : goal.returns-then-is_empty-clause-none
returns-then-is_empty-clause-none c = no_ranks c.args.offset c.args.words.now (eqb-true _ _ (sym c.if-is_empty.ensures))

pub returns-clause-least : goal.returns-clause-least
returns-clause-least c =
    least_in c.args.offset c.args.words.now (get_or c.args.words.now 0 0) c.requires (above_zero _ (sym c.if-is_empty.ensures)) refl (omega (arith, c.type_inv.words 0))
  where
    above_zero : (n : ℕ) → eqb n 0 ≡ false → 0 < n
    above_zero zero e = absurd (Rattle.std.proofs.lemmas.Bool.true≢false e)
    above_zero (suc n) e = omega arith
