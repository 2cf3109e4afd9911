-- What has come in has grown where it is another set than what was passed on.
use Rattle.std.proofs.Common.{◌≡◌, inl, inr, Bool, true, false, not, refl, sym, ap, subst}
use Rattle.std.specs.Prelude.{◌↔◌}
use Rattle.std.specs.Cmp.{both_ways}
use Rattle.std.proofs.lemmas.Bool.{and_from, and_parts, cases_Bool, true≢false}
use Rattle.rank_set.specs.Ranks.{Ranks, has, is_subset, is_same, same_ranks, subset_has, subset_from}
use Rattle.stat_plan.specs.Machine.Waves.{has_grown}

same_self : (s : Ranks) → is_same s s ≡ true
same_self s = and_from (is_subset s s) (is_subset s s) (subset_from s s (λ r h. h)) (subset_from s s (λ r h. h))

equal_from_same : (s t : Ranks) → is_same s t ≡ true → s ≡ t
equal_from_same s t e = let a = and_parts (is_subset s t) (is_subset t s) e in same_ranks s t (λ r. both_ways (has s r) (has t r) (subset_has s t a.0 r) (subset_has t s a.1 r))

pub grown_where_unequal : (b : Bool) (covered sent : Ranks) → (b ≡ true) ↔ (covered ≡ sent) → not b ≡ has_grown covered sent
grown_where_unequal true covered sent h = let e : covered ≡ sent = h.0 refl in ap not (sym (subst (λ t. is_same covered t ≡ true) e (same_self covered)))
grown_where_unequal false covered sent h = elim (cases_Bool (is_same covered sent)) [
  | inl t ↦ absurd (true≢false (sym (h.1 (equal_from_same covered sent t))))
  | inr f ↦ ap not (sym f)
]
