-- Sets of ranks, by their members.
use Rattle.std.proofs.Common.{◌≡◌, ◌≢◌, ◌⊎◌, ℕ, true, false, List, [], ◌∷◌, length, refl, sym, subst, ap, ◌∙◌, eqb-true}
use Rattle.std.specs.List.{list_any}
use Rattle.std.proofs.lemmas.Bool.{true≢false, or_cases, or_left, or_right, and_parts, and_from}
use Rattle.rank_set.specs.Ranks.{Ranks, none, has, size, in_order, union, is_subset, is_same, is_empty, Has, IsSubset, has-none, has-union, has-in_order, same_ranks, subset_has, subset_from, none_from_size}
use Rattle.std.specs.Ordering.{nat_cmp, eq_by_cmp, is_eq}
use Rattle.std.specs.Cmp.{both_ways, nat_cmp_total, tied_itself}

pub no_rank : (r : ℕ) → Has r none → ⊥
no_rank r h = true≢false (sym h ∙ has-none r)

pub in_union : (r : ℕ) (s t : Ranks) → Has r (union s t) → Has r s ⊎ Has r t
in_union r s t h = or_cases (has s r) (has t r) (sym (has-union s t r) ∙ h)

pub union_left : (r : ℕ) (s t : Ranks) → Has r s → Has r (union s t)
union_left r s t h = has-union s t r ∙ or_left (has s r) (has t r) h

pub union_right : (r : ℕ) (s t : Ranks) → Has r t → Has r (union s t)
union_right r s t h = has-union s t r ∙ or_right (has s r) (has t r) h

-- a set is known by its members
pub same_from_members : (s t : Ranks) → IsSubset s t → IsSubset t s → s ≡ t
same_from_members s t f g = same_ranks s t (λ r. both_ways (has s r) (has t r) (f r) (g r))

pub subset_from_test : (s t : Ranks) → is_subset s t ≡ true → IsSubset s t
subset_from_test s t e r h = subset_has s t e r h

pub test_from_subset : (s t : Ranks) → IsSubset s t → is_subset s t ≡ true
test_from_subset s t h = subset_from s t h

pub test_from_same : (s : Ranks) → is_same s s ≡ true
test_from_same s = and_from (is_subset s s) (is_subset s s) (subset_from s s (λ r h. h)) (subset_from s s (λ r h. h))

pub same_true : (s t : Ranks) → is_same s t ≡ true → s ≡ t
same_true s t e = let a = and_parts (is_subset s t) (is_subset t s) e in same_from_members s t (subset_has s t a.0) (subset_has t s a.1)

pub same_from_test : (s t : Ranks) → is_same s t ≡ false → s ≢ t
same_from_test s t h e = true≢false (sym (subst (λ z. is_same s z ≡ true) e (test_from_same s)) ∙ h)

pub none_from_subset : (s : Ranks) → IsSubset s none → s ≡ none
none_from_subset s h = same_from_members s none h (λ r i. absurd (no_rank r i))

pub empty_true : (s : Ranks) → is_empty s ≡ true → s ≡ none
empty_true s e = none_from_size s (eqb-true (size s) 0 e)

pub some_rank : (s : Ranks) → s ≢ none → (r : ℕ) × Has r s
some_rank s ne = go (in_order s) refl
  where
    go : (xs : List ℕ) → in_order s ≡ xs → (r : ℕ) × Has r s
    go [] e = absurd (ne (none_from_size s (ap length e)))
    go (x ∷ xs) e = (x, has-in_order s x ∙ subst (λ l. list_any (eq_by_cmp nat_cmp x) l ≡ true) (sym e) (or_left (eq_by_cmp nat_cmp x x) (list_any (eq_by_cmp nat_cmp x) xs) (ap is_eq (tied_itself nat_cmp_total x))))
