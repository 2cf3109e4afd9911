-- A set that is not empty has a member.
use Rattle.std.proofs.Common.{◌≡◌, ◌≢◌, ℕ, Bool, true, false, ◌||◌, eqb, Option, None, Some, List, [], ◌∷◌, length, refl, sym, ap, ◌∙◌}
use Rattle.std.specs.Prelude.{slice_get}
use Rattle.std.specs.List.{list_any}
use Rattle.std.specs.Ordering.{nat_cmp, eq_by_cmp, is_eq}
use Rattle.std.specs.Cmp.{nat_cmp_total, tied_itself}
use Rattle.std.proofs.lemmas.Bool.{true≢false, eqb-true, false_from_ne_true}
use Rattle.rank_set.specs.Ranks.{Ranks, none, has, in_order, size, has-in_order, none_from_size}

-- a set whose size is not 0 has a member
pub first_member : (s : Ranks) → eqb (size s) 0 ≡ false → (r : ℕ) × (has s r ≡ true)
first_member s e = member (in_order s) refl
  where
    member : (xs : List ℕ) → in_order s ≡ xs → (r : ℕ) × (has s r ≡ true)
    member [] is = absurd (true≢false (sym (ap (λ (xs : List ℕ). eqb (length xs) 0) is) ∙ e))
    member (k ∷ ks) is = (k, has-in_order s k ∙ ap (λ (xs : List ℕ). list_any (eq_by_cmp nat_cmp k) xs) is ∙ ap (λ b. b || list_any (eq_by_cmp nat_cmp k) ks) (ap is_eq (tied_itself nat_cmp_total k)))

-- so has a set other than the empty one
pub some_member : (s : Ranks) → s ≢ none → (r : ℕ) × (has s r ≡ true)
some_member s other = first_member s (false_from_ne_true _ (λ e. other (none_from_size s (eqb-true (size s) 0 e))))

-- the least rank of a set is in it
pub least_member : (s : Ranks) (r : ℕ) → slice_get (in_order s) 0 ≡ Some r → has s r ≡ true
least_member s r least = has-in_order s r ∙ in_front (in_order s) least
  where
    rank : Option ℕ → ℕ
    rank None = 0
    rank (Some k) = k

    told : Option ℕ → Bool
    told None = false
    told (Some k) = true

    in_front : (xs : List ℕ) → slice_get xs 0 ≡ Some r → list_any (eq_by_cmp nat_cmp r) xs ≡ true
    in_front [] e = absurd (true≢false (sym (ap told e)))
    in_front (k ∷ ks) e = ap (λ q. list_any (eq_by_cmp nat_cmp q) (k ∷ ks)) (sym (ap rank e)) ∙ ap (λ b. b || list_any (eq_by_cmp nat_cmp k) ks) (ap is_eq (tied_itself nat_cmp_total k))
