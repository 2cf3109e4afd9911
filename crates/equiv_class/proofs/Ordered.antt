-- Sets of ranks, and their members in order.
use Rattle.std.proofs.Common.{◌≡◌, ℕ, ◌<◌, Bool, true, false, cond, ◌||◌, nat_lt, List, [], ◌∷◌, sym, ap, ◌∙◌, subst, inl, inr}
use Rattle.std.specs.List.{list_any, list_all, filter}
use Rattle.std.specs.Ordering.{nat_cmp, eq_by_cmp, is_eq}
use Rattle.std.specs.Cmp.{nat_cmp_total, unsigned_tied, tied_itself}
use Rattle.std.proofs.lemmas.Bool.{true≢false, and_parts, or_cases, or_right, eqb-true, ltb-true}
use Rattle.rank_set.specs.Ranks.{Ranks, in_order, is_strictly_increasing, from_T}

-- a number is tied with itself
pub tied_self : (r : ℕ) → eq_by_cmp nat_cmp r r ≡ true
tied_self r = ap is_eq (tied_itself nat_cmp_total r)

-- tied numbers are equal
pub same_number : (x y : ℕ) → eq_by_cmp nat_cmp x y ≡ true → x ≡ y
same_number x y e = eqb-true x y (sym (unsigned_tied x y) ∙ e)

-- a member of a list whose members are all above a rank
pub above_all : (x y : ℕ) (ys : List ℕ) → list_all (λ z. nat_lt x z) ys ≡ true → list_any (eq_by_cmp nat_cmp y) ys ≡ true → x < y
above_all x y [] a e = absurd (true≢false (sym e))
above_all x y (z ∷ ys) a e =
    let parts = and_parts (nat_lt x z) (list_all (λ w. nat_lt x w) ys) a in
    elim (or_cases (eq_by_cmp nat_cmp y z) (list_any (eq_by_cmp nat_cmp y) ys) e) [
      | inl same ↦ subst (λ w. x < w) (sym (same_number y z same)) (ltb-true x z parts.0)
      | inr later ↦ above_all x y ys parts.1 later
    ]

-- the members of a set are in strictly increasing order
pub increasing_members : (s : Ranks) → is_strictly_increasing (in_order s) ≡ true
increasing_members s = from_T _ s.increasing

-- a later member is above the first
pub first_below : (s : Ranks) (x : ℕ) (xs : List ℕ) → in_order s ≡ x ∷ xs → (y : ℕ) → list_any (eq_by_cmp nat_cmp y) xs ≡ true → x < y
first_below s x xs is y one =
    let up : is_strictly_increasing (x ∷ xs) ≡ true = subst (λ zs. is_strictly_increasing zs ≡ true) is (increasing_members s) in
    above_all x y xs (and_parts (list_all (λ z. nat_lt x z) xs) (is_strictly_increasing xs) up).0 one

-- some member passes a test where a given one does
pub any_by_member : (t : ℕ → Bool) (q : ℕ) (xs : List ℕ) → list_any (eq_by_cmp nat_cmp q) xs ≡ true → t q ≡ true → list_any t xs ≡ true
any_by_member t q [] e passes = absurd (true≢false (sym e))
any_by_member t q (x ∷ xs) e passes = elim (or_cases (eq_by_cmp nat_cmp q x) (list_any (eq_by_cmp nat_cmp q) xs) e) [
  | inl here ↦ ap (λ y. t y || list_any t xs) (sym (same_number q x here)) ∙ ap (λ b. b || list_any t xs) passes
  | inr later ↦ or_right (t x) (list_any t xs) (any_by_member t q xs later passes)
]

-- a member that passed a test was a member
pub kept_in : (p : ℕ → Bool) (xs : List ℕ) (s : ℕ) → list_any (eq_by_cmp nat_cmp s) (filter p xs) ≡ true → list_any (eq_by_cmp nat_cmp s) xs ≡ true
kept_in p [] s e = e
kept_in p (x ∷ xs) s e = elim (p x) as (λ b. list_any (eq_by_cmp nat_cmp s) (cond b (x ∷ filter p xs) (filter p xs)) ≡ true → (eq_by_cmp nat_cmp s x || list_any (eq_by_cmp nat_cmp s) xs) ≡ true) [
  | true ↦ λ one. elim (or_cases (eq_by_cmp nat_cmp s x) (list_any (eq_by_cmp nat_cmp s) (filter p xs)) one) [
    | inl here ↦ ap (λ b. b || list_any (eq_by_cmp nat_cmp s) xs) here
    | inr later ↦ or_right (eq_by_cmp nat_cmp s x) (list_any (eq_by_cmp nat_cmp s) xs) (kept_in p xs s later)
  ]
  | false ↦ λ one. or_right (eq_by_cmp nat_cmp s x) (list_any (eq_by_cmp nat_cmp s) xs) (kept_in p xs s one)
] e
