-- The members of a set of ranks in ascending order.
use Rattle.std.proofs.Common.{◌≡◌, ℕ, zero, suc, ◌+◌, ◌<◌, Bool, true, false, cond, nat_lt, ◌==◌, ◌&&◌, ◌||◌, List, [], ◌∷◌, map, refl, sym, ap, ◌∙◌, inl, inr, arith}
use Rattle.std.specs.List.{list_any, list_all, filter, range_with_len, AllByRecursion}
use Rattle.std.specs.List.Sorted.{IsStrictlySortedBy}
use Rattle.std.specs.Ordering.{nat_cmp, eq_by_cmp, is_eq}
use Rattle.std.specs.Cmp.{nat_cmp_total, unsigned_tied, tied_itself}
use Rattle.std.specs.declared.cmp.Ordering.TheVariants.{Less, Equal, Greater}
use Rattle.std.proofs.lemmas.Bool.{true≢false, and_parts, and_from, or_right, or_cases, lt-ltb, eqb-true}
use Rattle.rank_set.specs.Ranks.{Ranks, none, in_order, those, is_strictly_increasing, from_T}

-- all of a range is above what lies below its start
range_above : (x a n : ℕ) → x < a → list_all (λ y. nat_lt x y) (range_with_len a n) ≡ true
range_above x a zero lt = refl
range_above x a (suc n) lt = and_from (nat_lt x a) (list_all (λ y. nat_lt x y) (range_with_len (a + 1) n)) (lt-ltb x a lt) (range_above x (a + 1) n (omega arith))

-- a range is increasing
pub range_increases : (a n : ℕ) → is_strictly_increasing (range_with_len a n) ≡ true
range_increases a zero = refl
range_increases a (suc n) = and_from (list_all (λ y. nat_lt a y) (range_with_len (a + 1) n)) (is_strictly_increasing (range_with_len (a + 1) n)) (range_above a (a + 1) n (omega arith)) (range_increases (a + 1) n)

-- the members that pass a test, in order, are those of the members in order that pass it
pub in_order-those : (t : ℕ → Bool) (s : Ranks) → in_order (those t s) ≡ filter t (in_order s)
unfolding those
in_order-those t s = refl

-- no set has no members in order
pub in_order-none : in_order none ≡ []
in_order-none = refl

all_less : (x : ℕ) (ys : List ℕ) → list_all (λ y. nat_lt x y) ys ≡ true → AllByRecursion (λ y. nat_cmp x y ≡ Less) ys
all_less x [] h = tt
all_less x (y ∷ ys) h =
    let a = and_parts (nat_lt x y) (list_all (λ y. nat_lt x y) ys) h in
    (ap (λ b. cond b Less (cond (x == y) Equal Greater)) a.0, all_less x ys a.1)

sorted_from_increasing : (xs : List ℕ) → is_strictly_increasing xs ≡ true → IsStrictlySortedBy nat_cmp xs
unfolding IsStrictlySortedBy
sorted_from_increasing [] h = tt
sorted_from_increasing (x ∷ xs) h =
    let a = and_parts (list_all (λ y. nat_lt x y) xs) (is_strictly_increasing xs) h in
    (all_less x xs a.0, sorted_from_increasing xs a.1)

-- the members in order are sorted, with no repeats
pub in_order_sorted : (s : Ranks) → IsStrictlySortedBy nat_cmp (in_order s)
in_order_sorted s = sorted_from_increasing (in_order s) (from_T _ s.increasing)

itself_any : (r : ℕ) → eq_by_cmp nat_cmp r r ≡ true
itself_any r = ap is_eq (tied_itself nat_cmp_total r)

-- filters by tests that agree at each element are the same
pub filter_on : (p q : ℕ → Bool) (xs : List ℕ) → ((x : ℕ) → list_any (eq_by_cmp nat_cmp x) xs ≡ true → p x ≡ q x) → filter p xs ≡ filter q xs
filter_on p q [] each = refl
filter_on p q (x ∷ xs) each =
    (λ i. cond (each x (ap (λ b. b || list_any (eq_by_cmp nat_cmp x) xs) (itself_any x)) i) (x ∷ filter p xs) (filter p xs))
    ∙ ap (λ ys. cond (q x) (x ∷ ys) ys) (filter_on p q xs (λ y one. each y (or_right (eq_by_cmp nat_cmp y x) (list_any (eq_by_cmp nat_cmp y) xs) one)))

-- functions that agree at each element map a list alike
pub map_on : {B : Type 0} (f g : ℕ → B) (xs : List ℕ) → ((x : ℕ) → list_any (eq_by_cmp nat_cmp x) xs ≡ true → f x ≡ g x) → map f xs ≡ map g xs
map_on f g [] each = refl
map_on f g (x ∷ xs) each =
    (λ i. each x (ap (λ b. b || list_any (eq_by_cmp nat_cmp x) xs) (itself_any x)) i ∷ map_on f g xs (λ y one. each y (or_right (eq_by_cmp nat_cmp y x) (list_any (eq_by_cmp nat_cmp y) xs) one)) i)

-- a filter of a filter is the filter by both tests
pub filter_twice : (p q : ℕ → Bool) (xs : List ℕ) → filter p (filter q xs) ≡ filter (λ x. q x && p x) xs
filter_twice p q [] = refl
filter_twice p q (x ∷ xs) = elim (q x) as (λ b. filter p (cond b (x ∷ filter q xs) (filter q xs)) ≡ cond (b && p x) (x ∷ filter (λ y. q y && p y) xs) (filter (λ y. q y && p y) xs)) [
  | true ↦ ap (λ ys. cond (p x) (x ∷ ys) ys) (filter_twice p q xs)
  | false ↦ filter_twice p q xs
]

same_number : (x y : ℕ) → eq_by_cmp nat_cmp x y ≡ true → x ≡ y
same_number x y e = eqb-true x y (sym (unsigned_tied x y) ∙ e)

-- each element after the head of a sorted list is above the head
pub above_head : (x : ℕ) (xs : List ℕ) → IsStrictlySortedBy nat_cmp (x ∷ xs) → (y : ℕ) → list_any (eq_by_cmp nat_cmp y) xs ≡ true → nat_cmp x y ≡ Less
unfolding IsStrictlySortedBy
above_head x xs h y one = member xs h.0 one
  where
    member : (ys : List ℕ) → AllByRecursion (λ z. nat_cmp x z ≡ Less) ys → list_any (eq_by_cmp nat_cmp y) ys ≡ true → nat_cmp x y ≡ Less
    member [] a e = absurd (true≢false (sym e))
    member (z ∷ ys) a e = elim (or_cases (eq_by_cmp nat_cmp y z) (list_any (eq_by_cmp nat_cmp y) ys) e) [
      | inl same ↦ ap (nat_cmp x) (same_number y z same) ∙ a.0
      | inr later ↦ member ys a.1 later
    ]
