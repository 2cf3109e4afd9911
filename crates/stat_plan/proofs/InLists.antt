-- What a list holds.
use Rattle.std.proofs.Common.{◌≡◌, ◌⊎◌, inl, inr, ℕ, suc, zero, Bool, true, false, ◌||◌, ◌==◌, List, [], ◌∷◌, ◌++◌, map, filter, cond, Some, take, get_or, length, refl, sym, ap, subst, ◌∙◌, arith, eqb-true, eq-eqb, ◌<◌}
use Rattle.std.specs.List.{AllByRecursion, list_all, list_any, Contains}
use Rattle.std.specs.Ordering.{nat_cmp, eq_by_cmp, is_eq}
use Rattle.std.specs.Cmp.{unsigned_tied, nat_cmp_total, tied_itself}
use Rattle.std.specs.Prelude.{slice_get}
use Rattle.std.specs.List.Sorted.{IsPermutation}
use Rattle.std.proofs.lemmas.List.Sorted.{Contains-permutation}
use Rattle.std.proofs.lemmas.Bool.{true≢false, cases_lt, or_cases, or_left, or_right, and_parts, and_from}
use Rattle.overlay_setup.specs.NodeSets.{In, member, up_to}

pub in_member : (x : ℕ) (xs : List ℕ) → In x xs → member x xs ≡ true
in_member x [] h = absurd h
in_member x (y ∷ ys) (inl e) = or_left (x == y) (member x ys) (eq-eqb x y e)
in_member x (y ∷ ys) (inr h) = or_right (x == y) (member x ys) (in_member x ys h)

pub in_from_member : (x : ℕ) (xs : List ℕ) → member x xs ≡ true → In x xs
in_from_member x [] e = absurd (cc)
in_from_member x (y ∷ ys) e = elim (or_cases (x == y) (member x ys) e) [ inl a ↦ inl (eqb-true x y a) | inr b ↦ inr (in_from_member x ys b) ]

-- a number is in a list just where one of the list compares as the same
pub in_any : (x : ℕ) (xs : List ℕ) → In x xs → list_any (eq_by_cmp nat_cmp x) xs ≡ true
in_any x [] i = absurd i
in_any x (y ∷ ys) (inl e) = or_left (eq_by_cmp nat_cmp x y) (list_any (eq_by_cmp nat_cmp x) ys) (subst (λ a. eq_by_cmp nat_cmp x a ≡ true) e (ap is_eq (tied_itself nat_cmp_total x)))
in_any x (y ∷ ys) (inr i) = or_right (eq_by_cmp nat_cmp x y) (list_any (eq_by_cmp nat_cmp x) ys) (in_any x ys i)

pub any_in : (x : ℕ) (xs : List ℕ) → list_any (eq_by_cmp nat_cmp x) xs ≡ true → In x xs
any_in x [] e = absurd (true≢false (sym e))
any_in x (y ∷ ys) e = elim (or_cases (eq_by_cmp nat_cmp x y) (list_any (eq_by_cmp nat_cmp x) ys) e) [
  | inl same ↦ inl (eqb-true x y (sym (unsigned_tied x y) ∙ same))
  | inr later ↦ inr (any_in x ys later)
]

pub in_append : {X : Type 0} (x : X) (xs ys : List X) → In x (xs ++ ys) → In x xs ⊎ In x ys
in_append x [] ys h = inr h
in_append x (z ∷ zs) ys (inl e) = inl (inl e)
in_append x (z ∷ zs) ys (inr h) = elim (in_append x zs ys h) [ inl i ↦ inl (inr i) | inr i ↦ inr i ]

pub append_left : {X : Type 0} (x : X) (xs ys : List X) → In x xs → In x (xs ++ ys)
append_left x [] ys h = absurd h
append_left x (z ∷ zs) ys (inl e) = inl e
append_left x (z ∷ zs) ys (inr h) = inr (append_left x zs ys h)

pub append_right : {X : Type 0} (x : X) (xs ys : List X) → In x ys → In x (xs ++ ys)
append_right x [] ys h = h
append_right x (z ∷ zs) ys h = inr (append_right x zs ys h)

pub in_take : {X : Type 0} (x : X) (n : ℕ) (xs : List X) → In x (take n xs) → In x xs
in_take x zero xs h = absurd h
in_take x (suc n) [] h = absurd h
in_take x (suc n) (y ∷ ys) (inl e) = inl e
in_take x (suc n) (y ∷ ys) (inr h) = inr (in_take x n ys h)

pub eqb_self : (x : ℕ) → (x == x) ≡ true
eqb_self x = eq-eqb x x refl

pub list_all_in : {X : Type 0} (test : X → Bool) (xs : List X) (x : X) → list_all test xs ≡ true → In x xs → test x ≡ true
list_all_in test [] x e i = absurd i
list_all_in test (y ∷ ys) x e (inl k) = subst (λ a. test a ≡ true) (sym k) (and_parts (test y) (list_all test ys) e).0
list_all_in test (y ∷ ys) x e (inr k) = list_all_in test ys x (and_parts (test y) (list_all test ys) e).1 k

pub list_all_from : {X : Type 0} (test : X → Bool) (xs : List X) → ((x : X) → In x xs → test x ≡ true) → list_all test xs ≡ true
list_all_from test [] h = refl
list_all_from test (y ∷ ys) h = and_from (test y) (list_all test ys) (h y (inl refl)) (list_all_from test ys (λ x i. h x (inr i)))

-- an element is in the list
pub in_at : {X : Type 0} (xs : List X) (i : ℕ) (d : X) → i < length xs → In (get_or xs i d) xs
in_at [] i d lt = absurd (omega arith)
in_at (x ∷ xs) zero d lt = inl refl
in_at (x ∷ xs) (suc i) d lt = inr (in_at xs i d (omega arith))

pub member-append : (x : ℕ) (xs ys : List ℕ) → member x (xs ++ ys) ≡ (member x xs || member x ys)
member-append x [] ys = refl
member-append x (z ∷ zs) ys = ap (λ b. (x == z) || b) (member-append x zs ys) ∙ regroup (x == z) (member x zs) (member x ys)
  where
    regroup : (a b c : Bool) → (a || (b || c)) ≡ ((a || b) || c)
    regroup true b c = refl
    regroup false b c = refl

-- std's word for an element of a list
pub in_contains : {X : Type 0} (x : X) (xs : List X) → In x xs → Contains xs x
in_contains x [] i = absurd i
in_contains x (y ∷ ys) (inl e) = (0, omega arith, sym e)
in_contains x (y ∷ ys) (inr i) = let c = in_contains x ys i in (suc c.0, (let lt = c.1 in omega arith), c.2)

pub in_from_contains : {X : Type 0} (x : X) (xs : List X) → Contains xs x → In x xs
in_from_contains x xs c = subst (λ y. In y xs) c.2 (in_at xs c.0 x c.1)

-- a list in another order
pub in_permuted : {X : Type 0} (x : X) (xs ys : List X) → IsPermutation xs ys → In x xs → In x ys
in_permuted x xs ys same i = in_from_contains x ys (Contains-permutation xs ys x same (in_contains x xs i))

pub in_map : {X Y : Type 0} (f : X → Y) (x : X) (xs : List X) → In x xs → In (f x) (map f xs)
in_map f x [] i = absurd i
in_map f x (y ∷ ys) (inl e) = inl (ap f e)
in_map f x (y ∷ ys) (inr i) = inr (in_map f x ys i)

pub in_from_map : {X Y : Type 0} (f : X → Y) (xs : List X) (y : Y) → In y (map f xs) → (x : X) × (In x xs × (y ≡ f x))
in_from_map f [] y i = absurd i
in_from_map f (x ∷ xs) y (inl e) = (x, (inl refl, e))
in_from_map f (x ∷ xs) y (inr i) = let from = in_from_map f xs y i in (from.0, (inr from.1.0, from.1.1))

pub up_to_in : (n i : ℕ) → i < n → In i (up_to n)
up_to_in zero i lt = absurd (omega arith)
up_to_in (suc n) i lt = elim (cases_lt i n) [
  | (inl before) ↦ append_left i (up_to n) (n ∷ []) (up_to_in n i before)
  | (inr last) ↦ append_right i (up_to n) (n ∷ []) (inl (omega (arith, lt, last)))
]

pub up_to_below : (n i : ℕ) → In i (up_to n) → i < n
up_to_below zero i there = absurd there
up_to_below (suc n) i there = elim (in_append i (up_to n) (n ∷ []) there) [
  | (inl before) ↦ let lt = up_to_below n i before in omega (arith, lt)
  | (inr last) ↦ elim last [ (inl e) ↦ omega (arith, e) | (inr nothing) ↦ absurd nothing ]
]

-- all numbers below n are below n
pub all_below : (n : ℕ) → AllByRecursion (λ k. k < n) (up_to n)
all_below n = each (up_to n) (up_to_below n)
  where
    each : (xs : List ℕ) → ((x : ℕ) → In x xs → x < n) → AllByRecursion (λ k. k < n) xs
    each [] h = tt
    each (x ∷ xs) h = (h x (inl refl), each xs (λ y i. h y (inr i)))

-- what a filter keeps
pub in_filter : {X : Type 0} (test : X → Bool) (x : X) (xs : List X) → In x xs → test x ≡ true → In x (filter test xs)
in_filter test x [] i passes = absurd i
in_filter test x (y ∷ ys) (inl e) passes = subst (λ b. In x (cond b (y ∷ filter test ys) (filter test ys))) (sym (ap test (sym e) ∙ passes)) (inl e)
in_filter test x (y ∷ ys) (inr i) passes = by (in_filter test x ys i passes) (test y)
  where
    by : In x (filter test ys) → (b : Bool) → In x (cond b (y ∷ filter test ys) (filter test ys))
    by there true = inr there
    by there false = there

pub in_from_filter : {X : Type 0} (test : X → Bool) (x : X) (xs : List X) → In x (filter test xs) → In x xs × (test x ≡ true)
in_from_filter test x [] i = absurd i
in_from_filter {X} test x (y ∷ ys) i = by (in_from_filter test x ys) (test y) refl i
  where
    by : (In x (filter test ys) → In x ys × (test x ≡ true)) → (b : Bool) → test y ≡ b → In x (cond b (y ∷ filter test ys) (filter test ys)) → In x (y ∷ ys) × (test x ≡ true)
    by later true e (inl is) = (inl is, ap test is ∙ e)
    by later true e (inr there) = let r = later there in (inr r.0, r.1)
    by later false e there = let r = later there in (inr r.0, r.1)

-- what a filter keeps, mapped
pub in_map_filter : {X Y : Type 0} (f : X → Y) (test : X → Bool) (xs : List X) (y : Y) → In y (map f (filter test xs)) → (x : X) × (In x xs) × (test x ≡ true) × (y ≡ f x)
in_map_filter f test [] y h = absurd h
in_map_filter {X} {Y} f test (z ∷ zs) y h = go (in_map_filter f test zs y) (test z) refl h
  where
    go : (In y (map f (filter test zs)) → (x : X) × (In x zs) × (test x ≡ true) × (y ≡ f x)) → (b : Bool) → test z ≡ b → In y (map f (cond b (z ∷ filter test zs) (filter test zs))) → (x : X) × (In x (z ∷ zs)) × (test x ≡ true) × (y ≡ f x)
    go ih true e (inl k) = (z, inl refl, e, k)
    go ih true e (inr k) = let r = ih k in (r.0, inr r.1, r.2, r.3)
    go ih false e k = let r = ih k in (r.0, inr r.1, r.2, r.3)

pub nil-no : {X : Type 0} (x : X) (xs : List X) → In x xs → xs ≡ [] → ⊥
nil-no x [] h e = h
nil-no x (y ∷ ys) h e = cc

-- an element that passes a test
pub any_from_in : {X : Type 0} (test : X → Bool) (x : X) (xs : List X) → In x xs → test x ≡ true → list_any test xs ≡ true
any_from_in test x [] i passes = absurd i
any_from_in test x (y ∷ ys) (inl e) passes = or_left (test y) (list_any test ys) (ap test (sym e) ∙ passes)
any_from_in test x (y ∷ ys) (inr i) passes = or_right (test y) (list_any test ys) (any_from_in test x ys i passes)

pub in_from_any : {X : Type 0} (test : X → Bool) (xs : List X) → list_any test xs ≡ true → (x : X) × (In x xs × (test x ≡ true))
in_from_any test [] e = absurd (true≢false (sym e))
in_from_any test (y ∷ ys) e = elim (or_cases (test y) (list_any test ys) e) [
  | (inl here) ↦ (y, (inl refl, here))
  | (inr later) ↦ let r = in_from_any test ys later in (r.0, (inr r.1.0, r.1.1))
]

-- the place of an element
pub place_of : {X : Type 0} (x : X) (xs : List X) → In x xs → (i : ℕ) × ((i < length xs) × (slice_get xs i ≡ Some x))
place_of x [] i = absurd i
place_of x (y ∷ ys) (inl e) = (0, (omega arith, ap Some (sym e)))
place_of x (y ∷ ys) (inr i) = let r = place_of x ys i in (suc r.0, (let lt = r.1.0 in omega arith, r.1.1))
