-- Ascending lists of numbers: one number more or less, a filter, and the numbers below n.
use Rattle.std.proofs.Common.{◌≡◌, inl, inr, ℕ, suc, zero, ◌+◌, Bool, true, false, cond, ◌==◌, nat_lt, List, [], ◌∷◌, ◌++◌, filter, length, refl, sym, ap, subst, ◌∙◌, arith, ◌<◌, ◌≤◌, lt_trans, Less}
use Rattle.std.specs.List.Sorted.{IsStrictlySortedBy}
use Rattle.std.specs.Ordering.{nat_cmp}
use Rattle.std.proofs.lemmas.Bool.{eqb-false, ltb-false, ltb-true, and_parts}
use Rattle.std.proofs.lemmas.Bool.Decides.{nat_tests}
use Rattle.std.specs.List.{list_all}
use Rattle.rank_set.specs.Ranks.{is_strictly_increasing}
use Rattle.overlay_setup.specs.NodeSets.{up_to, In, with_number, without_number, IsStrictlyIncreasing}
use Rattle.stat_plan.proofs.FirstOver.{all_in}
use Rattle.stat_plan.proofs.InLists.{in_append, in_from_filter, up_to_below}
use Rattle.stat_plan.proofs.KinLemmas.{in_with_number, in_without}

above : (x : ℕ) (ys : List ℕ) → list_all (λ y. nat_lt x y) ys ≡ true → (y : ℕ) → In y ys → x < y
above x [] h y i = absurd i
above x (z ∷ zs) h y (inl e) = subst (λ a. x < a) (sym e) (ltb-true x z (and_parts (nat_lt x z) (list_all (λ y. nat_lt x y) zs) h).0)
above x (z ∷ zs) h y (inr i) = above x zs (and_parts (nat_lt x z) (list_all (λ y. nat_lt x y) zs) h).1 y i

-- the test of a list for order, and what it says
pub ascending : (xs : List ℕ) → is_strictly_increasing xs ≡ true → IsStrictlyIncreasing xs
ascending [] h = tt
ascending (x ∷ xs) h = let a = and_parts (list_all (λ y. nat_lt x y) xs) (is_strictly_increasing xs) h in (above x xs a.0, ascending xs a.1)

pub with_number_increases : (x : ℕ) (ys : List ℕ) → IsStrictlyIncreasing ys → IsStrictlyIncreasing (with_number x ys)
with_number_increases x [] h = (λ y i. absurd i, tt)
with_number_increases x (z ∷ zs) h = go (with_number_increases x zs h.1) (nat_lt x z) (x == z) refl refl
  where
    go : IsStrictlyIncreasing (with_number x zs) → (a b : Bool) → nat_lt x z ≡ a → (x == z) ≡ b → IsStrictlyIncreasing (cond a (x ∷ z ∷ zs) (cond b (z ∷ zs) (z ∷ with_number x zs)))
    go ih true b ea eb = let lt : x < z = ltb-true x z ea in (λ y i. elim i [ inl e ↦ subst (λ t. x < t) (sym e) lt | inr j ↦ lt_trans lt (h.0 y j) ], h)
    go ih false true ea eb = h
    go ih false false ea eb =
        let le : z ≤ x = ltb-false x z ea in
        let ne : x ≡ z → ⊥ = eqb-false x z eb in
        let lt : z < x = omega arith in
        (λ y i. elim (in_with_number y x zs i) [ inl e ↦ subst (λ t. z < t) (sym e) lt | inr j ↦ h.0 y j ], ih)

pub without_increases : (x : ℕ) (ys : List ℕ) → IsStrictlyIncreasing ys → IsStrictlyIncreasing (without_number x ys)
without_increases x [] h = tt
without_increases x (z ∷ zs) h = go (without_increases x zs h.1) (x == z)
  where
    go : IsStrictlyIncreasing (without_number x zs) → (b : Bool) → IsStrictlyIncreasing (cond b (without_number x zs) (z ∷ without_number x zs))
    go ih true = ih
    go ih false = (λ y i. h.0 y (in_without y x zs i), ih)

pub filter_increases : (test : ℕ → Bool) (ys : List ℕ) → IsStrictlyIncreasing ys → IsStrictlyIncreasing (filter test ys)
filter_increases test [] h = tt
filter_increases test (z ∷ zs) h = go (filter_increases test zs h.1) (test z)
  where
    go : IsStrictlyIncreasing (filter test zs) → (b : Bool) → IsStrictlyIncreasing (cond b (z ∷ filter test zs) (filter test zs))
    go ih true = (λ y i. h.0 y (in_from_filter test y zs i).0, ih)
    go ih false = ih

append_increases : (xs : List ℕ) (y : ℕ) → IsStrictlyIncreasing xs → ((x : ℕ) → In x xs → x < y) → IsStrictlyIncreasing (xs ++ y ∷ [])
append_increases [] y h f = (λ z i. absurd i, tt)
append_increases (x ∷ xs) y h f = (λ z i. elim (in_append z xs (y ∷ []) i) [ inl j ↦ h.0 z j | inr j ↦ elim j [ inl e ↦ subst (λ a. x < a) (sym e) (f x (inl refl)) | inr k ↦ absurd k ] ], append_increases xs y h.1 (λ z i. f z (inr i)))

pub up_to_increases : (n : ℕ) → IsStrictlyIncreasing (up_to n)
up_to_increases zero = tt
up_to_increases (suc n) = append_increases (up_to n) n (up_to_increases n) (λ x i. up_to_below n x i)

-- ascending lists of the same numbers are the same
pub same_increasing : (xs ys : List ℕ) → IsStrictlyIncreasing xs → IsStrictlyIncreasing ys → ((n : ℕ) → In n xs → In n ys) → ((n : ℕ) → In n ys → In n xs) → xs ≡ ys
same_increasing [] [] h k f g = refl
same_increasing [] (y ∷ ys) h k f g = absurd (g y (inl refl))
same_increasing (x ∷ xs) [] h k f g = absurd (f x (inl refl))
same_increasing (x ∷ xs) (y ∷ ys) h k f g =
    let e : x ≡ y = elim (f x (inl refl)) [
      | inl e ↦ e
      | inr i ↦ elim (g y (inl refl)) [ inl e ↦ sym e | inr j ↦ absurd (let a : y < x = k.0 x i in let b : x < y = h.0 y j in omega arith) ]
    ] in
    ap (λ z. z ∷ xs) e
    ∙ ap (λ zs. y ∷ zs)
    (same_increasing xs ys h.1 k.1
    (λ n i. elim (f n (inr i)) [ inl a ↦ absurd (let b : x < n = h.0 n i in omega arith) | inr j ↦ j ])
    (λ n i. elim (g n (inr i)) [ inl a ↦ absurd (let b : y < n = k.0 n i in omega arith) | inr j ↦ j ]))

-- what an order calls less is less
less_from_order : (x y : ℕ) → nat_cmp x y ≡ Less → x < y
less_from_order x y h = grind (arith, nat_tests)

-- std's word for an ascending list
pub increasing_from_sorted : (xs : List ℕ) → IsStrictlySortedBy nat_cmp xs → IsStrictlyIncreasing xs
unfolding IsStrictlySortedBy
increasing_from_sorted [] h = tt
increasing_from_sorted (x ∷ xs) h = (λ y i. less_from_order x y (all_in (λ y. nat_cmp x y ≡ Less) xs y h.0 i), increasing_from_sorted xs h.1)

-- ascending numbers of a range are no more than it has
pub ascending_within_limit : (xs : List ℕ) (low high : ℕ) → low ≤ high → IsStrictlyIncreasing xs → ((x : ℕ) → In x xs → (low ≤ x) × (x < high)) → low + length xs ≤ high
ascending_within_limit [] low high le increasing within = omega arith
ascending_within_limit (x ∷ xs) low high le increasing within =
    let here : (low ≤ x) × (x < high) = within x (inl refl) in
    let most : suc x ≤ high = here.1 in
    let rest : suc x + length xs ≤ high = ascending_within_limit xs (suc x) high most increasing.1 (λ y i. (increasing.0 y i, (within y (inr i)).1)) in
    let least : low ≤ x = here.0 in
    omega arith
