-- A number in an ascending list: where a search ends, it is put in or taken out in order.
use Rattle.std.proofs.Common.{◌≡◌, ◌≢◌, ◌∙◌, ◌<◌, ◌≤◌, ℕ, zero, suc, Bool, true, false, not, ◌==◌, ◌||◌, cond, List, [], ◌∷◌, length, get_or, refl, sym, ap, subst, arith, inl, inr, Less, Equal, Greater, Result, Ok, Err}
use Rattle.std.specs.Prelude.{insert, remove, is_ok}
use Rattle.std.proofs.lemmas.Bool.{cases_lt, eq-eqb, ne_eqb}
use Rattle.std.proofs.lemmas.Bool.Decides.{nat_tests}
use Rattle.std.proofs.lemmas.List.Sorted.{searched}
use Rattle.std.proofs.lemmas.Map.Keys.{below_from_sorted, non_decreasing_from_sorted, sorted_tail}
use Rattle.std.specs.BTreeSet.{insert_key}
use Rattle.std.specs.List.{AllByRecursion, list_any}
use Rattle.std.specs.List.Sorted.{IsBinarySearchResult, IsStrictlySortedBy}
use Rattle.std.specs.Ordering.{nat_cmp, match_ordering}
use Rattle.node_inbox.specs.Queues.{without_sender}

pub compares_less : (x y : ℕ) → x < y → nat_cmp x y ≡ Less
compares_less x y h = grind (arith, nat_tests)

pub compares_equal : (x y : ℕ) → x ≡ y → nat_cmp x y ≡ Equal
compares_equal x y h = grind (arith, nat_tests)

pub compares_greater : (x y : ℕ) → y < x → nat_cmp x y ≡ Greater
compares_greater x y h = grind (arith, nat_tests)

-- one step of an insert in order
pub steps_less : (x y : ℕ) (ys : List ℕ) → nat_cmp x y ≡ Less → insert_key nat_cmp (y ∷ ys) x ≡ x ∷ y ∷ ys
steps_less x y ys h = ap (λ o. match_ordering o (x ∷ y ∷ ys) (y ∷ ys) (y ∷ insert_key nat_cmp ys x)) h

pub steps_equal : (x y : ℕ) (ys : List ℕ) → nat_cmp x y ≡ Equal → insert_key nat_cmp (y ∷ ys) x ≡ y ∷ ys
steps_equal x y ys h = ap (λ o. match_ordering o (x ∷ y ∷ ys) (y ∷ ys) (y ∷ insert_key nat_cmp ys x)) h

pub steps_greater : (x y : ℕ) (ys : List ℕ) → nat_cmp x y ≡ Greater → insert_key nat_cmp (y ∷ ys) x ≡ y ∷ insert_key nat_cmp ys x
steps_greater x y ys h = ap (λ o. match_ordering o (x ∷ y ∷ ys) (y ∷ ys) (y ∷ insert_key nat_cmp ys x)) h

-- a number below all others goes before them
pub before_all : (x : ℕ) (ys : List ℕ) → AllByRecursion (λ y. nat_cmp x y ≡ Less) ys → insert_key nat_cmp ys x ≡ x ∷ ys
before_all x [] h = refl
before_all x (y ∷ ys) h = steps_less x y ys h.0

-- ---- what a search says

pub search_failed : (xs : List ℕ) (x i : ℕ) (r : Result ℕ ℕ) → r ≡ Err i → IsBinarySearchResult (λ y. nat_cmp y x) xs r → IsStrictlySortedBy nat_cmp xs
    → (i ≤ length xs) × ((k : ℕ) → k < i → get_or xs k 0 < x) × ((k : ℕ) → i ≤ k → k < length xs → x < get_or xs k 0)
search_failed xs x i (Ok j) is found increasing = cc
search_failed xs x i (Err j) is found increasing =
    let e : j ≡ i = cc in
    subst (λ n. (n ≤ length xs) × ((k : ℕ) → k < n → get_or xs k 0 < x) × ((k : ℕ) → n ≤ k → k < length xs → x < get_or xs k 0)) e
    (searched xs x (Err j) found (λ a b. non_decreasing_from_sorted xs increasing a b 0))

pub search_found : (xs : List ℕ) (x i : ℕ) (r : Result ℕ ℕ) → r ≡ Ok i → IsBinarySearchResult (λ y. nat_cmp y x) xs r → IsStrictlySortedBy nat_cmp xs
    → (i < length xs) × (get_or xs i 0 ≡ x)
search_found xs x i (Err j) is found increasing = cc
search_found xs x i (Ok j) is found increasing =
    let e : j ≡ i = cc in
    subst (λ n. (n < length xs) × (get_or xs n 0 ≡ x)) e (searched xs x (Ok j) found (λ a b. non_decreasing_from_sorted xs increasing a b 0))

-- ---- the edits

added_at : (x i : ℕ) (xs : List ℕ) → i ≤ length xs → ((k : ℕ) → k < i → get_or xs k 0 < x) → ((k : ℕ) → i ≤ k → k < length xs → x < get_or xs k 0)
    → insert xs i x ≡ insert_key nat_cmp xs x
added_at x zero [] le below above = refl
added_at x (suc i) [] le below above = absurd (omega arith)
added_at x zero (y ∷ ys) le below above = sym (steps_less x y ys (compares_less x y (above 0 (omega arith) (omega arith))))
added_at x (suc i) (y ∷ ys) le below above =
    ap (λ l. y ∷ l) (added_at x i ys (omega arith) (λ k lt. below (suc k) (omega arith)) (λ k at lt. above (suc k) (omega arith) (omega arith)))
    ∙ sym (steps_greater x y ys (compares_greater x y (below 0 (omega arith))))

there_at : (x i : ℕ) (xs : List ℕ) → IsStrictlySortedBy nat_cmp xs → i < length xs → get_or xs i 0 ≡ x → xs ≡ insert_key nat_cmp xs x
there_at x i [] increasing lt is = absurd (omega arith)
there_at x zero (y ∷ ys) increasing lt is = sym (steps_equal x y ys (compares_equal x y (sym is)))
there_at x (suc i) (y ∷ ys) increasing lt is =
    ap (λ l. y ∷ l) (there_at x i ys (sorted_tail nat_cmp y ys increasing) (omega arith) is)
    ∙ sym (steps_greater x y ys (compares_greater x y (subst (λ n. y < n) is (below_from_sorted (y ∷ ys) 0 (suc i) 0 increasing (omega arith) lt))))

-- a number that isn't there can't be taken out
absent : (x : ℕ) (xs : List ℕ) → ((k : ℕ) → k < length xs → get_or xs k 0 ≢ x) → xs ≡ without_sender x xs
absent x [] other = refl
absent x (y ∷ ys) other =
    ap (λ l. y ∷ l) (absent x ys (λ k lt. other (suc k) (omega arith)))
    ∙ sym (ap (λ b. cond (not b) (y ∷ without_sender x ys) (without_sender x ys)) (ne_eqb y x (other 0 (omega arith))))

removed_at : (x i : ℕ) (xs : List ℕ) → IsStrictlySortedBy nat_cmp xs → i < length xs → get_or xs i 0 ≡ x → remove xs i ≡ without_sender x xs
removed_at x i [] increasing lt is = absurd (omega arith)
removed_at x zero (y ∷ ys) increasing lt is =
    absent x ys (λ k at same. let a : get_or (y ∷ ys) 0 0 < get_or (y ∷ ys) (suc k) 0 = below_from_sorted (y ∷ ys) 0 (suc k) 0 increasing (omega arith) (omega arith) in omega arith)
    ∙ sym (ap (λ b. cond (not b) (y ∷ without_sender x ys) (without_sender x ys)) (eq-eqb y x is))
removed_at x (suc i) (y ∷ ys) increasing lt is =
    let a : get_or (y ∷ ys) 0 0 < get_or (y ∷ ys) (suc i) 0 = below_from_sorted (y ∷ ys) 0 (suc i) 0 increasing (omega arith) lt in
    ap (λ l. y ∷ l) (removed_at x i ys (sorted_tail nat_cmp y ys increasing) (omega arith) is)
    ∙ sym (ap (λ b. cond (not b) (y ∷ without_sender x ys) (without_sender x ys)) (ne_eqb y x (λ same. omega arith)))

-- ---- the edits after a search of an equal list

pub adds_nothing : (xs ys : List ℕ) (x i : ℕ) (r : Result ℕ ℕ) → ys ≡ xs → r ≡ Ok i → IsBinarySearchResult (λ y. nat_cmp y x) ys r → IsStrictlySortedBy nat_cmp xs
    → xs ≡ insert_key nat_cmp xs x
adds_nothing xs ys x i r same is found increasing =
    let at = search_found xs x i r is (subst (λ l. IsBinarySearchResult (λ y. nat_cmp y x) l r) same found) increasing in
    there_at x i xs increasing at.0 at.1

pub adds : (xs ys : List ℕ) (x i : ℕ) (r : Result ℕ ℕ) → ys ≡ xs → r ≡ Err i → IsBinarySearchResult (λ y. nat_cmp y x) ys r → IsStrictlySortedBy nat_cmp xs
    → insert xs i x ≡ insert_key nat_cmp xs x
adds xs ys x i r same is found increasing =
    let at = search_failed xs x i r is (subst (λ l. IsBinarySearchResult (λ y. nat_cmp y x) l r) same found) increasing in
    added_at x i xs at.0 at.1 at.2

pub removes_nothing : (xs ys : List ℕ) (x i : ℕ) (r : Result ℕ ℕ) → ys ≡ xs → r ≡ Err i → IsBinarySearchResult (λ y. nat_cmp y x) ys r → IsStrictlySortedBy nat_cmp xs
    → xs ≡ without_sender x xs
removes_nothing xs ys x i r same is found increasing =
    let at = search_failed xs x i r is (subst (λ l. IsBinarySearchResult (λ y. nat_cmp y x) l r) same found) increasing in
    absent x xs (λ k lt e. elim (cases_lt k i) [
      | inl a ↦ let b = at.1 k a in omega arith
      | inr a ↦ let b = at.2 k a lt in omega arith
    ])

pub removes : (xs ys : List ℕ) (x i : ℕ) (r : Result ℕ ℕ) → ys ≡ xs → r ≡ Ok i → IsBinarySearchResult (λ y. nat_cmp y x) ys r → IsStrictlySortedBy nat_cmp xs
    → remove xs i ≡ without_sender x xs
removes xs ys x i r same is found increasing =
    let at = search_found xs x i r is (subst (λ l. IsBinarySearchResult (λ y. nat_cmp y x) l r) same found) increasing in
    removed_at x i xs increasing at.0 at.1

-- ---- whether a number is there

any_at : (x i : ℕ) (xs : List ℕ) → i < length xs → get_or xs i 0 ≡ x → true ≡ list_any (λ s. s == x) xs
any_at x i [] lt is = absurd (omega arith)
any_at x zero (y ∷ ys) lt is = sym (ap (λ b. b || list_any (λ s. s == x) ys) (eq-eqb y x is))
any_at x (suc i) (y ∷ ys) lt is = or_true (y == x) (any_at x i ys (omega arith) is)
  where
    or_true : (b : Bool) {c : Bool} → true ≡ c → true ≡ (b || c)
    or_true true h = refl
    or_true false h = h

none_at : (x : ℕ) (xs : List ℕ) → ((k : ℕ) → k < length xs → get_or xs k 0 ≢ x) → false ≡ list_any (λ s. s == x) xs
none_at x [] other = refl
none_at x (y ∷ ys) other =
    none_at x ys (λ k lt. other (suc k) (omega arith))
    ∙ sym (ap (λ b. b || list_any (λ s. s == x) ys) (ne_eqb y x (other 0 (omega arith))))

pub search_tells : (xs : List ℕ) (x : ℕ) (r : Result ℕ ℕ) → IsBinarySearchResult (λ y. nat_cmp y x) xs r → IsStrictlySortedBy nat_cmp xs → is_ok r ≡ list_any (λ s. s == x) xs
search_tells xs x (Ok i) found increasing =
    let at = search_found xs x i (Ok i) refl found increasing in
    any_at x i xs at.0 at.1
search_tells xs x (Err i) found increasing =
    let at = search_failed xs x i (Err i) refl found increasing in
    none_at x xs (λ k lt e. elim (cases_lt k i) [
      | inl a ↦ let b = at.1 k a in omega arith
      | inr a ↦ let b = at.2 k a lt in omega arith
    ])
