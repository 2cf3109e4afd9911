-- Numbers that are added to an ascending list and taken out of it.
use Rattle.std.proofs.Common.{◌≡◌, ◌<◌, ◌≤◌, ℕ, ◌+◌, Bool, true, false, not, ◌==◌, nat_lt, cond, List, [], ◌∷◌, ◌++◌, take, drop, get_or, filter, length, refl, sym, ap, ◌∙◌, arith, le-ltb, lt-ltb, ne_eqb, eq-eqb}
use Rattle.std.specs.List.{AllByRecursion, insert}
use Rattle.std.specs.Cmp.{nat_eq_equiv}
use Rattle.std.proofs.lemmas.List.{drop_more, take_more, take-append-drop, append_assoc}
use Rattle.std.proofs.Math.ListN.{drop_of_length-le}
use Rattle.overlay_setup.specs.NodeSets.{with_number, without_number}

-- ---- the first number of a list is less, the same or greater

with_less : (x y : ℕ) (ys : List ℕ) → y < x → with_number x (y ∷ ys) ≡ y ∷ with_number x ys
with_less x y ys lt =
    ap (λ b. cond b (x ∷ y ∷ ys) (cond (x == y) (y ∷ ys) (y ∷ with_number x ys))) (le-ltb x y (omega (arith, lt)))
    ∙ ap (λ b. cond b (y ∷ ys) (y ∷ with_number x ys)) (ne_eqb x y (λ e. omega (arith, lt, e)))

with_same : (x y : ℕ) (ys : List ℕ) → x ≡ y → with_number x (y ∷ ys) ≡ y ∷ ys
with_same x y ys e =
    ap (λ b. cond b (x ∷ y ∷ ys) (cond (x == y) (y ∷ ys) (y ∷ with_number x ys))) (le-ltb x y (omega (arith, e)))
    ∙ ap (λ b. cond b (y ∷ ys) (y ∷ with_number x ys)) (eq-eqb x y e)

with_greater : (x y : ℕ) (ys : List ℕ) → x < y → with_number x (y ∷ ys) ≡ x ∷ y ∷ ys
with_greater x y ys lt = ap (λ b. cond b (x ∷ y ∷ ys) (cond (x == y) (y ∷ ys) (y ∷ with_number x ys))) (lt-ltb x y lt)

-- ---- those before a place are less than the number

-- the number goes behind the first i
abbrev pub IsPast : ℕ → List ℕ → ℕ → Type 0
IsPast x xs i = with_number x xs ≡ take i xs ++ with_number x (drop i xs)

pub past_more : (x : ℕ) (xs : List ℕ) (i d : ℕ) → i < length xs → get_or xs i d < x → IsPast x xs i → IsPast x xs (i + 1)
past_more x xs i d lt less past =
    past
    ∙ ap (λ zs. take i xs ++ with_number x zs) (drop_more xs i d lt)
    ∙ ap (λ zs. take i xs ++ zs) (with_less x (get_or xs i d) (drop (i + 1) xs) less)
    ∙ sym (append_assoc (take i xs) (get_or xs i d ∷ []) (with_number x (drop (i + 1) xs)))
    ∙ ap (λ zs. zs ++ with_number x (drop (i + 1) xs)) (sym (take_more xs i d lt))

pub past_same : (x : ℕ) (xs : List ℕ) (i d : ℕ) → i < length xs → x ≡ get_or xs i d → IsPast x xs i → xs ≡ with_number x xs
past_same x xs i d lt e past =
    sym (past
    ∙ ap (λ zs. take i xs ++ with_number x zs) (drop_more xs i d lt)
    ∙ ap (λ zs. take i xs ++ zs) (with_same x (get_or xs i d) (drop (i + 1) xs) e)
    ∙ ap (λ zs. take i xs ++ zs) (sym (drop_more xs i d lt))
    ∙ take-append-drop i xs)

pub past_greater : (x : ℕ) (xs : List ℕ) (i d : ℕ) → i < length xs → x < get_or xs i d → IsPast x xs i → insert xs i x ≡ with_number x xs
past_greater x xs i d lt less past =
    sym (past
    ∙ ap (λ zs. take i xs ++ with_number x zs) (drop_more xs i d lt)
    ∙ ap (λ zs. take i xs ++ zs) (with_greater x (get_or xs i d) (drop (i + 1) xs) less)
    ∙ ap (λ zs. take i xs ++ x ∷ zs) (sym (drop_more xs i d lt)))

pub past_all : (x : ℕ) (xs : List ℕ) (i : ℕ) → length xs ≤ i → IsPast x xs i → xs ++ x ∷ [] ≡ with_number x xs
past_all x xs i le past =
    sym (past
    ∙ ap (λ zs. take i xs ++ with_number x zs) none
    ∙ ap (λ zs. zs ++ x ∷ []) (sym (append_nil (take i xs)) ∙ ap (λ zs. take i xs ++ zs) (sym none) ∙ take-append-drop i xs))
  where
    none : drop i xs ≡ []
    none = drop_of_length-le xs le

    append_nil : (zs : List ℕ) → zs ++ [] ≡ zs
    append_nil [] = refl
    append_nil (z ∷ zs) = ap (λ ws. z ∷ ws) (append_nil zs)

-- ---- one number less

pub filtered_out : (x : ℕ) (ys : List ℕ) → filter (λ y. not (y == x)) ys ≡ without_number x ys
filtered_out x [] = refl
filtered_out x (y ∷ ys) =
    ap (λ b. cond (not b) (y ∷ filter (λ y. not (y == x)) ys) (filter (λ y. not (y == x)) ys)) (nat_eq_equiv.symm y x)
    ∙ by (x == y) (filtered_out x ys)
  where
    by : (b : Bool) → filter (λ y. not (y == x)) ys ≡ without_number x ys → cond (not b) (y ∷ filter (λ y. not (y == x)) ys) (filter (λ y. not (y == x)) ys) ≡ cond b (without_number x ys) (y ∷ without_number x ys)
    by true e = e
    by false e = ap (λ zs. y ∷ zs) e

-- ---- what holds of all numbers

pub all_with : (P : ℕ → Type 0) (x : ℕ) (ys : List ℕ) → P x → AllByRecursion P ys → AllByRecursion P (with_number x ys)
all_with P x [] holds all = (holds, tt)
all_with P x (y ∷ ys) holds all = by (nat_lt x y) (x == y) (all_with P x ys holds all.1)
  where
    by : (a b : Bool) → AllByRecursion P (with_number x ys) → AllByRecursion P (cond a (x ∷ y ∷ ys) (cond b (y ∷ ys) (y ∷ with_number x ys)))
    by true b rest = (holds, all)
    by false true rest = all
    by false false rest = (all.0, rest)

pub all_without : (P : ℕ → Type 0) (x : ℕ) (ys : List ℕ) → AllByRecursion P ys → AllByRecursion P (without_number x ys)
all_without P x [] all = all
all_without P x (y ∷ ys) all = by (x == y) (all_without P x ys all.1)
  where
    by : (b : Bool) → AllByRecursion P (without_number x ys) → AllByRecursion P (cond b (without_number x ys) (y ∷ without_number x ys))
    by true rest = rest
    by false rest = (all.0, rest)
