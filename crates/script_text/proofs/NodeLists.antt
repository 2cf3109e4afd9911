-- Ascending lists of nodes.
use Rattle.std.proofs.Common.{◌≡◌, ◌≢◌, ℕ, zero, suc, ◌<◌, ◌⊎◌, inl, inr, Bool, true, false, cond, nat_lt, nat_eq, List, [], ◌∷◌, ◌++◌, filter, refl, sym, ap, ◌∙◌, subst, arith, rules}
use Rattle.std.specs.List.{AllByRecursion}
use Rattle.std.proofs.lemmas.Bool.{ltb-true, ltb-false, eqb-false}
use Rattle.std.proofs.lemmas.List.Elements.{filter-append}
use Rattle.overlay_setup.specs.NodeSets.{In, with_number, IsStrictlyIncreasing, up_to}

-- a list that isn't empty
pub some_first : {X : Type 0} (x : X) (xs : List X) → x ∷ xs ≢ []
some_first x xs e = cc

-- one number more
module _ (x : ℕ) where
  pub number_all : (P : ℕ → Type 0) (ys : List ℕ) → P x → AllByRecursion P ys → AllByRecursion P (with_number x ys)
  number_all P [] here all = (here, all)
  number_all P (y ∷ ys) here all = by (nat_lt x y) (nat_eq x y) (number_all P ys here all.1)
    where
      by : (a b : Bool) → AllByRecursion P (with_number x ys) → AllByRecursion P (cond a (x ∷ y ∷ ys) (cond b (y ∷ ys) (y ∷ with_number x ys)))
      by true b h = (here, all)
      by false true h = all
      by false false h = (all.0, h)

  pub number_some : (ys : List ℕ) → with_number x ys ≢ []
  number_some [] = some_first x []
  number_some (y ∷ ys) = by (nat_lt x y) (nat_eq x y)
    where
      by : (a b : Bool) → cond a (x ∷ y ∷ ys) (cond b (y ∷ ys) (y ∷ with_number x ys)) ≢ []
      by true b = some_first x (y ∷ ys)
      by false true = some_first y ys
      by false false = some_first y (with_number x ys)

  pub in_number : (ys : List ℕ) (n : ℕ) → In n (with_number x ys) → (n ≡ x) ⊎ In n ys
  in_number [] n (inl e) = inl e
  in_number [] n (inr h) = absurd h
  in_number (y ∷ ys) n h = by (nat_lt x y) (nat_eq x y) h (in_number ys n)
    where
      by : (a b : Bool) → In n (cond a (x ∷ y ∷ ys) (cond b (y ∷ ys) (y ∷ with_number x ys))) → (In n (with_number x ys) → (n ≡ x) ⊎ In n ys) → (n ≡ x) ⊎ In n (y ∷ ys)
      by true b (inl e) further = inl e
      by true b (inr h) further = inr h
      by false true h further = inr h
      by false false (inl e) further = inr (inl e)
      by false false (inr h) further = elim (further h) [ (inl e) ↦ inl e | (inr i) ↦ inr (inr i) ]

  pub number_increasing : (ys : List ℕ) → IsStrictlyIncreasing ys → IsStrictlyIncreasing (with_number x ys)
  number_increasing [] increasing = (λ n h. absurd h, tt)
  number_increasing (y ∷ ys) increasing = by (nat_lt x y) refl (nat_eq x y) refl (number_increasing ys increasing.1)
    where
      by : (a : Bool) → nat_lt x y ≡ a → (b : Bool) → nat_eq x y ≡ b → IsStrictlyIncreasing (with_number x ys) → IsStrictlyIncreasing (cond a (x ∷ y ∷ ys) (cond b (y ∷ ys) (y ∷ with_number x ys)))
      by true e b f h = (λ n i. elim i [ (inl same) ↦ (let lt = ltb-true x y e in omega arith) | (inr later) ↦ (let lt = ltb-true x y e in let more = increasing.0 n later in omega arith) ], increasing)
      by false e true f h = increasing
      by false e false f h = (
        λ n i. elim (in_number ys n i) [
          | (inl same) ↦ (let le = ltb-false x y e in let other = eqb-false x y f in omega arith)
          | (inr later) ↦ increasing.0 n later
        ],
        h,
      )

-- what holds of each number of a list
all_of : (P : ℕ → Type 0) (xs : List ℕ) → ((y : ℕ) → In y xs → P y) → AllByRecursion P xs
all_of P [] each = tt
all_of P (x ∷ xs) each = (each x (inl refl), all_of P xs (λ y h. each y (inr h)))

-- a last number more
in_last : (xs : List ℕ) (x y : ℕ) → In y (xs ++ x ∷ []) → In y xs ⊎ (y ≡ x)
in_last [] x y (inl e) = inr e
in_last [] x y (inr h) = absurd h
in_last (z ∷ xs) x y (inl e) = inl (inl e)
in_last (z ∷ xs) x y (inr h) = elim (in_last xs x y h) [ (inl i) ↦ inl (inr i) | (inr e) ↦ inr e ]

is_last : (xs : List ℕ) (x : ℕ) → In x (xs ++ x ∷ [])
is_last [] x = inl refl
is_last (z ∷ xs) x = inr (is_last xs x)

in_before : (xs : List ℕ) (x y : ℕ) → In y xs → In y (xs ++ x ∷ [])
in_before [] x y h = absurd h
in_before (z ∷ xs) x y (inl e) = inl e
in_before (z ∷ xs) x y (inr h) = inr (in_before xs x y h)

last_increasing : (xs : List ℕ) (x : ℕ) → IsStrictlyIncreasing xs → ((y : ℕ) → In y xs → y < x) → IsStrictlyIncreasing (xs ++ x ∷ [])
last_increasing [] x increasing below = (λ n h. absurd h, tt)
last_increasing (z ∷ xs) x increasing below = (
  λ n h. elim (in_last xs x n h) [ (inl i) ↦ increasing.0 n i | (inr e) ↦ (let lt = below z (inl refl) in omega arith) ],
  last_increasing xs x increasing.1 (λ y h. below y (inr h)),
)

-- the numbers up to n that pass a test
module _ (p : ℕ → Bool) where
  module _ (n : ℕ) where
    up_by : (b : Bool) → p n ≡ b → filter p (up_to (suc n)) ≡ filter p (up_to n) ++ cond b (n ∷ []) []
    up_by b e = filter-append p (up_to n) (n ∷ []) ∙ ap (λ t. filter p (up_to n) ++ cond t (n ∷ []) []) e

    append_none : (xs : List ℕ) → xs ++ [] ≡ xs
    append_none [] = refl
    append_none (x ∷ xs) = ap (λ t. x ∷ t) (append_none xs)

    one_up : p n ≡ true → filter p (up_to (suc n)) ≡ filter p (up_to n) ++ n ∷ []
    one_up e = up_by true e

    none_up : p n ≡ false → filter p (up_to (suc n)) ≡ filter p (up_to n)
    none_up e = up_by false e ∙ append_none (filter p (up_to n))

  pub passed : (n y : ℕ) → In y (filter p (up_to n)) → (y < n) × (p y ≡ true)
  passed zero y h = absurd h
  passed (suc n) y h = by (p n) refl h (passed n y)
    where
      by : (b : Bool) → p n ≡ b → In y (filter p (up_to (suc n))) → (In y (filter p (up_to n)) → (y < n) × (p y ≡ true)) → (y < suc n) × (p y ≡ true)
      by true e h further = elim (in_last (filter p (up_to n)) n y (subst (In y) (one_up n e) h)) [ (inl i) ↦ (let k = further i in let lt = k.0 in (omega arith, k.1)) | (inr same) ↦ (omega arith, ap p same ∙ e) ]
      by false e h further = let k = further (subst (In y) (none_up n e) h) in let lt = k.0 in (omega arith, k.1)

  pub passed_increase : (n : ℕ) → IsStrictlyIncreasing (filter p (up_to n))
  passed_increase zero = tt
  passed_increase (suc n) = by (p n) refl (passed_increase n)
    where
      by : (b : Bool) → p n ≡ b → IsStrictlyIncreasing (filter p (up_to n)) → IsStrictlyIncreasing (filter p (up_to (suc n)))
      by true e h = subst IsStrictlyIncreasing (sym (one_up n e)) (last_increasing (filter p (up_to n)) n h (λ y i. (passed n y i).0))
      by false e h = subst IsStrictlyIncreasing (sym (none_up n e)) h

  pub passed_all : (P : ℕ → Type 0) (n : ℕ) → ((y : ℕ) → y < n → p y ≡ true → P y) → AllByRecursion P (filter p (up_to n))
  passed_all P n each = all_of P (filter p (up_to n)) (λ y h. let k = passed n y h in each y k.0 k.1)

  pub is_passed : (n d : ℕ) → d < n → p d ≡ true → In d (filter p (up_to n))
  is_passed zero d lt e = absurd (omega arith)
  is_passed (suc n) d lt e = by (p n) refl (is_passed n d) (either d n)
    where
      either : (d n : ℕ) → d < suc n → (d < n) ⊎ (d ≡ n)
      either d n lt = search rules

      by : (b : Bool) → p n ≡ b → (d < n → p d ≡ true → In d (filter p (up_to n))) → (d < suc n → (d < n) ⊎ (d ≡ n)) → In d (filter p (up_to (suc n)))
      by true is further which = subst (In d) (sym (one_up n is)) (elim (which lt) [ (inl less) ↦ in_before (filter p (up_to n)) n d (further less e) | (inr same) ↦ subst (λ k. In k (filter p (up_to n) ++ n ∷ [])) (sym same) (is_last (filter p (up_to n)) n) ])
      by false is further which = subst (In d) (sym (none_up n is)) (elim (which lt) [ (inl less) ↦ further less e | (inr same) ↦ (let clash : true ≡ false = sym e ∙ ap p same ∙ is in cc) ])

  in_some : (xs : List ℕ) (d : ℕ) → In d xs → xs ≢ []
  in_some [] d h = absurd h
  in_some (x ∷ xs) d h = some_first x xs

  pub passed_some : (n d : ℕ) → d < n → p d ≡ true → filter p (up_to n) ≢ []
  passed_some n d lt e = in_some (filter p (up_to n)) d (is_passed n d lt e)
