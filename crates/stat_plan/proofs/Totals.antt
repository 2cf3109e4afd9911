-- Sums over lists.
use Rattle.std.proofs.Common.{◌≡◌, ◌⊎◌, ◌≤◌, ◌<◌, ◌+◌, ◌*◌, inl, inr, ℕ, suc, zero, Bool, true, false, cond, ◌==◌, List, [], ◌∷◌, ◌++◌, filter, length, refl, sym, ap, subst, ◌∙◌, arith, eqb-true, zero-le}
use Rattle.std.proofs.lemmas.Bool.{cases_Bool, eqb-false, true≢false}
use Rattle.overlay_setup.specs.NodeSets.{In, IsStrictlyIncreasing, up_to}
use Rattle.stat_plan.proofs.InLists.{up_to_below}

abbrev pub total : {X : Type 0} → (X → ℕ) → List X → ℕ
total f [] = 0
total f (x ∷ xs) = f x + total f xs

pub total_append : {X : Type 0} (f : X → ℕ) (xs ys : List X) → total f (xs ++ ys) ≡ total f xs + total f ys
total_append f [] ys = omega arith
total_append f (x ∷ xs) ys = let ih : total f (xs ++ ys) ≡ total f xs + total f ys = total_append f xs ys in omega arith

pub total_le : {X : Type 0} (f g : X → ℕ) (xs : List X) → ((x : X) → In x xs → f x ≤ g x) → total f xs ≤ total g xs
total_le f g [] h = zero-le
total_le f g (x ∷ xs) h = let a : f x ≤ g x = h x (inl refl) in let ih : total f xs ≤ total g xs = total_le f g xs (λ y i. h y (inr i)) in omega arith

-- where one drops by c
pub total_drop : {X : Type 0} (f g : X → ℕ) (c : ℕ) (x : X) (xs : List X) → ((y : X) → In y xs → f y ≤ g y) → In x xs → f x + c ≤ g x → total f xs + c ≤ total g xs
total_drop f g c x [] h i d = absurd i
total_drop f g c x (y ∷ ys) h (inl e) d =
    let a : f y + c ≤ g y = subst (λ z. f z + c ≤ g z) e d in
    let ih : total f ys ≤ total g ys = total_le f g ys (λ z j. h z (inr j)) in omega arith
total_drop f g c x (y ∷ ys) h (inr i) d =
    let a : f y ≤ g y = h y (inl refl) in
    let ih : total f ys + c ≤ total g ys = total_drop f g c x ys (λ z j. h z (inr j)) i d in omega arith

-- where each increases by c at most
pub total_increase : {X : Type 0} (f g : X → ℕ) (c : ℕ) (xs : List X) → ((y : X) → In y xs → f y ≤ g y + c) → total f xs ≤ total g xs + length xs * c
total_increase f g c [] h = zero-le
total_increase f g c (x ∷ xs) h = let a : f x ≤ g x + c = h x (inl refl) in let ih : total f xs ≤ total g xs + length xs * c = total_increase f g c xs (λ y i. h y (inr i)) in omega arith

pub total_bound : {X : Type 0} (f : X → ℕ) (c : ℕ) (xs : List X) → ((y : X) → In y xs → f y ≤ c) → total f xs ≤ length xs * c
total_bound f c [] h = zero-le
total_bound f c (x ∷ xs) h = let a : f x ≤ c = h x (inl refl) in let ih : total f xs ≤ length xs * c = total_bound f c xs (λ y i. h y (inr i)) in omega arith

-- the numbers below n, where two functions are in order but at k
pub total_at : (f g : ℕ → ℕ) (n k : ℕ) → ((a : ℕ) → (a ≡ k → ⊥) → f a ≤ g a) → k < n → total f (up_to n) + g k ≤ total g (up_to n) + f k
total_at f g zero k h lt = absurd (omega arith)
total_at f g (suc n) k h lt =
    let ef : total f (up_to n ++ n ∷ []) ≡ total f (up_to n) + (f n + 0) = total_append f (up_to n) (n ∷ []) in
    let eg : total g (up_to n ++ n ∷ []) ≡ total g (up_to n) + (g n + 0) = total_append g (up_to n) (n ∷ []) in
    elim (cases_Bool (k == n)) [
      | inl t ↦
          let e : k ≡ n = eqb-true k n t in
          let a : total f (up_to n) ≤ total g (up_to n) = total_le f g (up_to n) (λ x i. h x (λ j. let b = up_to_below n x i in omega arith)) in
          let c : g k ≡ g n = ap g e in
          let d : f k ≡ f n = ap f e in
          omega arith
      | inr t ↦
          let ne : k ≡ n → ⊥ = eqb-false k n t in
          let ih : total f (up_to n) + g k ≤ total g (up_to n) + f k = total_at f g n k h (omega arith) in
          let a : f n ≤ g n = h n (λ j. ne (sym j)) in
          omega arith
    ]

pub length_filter_le : {X : Type 0} (test : X → Bool) (xs : List X) → length (filter test xs) ≤ length xs
length_filter_le test [] = zero-le
length_filter_le {X} test (x ∷ xs) = go (test x) (length_filter_le test xs)
  where
    go : (b : Bool) → length (filter test xs) ≤ length xs → length (cond b (x ∷ filter test xs) (filter test xs)) ≤ suc (length xs)
    go true ih = omega arith
    go false ih = omega arith

-- fewer pass a stronger test
pub length_filter_less : {X : Type 0} (f g : X → Bool) (xs : List X) → ((x : X) → In x xs → f x ≡ true → g x ≡ true) → length (filter f xs) ≤ length (filter g xs)
length_filter_less f g [] h = zero-le
length_filter_less {X} f g (x ∷ xs) h = go (f x) (g x) refl refl (length_filter_less f g xs (λ y i. h y (inr i)))
  where
    go : (a b : Bool) → f x ≡ a → g x ≡ b → length (filter f xs) ≤ length (filter g xs) → length (cond a (x ∷ filter f xs) (filter f xs)) ≤ length (cond b (x ∷ filter g xs) (filter g xs))
    go true true ea eb ih = omega arith
    go true false ea eb ih = absurd (true≢false (sym (h x (inl refl) ea) ∙ eb))
    go false true ea eb ih = omega arith
    go false false ea eb ih = ih

pub length_filter_drop : {X : Type 0} (f g : X → Bool) (xs : List X) (y : X) → ((x : X) → In x xs → f x ≡ true → g x ≡ true) → In y xs → f y ≡ false → g y ≡ true → length (filter f xs) + 1 ≤ length (filter g xs)
length_filter_drop f g [] y h i ef eg = absurd i
length_filter_drop {X} f g (x ∷ xs) y h i ef eg = go (f x) (g x) refl refl i (length_filter_less f g xs (λ y i. h y (inr i))) (λ j. length_filter_drop f g xs y (λ z k. h z (inr k)) j ef eg)
  where
    go : (a b : Bool) → f x ≡ a → g x ≡ b → In y (x ∷ xs) → length (filter f xs) ≤ length (filter g xs) → (In y xs → length (filter f xs) + 1 ≤ length (filter g xs)) → length (cond a (x ∷ filter f xs) (filter f xs)) + 1 ≤ length (cond b (x ∷ filter g xs) (filter g xs))
    go a b ea eb (inl e) less ih = here a b ea eb e less
      where
        here : (a b : Bool) → f x ≡ a → g x ≡ b → y ≡ x → length (filter f xs) ≤ length (filter g xs) → length (cond a (x ∷ filter f xs) (filter f xs)) + 1 ≤ length (cond b (x ∷ filter g xs) (filter g xs))
        here true b ea eb e less = absurd (true≢false (sym ea ∙ sym (ap f e) ∙ ef))
        here false true ea eb e less = omega arith
        here false false ea eb e less = absurd (true≢false (sym eg ∙ ap g e ∙ eb))
    go true true ea eb (inr j) less ih = let k = ih j in omega arith
    go true false ea eb (inr j) less ih = absurd (true≢false (sym (h x (inl refl) ea) ∙ eb))
    go false true ea eb (inr j) less ih = let k = ih j in omega arith
    go false false ea eb (inr j) less ih = ih j

-- an ascending list of numbers below n
pub length_below : (xs : List ℕ) (lo n : ℕ) → IsStrictlyIncreasing xs → ((x : ℕ) → In x xs → (lo ≤ x) × (x < n)) → length xs + lo ≤ n ⊎ (xs ≡ [])
length_below [] lo n h f = inr refl
length_below (x ∷ xs) lo n h f =
    let a = f x (inl refl) in
    elim (length_below xs (suc x) n h.1 (λ y i. (h.0 y i, (f y (inr i)).1))) [
      | inl k ↦ inl (omega arith)
      | inr e ↦ inl (let z : length xs ≡ 0 = ap length e in omega arith)
    ]
