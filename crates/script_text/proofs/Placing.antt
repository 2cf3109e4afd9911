-- An item more in a list that ascends by a number of each item.
use Rattle.std.proofs.Common.{◌≡◌, ℕ, suc, ◌+◌, ◌⊎◌, inl, inr, Bool, true, false, ◌||◌, not, cond, nat_lt, nat_eq, List, [], ◌∷◌, length, map, refl, ap, ◌∙◌, arith}
use Rattle.std.specs.List.{insert, prefix_len, list_any, AllByRecursion}
use Rattle.std.proofs.lemmas.Bool.{ltb-true, ltb-false, eqb-false}
use Rattle.overlay_setup.specs.NodeSets.{In, IsStrictlyIncreasing}
use Rattle.script_text.specs.Order.{with_item}

module _ {X : Type 0} (number : X → ℕ) (x : X) where
  -- its place is behind those of numbers that are not larger
  pub placed : (xs : List X) → insert xs (prefix_len (λ y. not (nat_lt (number x) (number y))) xs) x ≡ with_item number x xs
  placed [] = refl
  placed (y ∷ ys) = by (nat_lt (number x) (number y)) (placed ys)
    where
      by : (b : Bool) → insert ys (prefix_len (λ z. not (nat_lt (number x) (number z))) ys) x ≡ with_item number x ys → insert (y ∷ ys) (cond (not b) (1 + prefix_len (λ z. not (nat_lt (number x) (number z))) ys) 0) x ≡ cond b (x ∷ y ∷ ys) (y ∷ with_item number x ys)
      by true h = refl
      by false h =
          let n = prefix_len (λ z. not (nat_lt (number x) (number z))) ys in
          (let e : 1 + n ≡ suc n = omega arith in ap (λ k. insert (y ∷ ys) k x) e) ∙ ap (λ t. y ∷ t) h

  -- what holds of each item
  pub all_placed : (P : X → Type 0) (xs : List X) → P x → AllByRecursion P xs → AllByRecursion P (with_item number x xs)
  all_placed P [] here all = (here, all)
  all_placed P (y ∷ ys) here all = by (nat_lt (number x) (number y)) (all_placed P ys here all.1)
    where
      by : (b : Bool) → AllByRecursion P (with_item number x ys) → AllByRecursion P (cond b (x ∷ y ∷ ys) (y ∷ with_item number x ys))
      by true h = (here, all)
      by false h = (all.0, h)

  -- how many items it has
  pub length_placed : (xs : List X) → length (with_item number x xs) ≡ suc (length xs)
  length_placed [] = refl
  length_placed (y ∷ ys) = by (nat_lt (number x) (number y)) (length_placed ys)
    where
      by : (b : Bool) → length (with_item number x ys) ≡ suc (length ys) → length (cond b (x ∷ y ∷ ys) (y ∷ with_item number x ys)) ≡ suc (suc (length ys))
      by true h = refl
      by false h = ap suc h

  -- what is in it
  in_placed : (xs : List X) (n : ℕ) → In n (map number (with_item number x xs)) → (n ≡ number x) ⊎ In n (map number xs)
  in_placed [] n (inl e) = inl e
  in_placed [] n (inr h) = absurd h
  in_placed (y ∷ ys) n h = by (nat_lt (number x) (number y)) h (in_placed ys n)
    where
      by : (b : Bool) → In n (map number (cond b (x ∷ y ∷ ys) (y ∷ with_item number x ys))) → (In n (map number (with_item number x ys)) → (n ≡ number x) ⊎ In n (map number ys)) → (n ≡ number x) ⊎ In n (map number (y ∷ ys))
      by true (inl e) further = inl e
      by true (inr h) further = inr h
      by false (inl e) further = inr (inl e)
      by false (inr h) further = elim (further h) [ (inl e) ↦ inl e | (inr i) ↦ inr (inr i) ]

  or_false : (a b : Bool) → (a || b) ≡ false → (a ≡ false) × (b ≡ false)
  or_false true b e = cc
  or_false false b e = (refl, e)

  -- it ascends again, where no item has this number yet
  pub placed_increasing : (xs : List X) → list_any (λ y. nat_eq (number y) (number x)) xs ≡ false → IsStrictlyIncreasing (map number xs) → IsStrictlyIncreasing (map number (with_item number x xs))
  placed_increasing [] new increasing = (λ n h. absurd h, tt)
  placed_increasing (y ∷ ys) new increasing = by (nat_lt (number x) (number y)) refl (placed_increasing ys others.1 increasing.1)
    where
      others : (nat_eq (number y) (number x) ≡ false) × (list_any (λ z. nat_eq (number z) (number x)) ys ≡ false)
      others = or_false _ _ new

      by : (b : Bool) → nat_lt (number x) (number y) ≡ b → IsStrictlyIncreasing (map number (with_item number x ys)) → IsStrictlyIncreasing (map number (cond b (x ∷ y ∷ ys) (y ∷ with_item number x ys)))
      by true e h = (λ n i. elim i [ (inl same) ↦ (let lt = ltb-true (number x) (number y) e in omega arith) | (inr later) ↦ (let lt = ltb-true (number x) (number y) e in let more = increasing.0 n later in omega arith) ], increasing)
      by false e h = (
        λ n i. elim (in_placed ys n i) [
          | (inl same) ↦ (let le = ltb-false (number x) (number y) e in let other = eqb-false (number y) (number x) others.0 in omega arith)
          | (inr later) ↦ increasing.0 n later
        ],
        h,
      )
