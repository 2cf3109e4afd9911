-- What the place of a thing says where the counts are the lengths of lists.
use Rattle.std.proofs.Common.{◌≡◌, ℕ, zero, suc, ◌-◌, ◌<◌, ◌≤◌, List, [], ◌∷◌, ◌++◌, Option, Some, None, length, slice_get, refl, ap, sym, subst, arith, ◌∙◌, inl, inr}
use Rattle.std.specs.List.{sum, flat_map}
use Rattle.std.specs.Option.{option_map}
use Rattle.std.proofs.lemmas.Bool.{lt-ltb, le-ltb, cases_lt}
use Rattle.std.proofs.lemmas.List.Concat.{length-flat_map}
use Rattle.std.proofs.lemmas.List.Sums.{sum-map}
use Rattle.count_tree.specs.Places.{lengths, place_of}

item_left : {Y : Type 0} (xs ys : List Y) (i : ℕ) → i < length xs → slice_get (xs ++ ys) i ≡ slice_get xs i
item_left [] ys i h = absurd (omega (arith, h))
item_left (x ∷ xs) ys zero h = refl
item_left (x ∷ xs) ys (suc i) h = item_left xs ys i (omega (arith, h))

item_right : {Y : Type 0} (xs ys : List Y) (i : ℕ) → length xs ≤ i → slice_get (xs ++ ys) i ≡ slice_get ys (i - length xs)
item_right [] ys i h = ap (slice_get ys) (omega arith)
item_right (x ∷ xs) ys zero h = absurd (omega (arith, h))
item_right (x ∷ xs) ys (suc i) h = item_right xs ys i (omega (arith, h)) ∙ ap (slice_get ys) (omega arith)

-- what a place, or none, says of the i-th of all items
abbrev pub IsItem : {X Y : Type 0} → (X → List Y) → List X → ℕ → Option (ℕ × ℕ) → Type 0
IsItem f xs i None = slice_get (flat_map f xs) i ≡ None
IsItem {X} f xs i (Some p) = (p.0 < length xs) × ((x : X) → slice_get xs p.0 ≡ Some x → (slice_get (flat_map f xs) i ≡ slice_get (f x) p.1) × (p.1 < length (f x)))

item_of_first : {X Y : Type 0} (f : X → List Y) (y : X) (ys : List X) (i : ℕ) → i < length (f y) → IsItem f (y ∷ ys) i (Some (0, i))
item_of_first {X} f y ys i h = (omega arith, λ x e. let P : X → Type 0 = λ z. (slice_get (flat_map f (y ∷ ys)) i ≡ slice_get (f z) i) × (i < length (f z)) in let both : Some y ≡ Some x = e in let same : y ≡ x = cc in subst P same (item_left (f y) (flat_map f ys) i h, h))

item_of_rest : {X Y : Type 0} (f : X → List Y) (y : X) (ys : List X) (i : ℕ) → length (f y) ≤ i → (o : Option (ℕ × ℕ)) → IsItem f ys (i - length (f y)) o → IsItem f (y ∷ ys) i (option_map (λ x. (suc x.0, x.1)) o)
item_of_rest f y ys i h None is = item_right (f y) (flat_map f ys) i h ∙ is
item_of_rest f y ys i h (Some p) is = (omega (arith, is.0), λ x e. let here = is.1 x e in (item_right (f y) (flat_map f ys) i h ∙ here.0, here.1))

-- the place of an item
pub finds_item : {X Y : Type 0} (f : X → List Y) (xs : List X) (i : ℕ) → IsItem f xs i (place_of (lengths f xs) i)
finds_item f [] i = refl
finds_item f (y ∷ ys) i =
    elim (cases_lt i (length (f y))) [
      | inl lt ↦ rw (lt-ltb i (length (f y)) lt) (item_of_first f y ys i lt)
      | inr le ↦ rw (le-ltb i (length (f y)) le) (item_of_rest f y ys i le _ (finds_item f ys (i - length (f y))))
    ]

-- all items
pub sum_of_lengths : {X Y : Type 0} (f : X → List Y) (xs : List X) → sum (lengths f xs) ≡ length (flat_map f xs)
sum_of_lengths f xs = sum-map (λ x. length (f x)) xs ∙ sym (length-flat_map f xs)
