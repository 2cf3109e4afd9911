-- Lists by number, and what stands in them.
use Rattle.std.proofs.Common.{◌≡◌, ℕ, zero, suc, ◌+◌, ◌<◌, [], ◌∷◌, ◌++◌, length, get_or, map, Some, refl, sym, ap, ◌∙◌, arith, inl, inr, slice_get}
use Rattle.std.proofs.lemmas.Bool.{cases_lt}
use Rattle.std.proofs.lemmas.List.{get_or_append_left, get_or-append-add, length-append, length-map, map-append, map-id}
use Rattle.std.proofs.lemmas.Option.{slice_get-get_or}
use Rattle.overlay_setup.specs.NodeSets.{up_to}

pub length-up_to : (n : ℕ) → length (up_to n) ≡ n
length-up_to zero = refl
length-up_to (suc n) = let e = length-append (up_to n) (n ∷ []) in let ih = length-up_to n in omega (arith, e, ih)

-- one number more
pub map-up_to : {X : Type 0} (f : ℕ → X) (n : ℕ) → map f (up_to (suc n)) ≡ map f (up_to n) ++ f n ∷ []
map-up_to f n = map-append f (up_to n) (n ∷ [])

-- what stands in a table
pub at_table : {X : Type 0} (f : ℕ → X) (n k : ℕ) (d : X) → k < n → get_or (map f (up_to n)) k d ≡ f k
at_table f zero k d lt = absurd (omega arith)
at_table f (suc n) k d lt =
    let len : length (map f (up_to n)) ≡ n = length-map (up_to n) f ∙ length-up_to n in
    ap (λ xs. get_or xs k d) (map-up_to f n) ∙ elim (cases_lt k n) [
      | (inl before) ↦ get_or_append_left (map f (up_to n)) (f n ∷ []) d k (omega (arith, before, len)) ∙ at_table f n k d before
      | (inr last) ↦
          let same : k ≡ n = omega (arith, last, lt) in
          let place : k ≡ length (map f (up_to n)) + 0 = omega (arith, same, len) in
          ap (λ i. get_or (map f (up_to n) ++ f n ∷ []) i d) place ∙ get_or-append-add (map f (up_to n)) (f n ∷ []) 0 d ∙ ap f (sym same)
    ]

-- each number below n is at its own index of those below n
pub up_to_at : (n k : ℕ) → k < n → slice_get (up_to n) k ≡ Some k
up_to_at n k lt =
    slice_get-get_or (up_to n) k 0 (omega (arith, lt, length-up_to n))
    ∙ ap (λ xs. Some (get_or xs k 0)) (sym (map-id (up_to n))) ∙ ap Some (at_table (λ i. i) n k 0 lt)
