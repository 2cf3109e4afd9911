-- Values in the first slots of a chunk.
use Rattle.std.proofs.Common.{◌≡◌, ℕ, zero, suc, ◌+◌, ◌-◌, ◌<◌, List, [], ◌∷◌, ◌++◌, length, get_or, set, refl, sym, ap, ◌∙◌, subst, arith}
use lib.ListN.{replicate}
use Rattle.std.specs.Prelude.{slice_get, Option, Some, None, IsSome}
use Rattle.node_arena.specs.Arena.{Chunk}
use Rattle.node_arena.specs.Ownership.{IsEmpty}
use Rattle.node_arena.specs.Filled.{slots_view, IsFilledTo}

pub filled_none : (X : Type 0) (n : ℕ) → IsFilledTo 0 (replicate {A = Option X} n None)
filled_none X zero = refl
filled_none X (suc n) = (refl, filled_none X n)

pub values-none : (X : Type 0) (n : ℕ) → slots_view (replicate {A = Option X} n None) ≡ []
values-none X zero = refl
values-none X (suc n) = values-none X n

module _ {X : Type 0} where
  pub filled_values : (ss : List (Option X)) → IsFilledTo 0 ss → slots_view ss ≡ []
  filled_values [] f = refl
  filled_values (None ∷ ss) f = filled_values ss f.1
  filled_values (Some x ∷ ss) f = absurd (omega (arith, f.0))

  pub filled_count : (n : ℕ) (ss : List (Option X)) → IsFilledTo n ss → length (slots_view ss) ≡ n
  filled_count n [] f = sym f
  filled_count n (None ∷ ss) f = filled_count 0 ss f.1 ∙ sym f.0
  filled_count n (Some x ∷ ss) f = omega (arith, f.0, filled_count (n - 1) ss f.1)

  -- what a caller knows of the chunk, in terms of its fields
  pub view_below : (n i : ℕ) (ss : List (Option X)) (c : Chunk X) → IsFilledTo n ss
      → record { items = slots_view ss; capacity = length ss } ≡ c → i < length c.items → i < n
  view_below n i ss c f view lt =
      subst (λ (k : ℕ). i < k) (ap (λ b. length b.items) (sym view) ∙ filled_count n ss f) lt

  pub view_room : (n : ℕ) (ss : List (Option X)) (c : Chunk X) → IsFilledTo n ss
      → record { items = slots_view ss; capacity = length ss } ≡ c → length c.items < c.capacity → n < length ss
  view_room n ss c f view lt =
      let room : length (slots_view ss) < length ss = subst (λ b. length b.items < b.capacity) (sym view) lt in
      omega (arith, room, filled_count n ss f)

  -- each of the first slots has its value
  pub filled_some : (n : ℕ) (ss : List (Option X)) (i : ℕ) → IsFilledTo n ss → i < n → IsSome (get_or ss i None)
  filled_some n [] i f lt = absurd (omega (arith, f))
  filled_some n (None ∷ ss) i f lt = absurd (omega (arith, f.0))
  filled_some n (Some x ∷ ss) zero f lt = refl
  filled_some n (Some x ∷ ss) (suc i) f lt = filled_some (n - 1) ss i f.1 (omega (arith, f.0))

  pub filled_get : (n : ℕ) (ss : List (Option X)) (i : ℕ) → IsFilledTo n ss → i < n
      → slice_get (slots_view ss) i ≡ get_or ss i None
  filled_get n [] i f lt = absurd (omega (arith, f))
  filled_get n (None ∷ ss) i f lt = absurd (omega (arith, f.0))
  filled_get n (Some x ∷ ss) zero f lt = refl
  filled_get n (Some x ∷ ss) (suc i) f lt = filled_get (n - 1) ss i f.1 (omega (arith, f.0))

  -- a write over a value
  pub values-set : (n : ℕ) (ss : List (Option X)) (i : ℕ) (w : X) → IsFilledTo n ss → i < n
      → slots_view (set ss i (Some w)) ≡ set (slots_view ss) i w
  values-set n [] i w f lt = absurd (omega (arith, f))
  values-set n (None ∷ ss) i w f lt = absurd (omega (arith, f.0))
  values-set n (Some x ∷ ss) zero w f lt = refl
  values-set n (Some x ∷ ss) (suc i) w f lt =
      ap (λ (xs : List X). x ∷ xs) (values-set (n - 1) ss i w f.1 (omega (arith, f.0)))

  pub filled-set : (n : ℕ) (ss : List (Option X)) (i : ℕ) (w : X) → IsFilledTo n ss → i < n
      → IsFilledTo n (set ss i (Some w))
  filled-set n [] i w f lt = absurd (omega (arith, f))
  filled-set n (None ∷ ss) i w f lt = absurd (omega (arith, f.0))
  filled-set n (Some x ∷ ss) zero w f lt = f
  filled-set n (Some x ∷ ss) (suc i) w f lt = (f.0, filled-set (n - 1) ss i w f.1 (omega (arith, f.0)))

  -- one more value
  pub values-put : (n : ℕ) (ss : List (Option X)) (w : X) → IsFilledTo n ss → n < length ss
      → slots_view (set ss n (Some w)) ≡ slots_view ss ++ w ∷ []
  values-put n [] w f lt = absurd (omega arith)
  values-put zero (None ∷ ss) w f lt =
      ap (λ (xs : List X). w ∷ xs) (filled_values ss f.1)
      ∙ sym (ap (λ (xs : List X). xs ++ w ∷ []) (filled_values ss f.1))
  values-put (suc n) (None ∷ ss) w f lt = absurd (omega (arith, f.0))
  values-put zero (Some x ∷ ss) w f lt = absurd (omega (arith, f.0))
  values-put (suc n) (Some x ∷ ss) w f lt =
      let down : suc n - 1 ≡ n = omega arith in
      ap (λ (xs : List X). x ∷ xs) (values-put n ss w (subst (λ (k : ℕ). IsFilledTo k ss) down f.1) (omega arith))

  pub filled-put : (n : ℕ) (ss : List (Option X)) (w : X) → IsFilledTo n ss → n < length ss
      → IsFilledTo (n + 1) (set ss n (Some w))
  filled-put n [] w f lt = absurd (omega arith)
  filled-put zero (None ∷ ss) w f lt = (omega arith, f.1)
  filled-put (suc n) (None ∷ ss) w f lt = absurd (omega (arith, f.0))
  filled-put zero (Some x ∷ ss) w f lt = absurd (omega (arith, f.0))
  filled-put (suc n) (Some x ∷ ss) w f lt =
      let down : suc n - 1 ≡ n = omega arith in let up : n + 1 ≡ (suc n + 1) - 1 = omega arith in
      (omega arith, subst (λ (k : ℕ). IsFilledTo k (set ss n (Some w))) up (filled-put n ss w (subst (λ (k : ℕ). IsFilledTo k ss) down f.1) (omega arith)))

  -- the last value is taken
  pub filled-take : (n : ℕ) (ss : List (Option X)) → IsFilledTo (n + 1) ss → IsFilledTo n (set ss n None)
  filled-take n [] f = absurd (omega (arith, f))
  filled-take n (None ∷ ss) f = absurd (omega (arith, f.0))
  filled-take zero (Some x ∷ ss) f = (refl, subst (λ (k : ℕ). IsFilledTo k ss) (omega arith) f.1)
  filled-take (suc n) (Some x ∷ ss) f =
      let less : (suc n + 1) - 1 ≡ n + 1 = omega arith in let down : n ≡ suc n - 1 = omega arith in
      (omega arith, subst (λ (k : ℕ). IsFilledTo k (set ss n None)) down (filled-take n ss (subst (λ (k : ℕ). IsFilledTo k ss) less f.1)))

  -- the same where the new slots are given by an equation
  pub filled_put_at : (n : ℕ) (ss ts : List (Option X)) (w : X) → IsFilledTo n ss → n < length ss
      → ts ≡ set ss n (Some w) → IsFilledTo (n + 1) ts
  filled_put_at n ss ts w f lt e = subst (IsFilledTo (n + 1)) (sym e) (filled-put n ss w f lt)

  pub filled_take_at : (n : ℕ) (ss ts : List (Option X)) → IsFilledTo n ss → 0 < n → ts ≡ set ss (n - 1) None
      → IsFilledTo (n - 1) ts
  filled_take_at n ss ts f pos e =
      let up : n ≡ (n - 1) + 1 = omega arith in
      subst (IsFilledTo (n - 1)) (sym e) (filled-take (n - 1) ss (subst (λ (k : ℕ). IsFilledTo k ss) up f))

  -- the slot after the values is empty
  pub filled_next : (n : ℕ) (ss : List (Option X)) → IsFilledTo n ss → get_or ss n None ≡ None
  filled_next n [] f = refl
  filled_next zero (None ∷ ss) f = refl
  filled_next (suc n) (None ∷ ss) f = absurd (omega (arith, f.0))
  filled_next zero (Some x ∷ ss) f = absurd (omega (arith, f.0))
  filled_next (suc n) (Some x ∷ ss) f = let down : suc n - 1 ≡ n = omega arith in filled_next n ss (subst (λ (k : ℕ). IsFilledTo k ss) down f.1)

  pub filled_zero : (ss : List (Option X)) → IsFilledTo 0 ss → IsEmpty ss
  filled_zero [] f = tt
  filled_zero (None ∷ ss) f = filled_zero ss f.1
  filled_zero (Some x ∷ ss) f = absurd (omega (arith, f.0))

  pub filled_is_empty : (n : ℕ) (ss : List (Option X)) → IsFilledTo n ss → slots_view ss ≡ [] → IsEmpty ss
  filled_is_empty n ss f e =
      filled_zero ss (subst (λ (k : ℕ). IsFilledTo k ss) (sym (filled_count n ss f) ∙ ap length e) f)
