-- The value in a slot that has one.
use Rattle.std.proofs.Common.{◌≡◌, refl, ℕ, zero, suc, ◌<◌, List, [], ◌∷◌, length, get_or, sym, true≢false, arith}
use Rattle.std.specs.Prelude.{Option, Some, None, IsSome}

pub record Occupied {X : Type 0} (ss : List (Option X)) (i : ℕ) : Type 0 where
  pub value : X
  pub is : get_or ss i None ≡ Some value
  pub within : i < length ss

some_value : {X : Type 0} (o : Option X) → IsSome o → (x : X) × (o ≡ Some x)
some_value None some = absurd (true≢false (sym some))
some_value (Some x) some = (x, refl)

pub occupied_at : {X : Type 0} (ss : List (Option X)) (i : ℕ) → IsSome (get_or ss i None) → Occupied ss i
occupied_at [] i some = absurd (true≢false (sym some))
occupied_at (s ∷ ss) zero some = let it = some_value s some in record { value = it.0; is = it.1; within = omega arith }
occupied_at (s ∷ ss) (suc i) some = let it = occupied_at ss i some in record { value = it.value; is = it.is; within = omega (arith, it.within) }
