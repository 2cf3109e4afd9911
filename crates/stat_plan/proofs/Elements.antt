-- What holds of all elements of a list.
use Rattle.std.proofs.Common.{ℕ, suc, zero, ◌<◌, List, [], ◌∷◌, ◌++◌, get_or, length, arith, inl, inr, refl}
use Rattle.std.specs.List.{AllByRecursion}
use Rattle.overlay_setup.specs.NodeSets.{In}

-- what holds of all holds of an element
pub all_element : {X : Type 0} (P : X → Type 0) (xs : List X) (i : ℕ) (d : X) → AllByRecursion P xs → i < length xs → P (get_or xs i d)
all_element P [] i d all lt = absurd (omega arith)
all_element P (y ∷ ys) zero d all lt = all.0
all_element P (y ∷ ys) (suc i) d all lt = all_element P ys i d all.1 (omega arith)

pub all_from : {X : Type 0} (P : X → Type 0) (xs : List X) → ((x : X) → In x xs → P x) → AllByRecursion P xs
all_from P [] each = tt
all_from P (x ∷ xs) each = (each x (inl refl), all_from P xs (λ y there. each y (inr there)))

-- what holds of the elements of two lists holds of those of both
pub all_append : {X : Type 0} (P : X → Type 0) (xs ys : List X) → AllByRecursion P xs → AllByRecursion P ys → AllByRecursion P (xs ++ ys)
all_append P [] ys hx hy = hy
all_append P (x ∷ xs) ys hx hy = (hx.0, all_append P xs ys hx.1 hy)
