-- Lists that ascend by a number of each item.
use Rattle.std.specs.Prelude.{ℕ, nat_lt, cond, List, [], ◌∷◌}

-- such a list with one item more
abbrev pub with_item : {X : Type 0} → (X → ℕ) → X → List X → List X
with_item number x [] = x ∷ []
with_item number x (y ∷ ys) = cond (nat_lt (number x) (number y)) (x ∷ y ∷ ys) (y ∷ with_item number x ys)
