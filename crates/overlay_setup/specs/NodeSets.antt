-- Sets of nodes as ascending lists, what a list holds, and the first numbers.
use Rattle.std.specs.Prelude.{ℕ, zero, suc, ◌≡◌, ◌⊎◌, ◌<◌, ⊤, Bool, false, ◌||◌, ◌==◌, nat_lt, cond, List, [], ◌∷◌, ◌++◌}

-- x is an element of the list
abbrev pub In : {X : Type 0} → X → List X → Type 0
In x [] = ⊥
In x (y ∷ ys) = (x ≡ y) ⊎ In x ys

-- whether the number stands in the list
abbrev pub member : ℕ → List ℕ → Bool
member x [] = false
member x (y ∷ ys) = (x == y) || member x ys

-- an ascending list with x
abbrev pub with_number : ℕ → List ℕ → List ℕ
with_number x [] = x ∷ []
with_number x (y ∷ ys) = cond (nat_lt x y) (x ∷ y ∷ ys) (cond (x == y) (y ∷ ys) (y ∷ with_number x ys))

-- the list without x
abbrev pub without_number : ℕ → List ℕ → List ℕ
without_number x [] = []
without_number x (y ∷ ys) = cond (x == y) (without_number x ys) (y ∷ without_number x ys)

-- each number is less than those after it
abbrev pub IsStrictlyIncreasing : List ℕ → Type 0
IsStrictlyIncreasing [] = ⊤
IsStrictlyIncreasing (x ∷ xs) = ((y : ℕ) → In y xs → x < y) × IsStrictlyIncreasing xs

-- the numbers 0 to n - 1
abbrev pub up_to : ℕ → List ℕ
up_to zero = []
up_to (suc n) = up_to n ++ n ∷ []
