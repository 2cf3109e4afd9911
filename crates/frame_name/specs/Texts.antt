-- Parts of a text.
use Rattle.std.specs.Prelude.{ℕ, Bool, ◌-◌, ◌||◌, not, nat_eq, List, [], ◌∷◌, length, take, drop}
use Rattle.std.specs.List.{starts_with, ends_with, suffix_len}

-- whether a text begins with a part
abbrev pub begins_with : List ℕ → List ℕ → Bool
begins_with part text = starts_with nat_eq text part

-- whether it ends with it
abbrev pub closes_with : List ℕ → List ℕ → Bool
closes_with part text = ends_with nat_eq text part

-- whether the part stands somewhere in the text
abbrev pub contains : List ℕ → List ℕ → Bool
contains part [] = begins_with part []
contains part (b ∷ text) = begins_with part (b ∷ text) || contains part text

-- the bytes at the end of a text that pass a test, from the first behind the last one that doesn't
abbrev pub last_bytes : (ℕ → Bool) → List ℕ → List ℕ
last_bytes test text = drop (length text - suffix_len test text) text

-- the text before them
abbrev pub before_last_bytes : (ℕ → Bool) → List ℕ → List ℕ
before_last_bytes test text = take (length text - suffix_len test text) text

-- the name that a path ends with, behind its last `/`
abbrev pub base_name : List ℕ → List ℕ
base_name path = last_bytes (λ b. not (nat_eq b 47)) path
