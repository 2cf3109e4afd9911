-- Sets of pairs of a rank and a path that it was seen in, as lists; and the prefixes of paths.
use Rattle.std.specs.Prelude.{◌≡◌, ℕ, ◌<◌, length, map, nat_eq, Bool, true, false, ◌&&◌, List, [], ◌∷◌}
use Rattle.std.specs.List.{list_any, flat_map}
use Rattle.call_path.specs.Path.{Path, is_path, is_prefix}

-- a rank, and a path that it was seen in
abbrev pub Pairs : Type 0
Pairs = List (ℕ × Path)

-- each of the ranks with the path
abbrev pub pairs_at : List ℕ → Path → Pairs
pairs_at [] p = []
pairs_at (r ∷ rs) p = (r, p) ∷ pairs_at rs p

-- the rank was seen in this very path
abbrev pub is_pair : Pairs → ℕ → Path → Bool
is_pair P r p = list_any (λ e. nat_eq e.0 r && is_path p e.1) P

-- the rank was seen in a path that starts with p
abbrev pub passes : Pairs → ℕ → Path → Bool
passes P r p = list_any (λ e. nat_eq e.0 r && is_prefix p e.1) P

-- each pair's path has a frame
abbrev pub HasNoEmptyPath : Pairs → Type 0
HasNoEmptyPath P = (r : ℕ) (p : Path) → is_pair P r p ≡ true → 0 < length p

-- whether a path is below the root
abbrev pub is_below : Path → Bool
is_below [] = false
is_below (f ∷ p) = true

-- the prefixes of a path, but for the empty one
abbrev pub prefixes : Path → List Path
prefixes [] = []
prefixes (f ∷ p) = (f ∷ []) ∷ map (λ q. f ∷ q) (prefixes p)

-- the prefixes of all paths, with repeats
abbrev pub prefixes_of : Pairs → List Path
prefixes_of P = flat_map (λ e. prefixes e.1) P
