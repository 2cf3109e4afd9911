-- Where states come from: the state before each, and the path that led on from it. No public clause cites these definitions.
use Rattle.std.specs.Prelude.{◌≡◌, ℕ, zero, suc, nat_eq, nat_lt, ◌<◌, true, false, cond, List, [], ◌∷◌, ◌++◌, length, get_or, map, take, drop}
use Rattle.rank_set.specs.Ranks.{Ranks, has}
use Rattle.call_path.specs.Path.{Path}
use Rattle.equiv_class.specs.SeenPaths.{paths_to}
use Rattle.equiv_class.specs.declared.states.Origin.{Origin}

-- the origin of what comes from a state along a path
abbrev pub origin : ℕ → ℕ → Origin
origin state path = record { from = state; path = path }

-- the origin of a state, by its place in a table
abbrev pub origin_of : List Origin → ℕ → Origin
origin_of origins k = get_or origins k (origin 0 0)

-- the table in which the state after state k has its origin
abbrev pub with_origin : ℕ → ℕ → ℕ → List ℕ → List Origin → List Origin
with_origin base k path next origins = cond (nat_lt (get_or next k 0) base) (origins ++ origin k path ∷ []) origins

-- the path that has a number, and none where no path has it
abbrev pub path_at : List (Path × Ranks) → ℕ → List Path
path_at es k = map (λ e. e.0) (take 1 (drop k es))

-- the last paths, so many at most, that led to a state
unfoldable pub last_paths : List (Path × Ranks) → List Origin → ℕ → ℕ → List Path
last_paths es origins zero s = []
last_paths es origins (suc n) s = cond (nat_eq s 0) [] (last_paths es origins n (origin_of origins s).from ++ path_at es (origin_of origins s).path)

-- all paths that led to a state: each comes from a lesser one
abbrev pub paths_before : List (Path × Ranks) → List Origin → ℕ → List Path
paths_before es origins s = last_paths es origins s s

-- each state has an origin, and each but 0 comes from a lesser one
pub record AreOrigins (next : List ℕ) (origins : List Origin) : Type 0 where
  pub one_each : length origins ≡ length next
  pub backward : (k : ℕ) → 0 < k → (origin_of origins k).from < k

-- The ranks of a set have moved on along a path, and the others stayed. The origins of their new states say so, and the
-- earlier states keep their origins.
pub record HaveOrigins (ranks : Ranks) (path : ℕ) (old : List ℕ) (earlier : List Origin) (states : List ℕ) (origins : List Origin) : Type 0 where
  pub kept : (k : ℕ) → k < length earlier → origin_of origins k ≡ origin_of earlier k
  pub moved : (r : ℕ) → has ranks r ≡ true → origin_of origins (get_or states r 0) ≡ origin (get_or old r 0) path
  pub stayed : (r : ℕ) → has ranks r ≡ false → get_or states r 0 ≡ get_or old r 0

-- the paths that led to the state of each rank are those that it was seen in
pub record LeadToStates (es : List (Path × Ranks)) (states : List ℕ) (origins : List Origin) : Type 0 where
  pub within : (r : ℕ) → get_or states r 0 < length origins
  pub backward : (k : ℕ) → 0 < k → (origin_of origins k).from < k
  pub paths : (r : ℕ) → paths_before es origins (get_or states r 0) ≡ paths_to r es
