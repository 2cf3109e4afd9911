-- States of ranks: two ranks have the same state where they were in the same sets so far. No public clause cites these definitions.
use Rattle.std.specs.Prelude.{◌≡◌, ℕ, nat_eq, nat_lt, ◌<◌, Bool, true, not, cond, ◌&&◌, List, [], ◌∷◌, ◌++◌, length, get_or, set, map}
use Rattle.std.specs.List.{list_any, filter}
use Rattle.rank_set.specs.Ranks.{Ranks, has, in_order, is_empty}
use Rattle.call_path.specs.Path.{Path}
use Rattle.equiv_class.specs.Classes.{same_answer}
use Rattle.equiv_class.specs.SeenPaths.{same_paths}

-- a table of the state of each rank, and one of the state after each state
pub record AreTables (states next : List ℕ) : Type 0 where
  pub states_within : (r : ℕ) → get_or states r 0 < length next
  pub next_within : (k : ℕ) → get_or next k 0 < length next

-- a table has an entry for each rank of a set
abbrev pub HasEntries : List ℕ → Ranks → Type 0
HasEntries states ranks = (r : ℕ) → has ranks r ≡ true → r < length states

-- the state after a state: a new one where the table has none from `base` on
abbrev pub state_after : ℕ → ℕ → List ℕ → ℕ
state_after base k next = cond (nat_lt (get_or next k 0) base) (length next) (get_or next k 0)

-- the table that has it
abbrev pub with_next : ℕ → ℕ → List ℕ → List ℕ
with_next base k next = cond (nat_lt (get_or next k 0) base) (set next k (length next) ++ 0 ∷ []) next

-- the ranks of a set are parted from the others, and those of different states stay in different states
abbrev pub ArePartedBy : Ranks → List ℕ → List ℕ → Type 0
ArePartedBy ranks old new =
    (r s : ℕ) → nat_eq (get_or new r 0) (get_or new s 0) ≡ (same_answer (has ranks r) (has ranks s) && nat_eq (get_or old r 0) (get_or old s 0))

-- ranks have the same state exactly where they were seen in the same paths
abbrev pub AreStates : List ℕ → List (Path × Ranks) → Type 0
AreStates states es = (r s : ℕ) → nat_eq (get_or states r 0) (get_or states s 0) ≡ same_paths r s es

-- no lesser rank of C has the state of r
abbrev pub is_first : List ℕ → Ranks → ℕ → Bool
is_first states C r = not (list_any (λ s. nat_eq (get_or states s 0) (get_or states r 0) && nat_lt s r) (in_order C))

-- the states of the ranks of C, by their least ranks
abbrev pub states_in_order : List ℕ → Ranks → List ℕ
states_in_order states C = map (λ r. get_or states r 0) (filter (is_first states C) (in_order C))

-- a list of states, with one more where its set is empty
abbrev pub with_state : Ranks → ℕ → List ℕ → List ℕ
with_state ranks k ks = cond (is_empty ranks) (ks ++ k ∷ []) ks
