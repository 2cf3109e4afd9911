-- Runs of neighbouring ranks in a set.
use Rattle.std.specs.Prelude.{⊤, ℕ, suc, ◌+◌, ◌-◌, ◌≤◌, ◌<◌, ◌≡◌, true, false, cond, nat_eq, nat_le, Option, None, Some, List, [], ◌∷◌, ◌++◌, map}
use Rattle.std.specs.List.{range_with_len}
use Rattle.rank_set.specs.declared.TheConstants.{RANK_LIMIT}
use Rattle.rank_set.specs.declared.Run.{Run}
use Rattle.rank_set.specs.Ranks.{Ranks, none, has, set_of, union, those}

-- the ranks from the first to the last, none where the last is less
unfoldable pub ranks_between : ℕ → ℕ → Ranks
ranks_between first last = set_of (range_with_len first (suc last - first))

-- the longest run of neighbours that begins with the least member at or above a rank
pub record IsRun (s : Ranks) (from first last : ℕ) : Type 0 where
  pub start : from ≤ first
  pub some : first ≤ last
  pub passed : (q : ℕ) → from ≤ q → q < first → has s q ≡ false
  pub within : (q : ℕ) → first ≤ q → q ≤ last → has s q ≡ true
  pub ends : has s (suc last) ≡ false

-- a run of ranks that is not empty, below the limit of ranks
pub record IsRunInRange (first last : ℕ) : Type 0 where
  pub not_empty : first ≤ last
  pub below_limit : last < RANK_LIMIT

-- a set with the ranks of a run that is kept back, if there is one
abbrev pub with_pending : Ranks → Option Run → Ranks
with_pending s None = s
with_pending s (Some run) = union s (ranks_between run.first run.last)

-- a run from its first rank to its last, put before runs that begin above it
abbrev pub run_before : ℕ → ℕ → List (ℕ × ℕ) → List (ℕ × ℕ)
run_before a b [] = (a, b) ∷ []
run_before a b (r ∷ rs) = cond (nat_eq (suc b) r.0) ((a, r.1) ∷ rs) ((a, b) ∷ r ∷ rs)

-- the longest runs of neighbours, in order
abbrev pub runs_of : List ℕ → List (ℕ × ℕ)
runs_of [] = []
runs_of (r ∷ rs) = run_before r r (runs_of rs)

-- the ranks of runs
abbrev pub ranks_of_runs : List (ℕ × ℕ) → Ranks
ranks_of_runs [] = none
ranks_of_runs (r ∷ rs) = union (ranks_between r.0 r.1) (ranks_of_runs rs)

-- the ranks of the runs of two lists
abbrev pub ranks_of_both : List (ℕ × ℕ) → List (ℕ × ℕ) → Ranks
ranks_of_both runs others = union (ranks_of_runs runs) (ranks_of_runs others)

-- runs below the limit of ranks that begin at or above a rank, in order, with a gap before the next
abbrev pub AreRuns : ℕ → List (ℕ × ℕ) → Type 0
AreRuns least [] = ⊤
AreRuns least (r ∷ rs) = (least ≤ r.0) × (r.0 ≤ r.1) × (r.1 < RANK_LIMIT) × AreRuns (r.1 + 2) rs

-- the first and the last rank of a run
abbrev pub run_pair : Run → ℕ × ℕ
run_pair run = (run.first, run.last)

-- the same of each run
abbrev pub run_pairs : List Run → List (ℕ × ℕ)
run_pairs runs = map run_pair runs

-- runs, and one more behind them
abbrev pub runs_with : List Run → Run → List (ℕ × ℕ)
runs_with runs run = run_pairs runs ++ run_pair run ∷ []

-- the ranks of a set that are no greater than a number
abbrev pub up_to : ℕ → Ranks → Ranks
up_to to s = those (λ r. nat_le r to) s
