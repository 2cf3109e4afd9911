-- The lines of a node alone.
use Rattle.std.specs.Prelude.{◌≡◌, ◌≤◌, ◌≢◌, ◌<◌, ℕ, Bool, true, ◌&&◌, ◌||◌, nat_eq, List, [], ◌∷◌, ◌++◌, length, map, slice_index_or}
use Rattle.std.specs.List.{list_any, AllByRecursion}
use Rattle.std.specs.List.Sorted.{IsPermutation}
use Rattle.rank_set.specs.Ranks.{Ranks, none, has, Has, IsSubset}
use Rattle.call_path.specs.Path.{Path, is_path}
use Rattle.overlay_setup.specs.NodeSets.{In}
use Rattle.stat_plan.specs.Samples.{SampleLine, all_ranks}
use Rattle.overlay_setup.specs.Scripts.{is_in_wave}
use Rattle.stat_plan.specs.declared.samples.StackLine.{StackLine}

-- whether some line lists a rank in a path, at a time of wave w of k sample times
abbrev pub is_seen : ℕ → ℕ → List SampleLine → ℕ → Path → Bool
is_seen k w lines r p = list_any (λ line. has line.ranks r && (is_in_wave k w line.time && is_path p line.path)) lines

-- some lines have the samples of a wave, of the ranks `own`: they list these ranks alone, and at the times of the wave each of them in
-- just the paths in which the lines of the samples list it
pub record AreWaveLines (k w : ℕ) (own : Ranks) (lines some : List SampleLine) : Type 0 where
  pub within : AllByRecursion (λ line. IsSubset line.ranks own) some
  pub each : (r : ℕ) (p : Path) → is_seen k w some r p ≡ (has own r && is_seen k w lines r p)

-- a rank is placed on one of some nodes
pub record HasRankOn (placed : List Ranks) (nodes : List ℕ) (r : ℕ) : Type 0 where
  pub node : ℕ
  pub there : In node nodes
  pub rank : Has r (slice_index_or placed node none)

-- ---- the same by the numbers of paths, and how the rows of a table are filled. No clause of a public call cites what follows.

-- whether a line lists a rank at a time in the path of a number
abbrev pub lists : StackLine → ℕ → ℕ → ℕ → Bool
lists line r time path = has line.ranks r && (nat_eq line.time time && nat_eq line.path path)

-- whether some line does
abbrev pub is_in : List StackLine → ℕ → ℕ → ℕ → Bool
is_in lines r time path = list_any (λ line. lists line r time path) lines

-- each line lists a rank
abbrev pub AreNotEmpty : List StackLine → Type 0
AreNotEmpty lines = AllByRecursion (λ line. line.ranks ≢ none) lines

-- each line lists a rank, and placed ones alone
abbrev pub ListPlacedRanks : List Ranks → List StackLine → Type 0
ListPlacedRanks placed lines = AllByRecursion (λ line. (line.ranks ≢ none) × IsSubset line.ranks (all_ranks placed)) lines

-- row n of a table
abbrev pub row_at : List (List StackLine) → ℕ → List StackLine
row_at rows n = slice_index_or rows n []

-- the ranks of node n
abbrev pub ranks_at : List Ranks → ℕ → Ranks
ranks_at placed n = slice_index_or placed n none

-- a row lists these ranks besides, at the time of a line and in its path
pub record GainsRanks (line : StackLine) (ranks : Ranks) (old new : List StackLine) : Type 0 where
  pub each : (r time path : ℕ) → is_in new r time path ≡ (is_in old r time path || (has ranks r && (nat_eq line.time time && nat_eq line.path path)))
  pub not_empty : AreNotEmpty old → AreNotEmpty new

-- of a line of which all ranks are one node's, each row has gained its node's ranks
pub record GainParts (placed : List Ranks) (line : StackLine) (old new : List (List StackLine)) : Type 0 where
  pub paired : length new ≡ length old
  pub each : (n r time path : ℕ) → n < length old → is_in (row_at new n) r time path ≡ (is_in (row_at old n) r time path || (has (ranks_at placed n) r && lists line r time path))
  pub not_empty : (n : ℕ) → n < length old → AreNotEmpty (row_at old n) → AreNotEmpty (row_at new n)

-- of the lines of the samples those whose ranks are one node's stand in the rows, and the spread lines say what the others do
pub record AreParted (placed : List Ranks) (lines spread : List StackLine) (rows : List (List StackLine)) : Type 0 where
  pub paired : length rows ≡ length placed
  pub each : (n r time path : ℕ) → n < length placed → (is_in (row_at rows n) r time path || (has (ranks_at placed n) r && is_in spread r time path)) ≡ (has (ranks_at placed n) r && is_in lines r time path)
  pub not_empty : (n : ℕ) → n < length placed → AreNotEmpty (row_at rows n)
  pub spread_within : (r time path : ℕ) → is_in spread r time path ≡ true → is_in lines r time path ≡ true
  pub spread_not_empty : AreNotEmpty spread

-- lines that are parted stay so with a line more
abbrev pub TakesLine : List Ranks → StackLine → List StackLine → List (List StackLine) → List StackLine → List (List StackLine) → Type 0
TakesLine placed line old_spread old_rows spread rows = (before : List StackLine) → AreParted placed before old_spread old_rows → AreParted placed (before ++ line ∷ []) spread rows

-- the path and the time of a line
abbrev pub key_of : StackLine → ℕ × ℕ
key_of line = (line.path, line.time)

-- the paths and the times of lines, in their order
abbrev pub AreKeysOf : List (ℕ × ℕ) → List StackLine → Type 0
AreKeysOf keys lines = keys ≡ map key_of lines

-- the ranks of each line
abbrev pub ranks_of_lines : List StackLine → List Ranks
ranks_of_lines lines = map (λ line. line.ranks) lines

-- by node number, numbers of lines, of which these are the ranks: a line that lists a rank of a node has its number there
pub record AreIndexed (placed lines numbers : List Ranks) : Type 0 where
  pub paired : length numbers ≡ length placed
  pub each : (n i r : ℕ) → Has r (ranks_at placed n) → Has r (ranks_at lines i) → Has i (ranks_at numbers n)

-- the lines from `first` to before `end` list the same ranks, where these are the lines' ranks
abbrev pub HaveSameRanks : List Ranks → ℕ → ℕ → Type 0
HaveSameRanks lines first end = (i : ℕ) → first ≤ i → i < end → ranks_at lines i ≡ ranks_at lines first

-- these numbers more stand for each node that has a rank of some
pub record AreMarked (placed : List Ranks) (IsSome : ℕ → Type 0) (more : Ranks) (old new : List Ranks) : Type 0 where
  pub paired : length new ≡ length old
  pub marked : (n r i : ℕ) → n < length old → Has r (ranks_at placed n) → IsSome r → Has i more → Has i (ranks_at new n)
  pub kept : (n i : ℕ) → Has i (ranks_at old n) → Has i (ranks_at new n)

-- each row in another order
pub record AreReordered (old new : List (List StackLine)) : Type 0 where
  pub paired : length new ≡ length old
  pub rows : (n : ℕ) → IsPermutation (row_at old n) (row_at new n)

-- whether a line lists a rank in the path of a number, at a time of wave w of k sample times
abbrev pub line_sees : ℕ → ℕ → StackLine → ℕ → ℕ → Bool
line_sees k w line r path = has line.ranks r && (is_in_wave k w line.time && nat_eq line.path path)

-- whether some line does
abbrev pub sees : ℕ → ℕ → List StackLine → ℕ → ℕ → Bool
sees k w lines r path = list_any (λ line. line_sees k w line r path) lines

-- some lines list besides, in a wave, what more lines list of the ranks `own`
pub record GainSeen (k w : ℕ) (own : Ranks) (more old new : List StackLine) : Type 0 where
  pub each : (r path : ℕ) → sees k w new r path ≡ (sees k w old r path || (has own r && sees k w more r path))
  pub within : AllByRecursion (λ line. IsSubset line.ranks own) old → AllByRecursion (λ line. IsSubset line.ranks own) new
  pub numbered : (n : ℕ) → AllByRecursion (λ line. line.path < n) more → AllByRecursion (λ line. line.path < n) old → AllByRecursion (λ line. line.path < n) new

-- by path number, sets of ranks have taken up the ranks of `own` that lines list in the path in a wave
pub record GainRanksSeen (k w : ℕ) (own : Ranks) (lines : List StackLine) (old new : List Ranks) : Type 0 where
  pub paired : length new ≡ length old
  pub each : (r path : ℕ) → path < length old → has (ranks_at new path) r ≡ (has (ranks_at old path) r || (has own r && sees k w lines r path))

-- by path number, the ranks of `own` that the rows of some daemons and the spread lines list in the path in a wave
pub record AreRanksSeen (k w : ℕ) (own : Ranks) (rows : List (List StackLine)) (daemons : List ℕ) (spread : List StackLine) (sets : List Ranks) : Type 0 where
  pub each : (r path : ℕ) → path < length sets → has (ranks_at sets path) r ≡ (has own r && (list_any (λ d. sees k w (row_at rows d) r path) daemons || sees k w spread r path))

-- one line at a time for each set of ranks, in the path of the set's number
pub record AreLinesOf (sets : List Ranks) (time : ℕ) (lines : List StackLine) : Type 0 where
  pub each : (r t path : ℕ) → is_in lines r t path ≡ (has (ranks_at sets path) r && nat_eq time t)
  pub within : (own : Ranks) → ((path : ℕ) → IsSubset (ranks_at sets path) own) → AllByRecursion (λ line. IsSubset line.ranks own) lines
  pub numbered : AllByRecursion (λ line. line.path < length sets) lines

-- lines that list of the ranks `own` what the rows of some daemons and the spread lines list in a wave
pub record AreUnited (k w : ℕ) (own : Ranks) (rows : List (List StackLine)) (daemons : List ℕ) (spread : List StackLine) (count : ℕ) (lines : List StackLine) : Type 0 where
  pub each : (r path : ℕ) → sees k w lines r path ≡ (has own r && (list_any (λ d. sees k w (row_at rows d) r path) daemons || sees k w spread r path))
  pub within : AllByRecursion (λ line. IsSubset line.ranks own) lines
  pub numbered : AllByRecursion (λ line. line.path < count) lines

-- lines that list in a wave what a node's row and the spread lines list of its ranks `own`
pub record AreNodeLines (k w : ℕ) (own : Ranks) (row spread lines : List StackLine) : Type 0 where
  pub each : (r path : ℕ) → sees k w lines r path ≡ (has own r && (sees k w row r path || sees k w spread r path))
  pub within : AllByRecursion (λ line. IsSubset line.ranks own) lines
  pub numbered : (n : ℕ) → AllByRecursion (λ line. line.path < n) row → AllByRecursion (λ line. line.path < n) spread → AllByRecursion (λ line. line.path < n) lines

-- lines that list of the ranks `own` what the lines of the samples list in a wave, by the numbers of paths
pub record AreWaveRows (k w : ℕ) (own : Ranks) (lines some : List StackLine) : Type 0 where
  pub within : AllByRecursion (λ line. IsSubset line.ranks own) some
  pub each : (r path : ℕ) → sees k w some r path ≡ (has own r && sees k w lines r path)
