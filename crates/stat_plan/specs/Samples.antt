-- The samples of a job: which rank was seen in which path, at which time.
use Rattle.std.specs.Prelude.{ℕ, ◌<◌, ◌≤◌, List, [], ◌∷◌, filter, length, map}
use Rattle.std.specs.List.{flat_map, AllByRecursion}
use Rattle.std.specs.Set.{distinct_count}
use Rattle.rank_set.specs.Ranks.{Ranks, has, in_order, none, those, union}
use Rattle.call_path.specs.Functions.{func}
use Rattle.call_path.specs.Pairs.{Pairs, pairs_at, prefixes_of}
use Rattle.call_path.specs.Path.{Path, is_path}
use Rattle.overlay_setup.specs.Scripts.{is_in_wave}
use Rattle.overlay_setup.specs.declared.script.Grain.{Grain}
use Rattle.overlay_setup.specs.declared.script.Grain.TheVariants.{Line, Function}

-- at a time, each of some ranks was seen in a path
pub record SampleLine : Type 0 where
  pub time : ℕ
  pub ranks : Ranks
  pub path : Path

-- each line's ranks, each with the line's path
abbrev pub samples_of : List SampleLine → Pairs
samples_of lines = flat_map (λ line. pairs_at (in_order line.ranks) line.path) lines

-- the lines at the times of a wave
abbrev pub wave_lines : ℕ → ℕ → List SampleLine → List SampleLine
wave_lines k w lines = filter (λ line. is_in_wave k w line.time) lines

-- a path as a stream sees it: with the lines of its frames, or their functions alone
abbrev pub path_by : Grain → Path → Path
path_by Line p = p
path_by Function p = map func p

-- a line of samples as a stream sees it: its ranks that are the stream's, and its path by the stream's grain
abbrev pub seen_by : Grain → Ranks → SampleLine → SampleLine
seen_by grain own line = record { time = line.time; ranks = those (has own) line.ranks; path = path_by grain line.path }

-- the ranks of some sets, beside those of a first one
abbrev pub ranks_with : Ranks → List Ranks → Ranks
ranks_with ranks [] = ranks
ranks_with ranks (more ∷ sets) = ranks_with (union ranks more) sets

-- the ranks of all sets
abbrev pub all_ranks : List Ranks → Ranks
all_ranks sets = ranks_with none sets

-- each line's path has a frame, and at most this many
abbrev pub AreNoDeeper : ℕ → List SampleLine → Type 0
AreNoDeeper depth lines = AllByRecursion (λ line. (0 < length line.path) × (length line.path ≤ depth)) lines

-- how many distinct prefixes the paths of some samples have, the empty one aside
abbrev pub prefix_count : Pairs → ℕ
prefix_count samples = distinct_count is_path (prefixes_of samples)

-- samples have at most 2,048 distinct prefixes
abbrev pub IsWithinLimit : Pairs → Type 0
IsWithinLimit samples = prefix_count samples ≤ 2048
