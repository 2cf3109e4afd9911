-- The plan whose samples are the parts of the daemons.
use Rattle.std.specs.Prelude.{◌≡◌, ◌<◌, ℕ, ℤ, ◌*◌, pos, map, slice_index_or, List, [], ◌∷◌, Option, Some, None}
use Rattle.std.specs.List.{flat_map}
use Rattle.rank_set.specs.Ranks.{set_of}
use Rattle.call_path.specs.Path.{Path}
use Rattle.overlay_setup.specs.NodeSets.{In, up_to}
use Rattle.overlay_setup.specs.Scripts.{Stream}
use Rattle.stat_plan.specs.Plans.{Plan, daemons, nodes, sample_count, stream_of, waves_of, with_lines}
use Rattle.stat_plan.specs.Samples.{SampleLine}
use Rattle.value_text.specs.Numbers.{Numbers}
use Rattle.rank_sums.specs.declared.fold.Fold.{Fold}
use Rattle.rank_sums.specs.Parts.{part_at}
use Rattle.rank_sums.specs.PartTrees.{leader, number_path}

-- at a time, the rank r was seen in the path of the number z
abbrev pub number_line : ℕ → ℕ → ℤ → SampleLine
number_line time r z = record { time = time; ranks = set_of (r ∷ []); path = number_path z }

-- the line of a part, if there is a part and a rank
abbrev pub line_if : ℕ → Option ℕ → Option ℤ → List SampleLine
line_if time None z = []
line_if time (Some r) None = []
line_if time (Some r) (Some z) = number_line time r z ∷ []

-- the line of a daemon's part: at a time, its least rank was seen in the path of the part
abbrev pub part_line : Plan → Numbers → Fold → ℕ → ℕ → List SampleLine
part_line p v f time d = line_if time (leader p d) (part_at p v f d)

-- the parts of a wave's daemons, at the wave's first time
abbrev pub wave_parts : Plan → Numbers → Fold → ℕ × ℕ → List SampleLine
wave_parts p v f u = flat_map (part_line p v f (u.1 * sample_count p u.0)) (daemons p u.0)

-- the parts of all waves
abbrev pub part_lines : Plan → Numbers → Fold → List SampleLine
part_lines p v f = flat_map (wave_parts p v f) (waves_of p.streams)

-- the plan whose samples are the parts
abbrev pub part_plan : Plan → Numbers → Fold → Plan
part_plan p v f = with_lines p (part_lines p v f)

-- ---- how the lines are made. No clause of a public call cites what follows.

-- the path of a part; that of 0 where there is none
abbrev pub path_or_zero : Option ℤ → Path
path_or_zero None = number_path (pos 0)
path_or_zero (Some z) = number_path z

-- the path of each node's part
abbrev pub paths_of : List (Option ℤ) → List Path
paths_of parts = map path_or_zero parts

-- the line of a daemon, where these are the parts of the nodes
abbrev pub line_with : Plan → List (Option ℤ) → ℕ → ℕ → List SampleLine
line_with p parts time d = line_if time (leader p d) (slice_index_or parts d None)

-- the lines of a wave of a stream
abbrev pub wave_lines_with : Plan → List (Option ℤ) → Stream → ℕ → List SampleLine
wave_lines_with p parts x w = flat_map (line_with p parts (w * x.samples)) x.daemons

-- the lines of a stream's waves
abbrev pub stream_lines : Plan → List (Option ℤ) → Stream → List SampleLine
stream_lines p parts x = flat_map (wave_lines_with p parts x) (up_to x.waves)

-- the streams are the plan's, each found by its number, and their daemons are nodes
pub record AreOwnStreams (p : Plan) (xs : List Stream) : Type 0 where
  pub found : (x : Stream) → In x xs → stream_of p x.number ≡ Some x
  pub on_nodes : (x : Stream) (d : ℕ) → In x xs → In d x.daemons → d < nodes p

-- the part of each node, by its number
abbrev pub all_parts : Plan → Numbers → Fold → List (Option ℤ)
all_parts p v f = map (part_at p v f) (up_to (nodes p))
