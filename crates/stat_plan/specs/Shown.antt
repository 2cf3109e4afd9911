-- Lines of samples, as they are read.
use Rattle.std.specs.Prelude.{◌≡◌, ℕ, List, map, Option, Some, None}
use Rattle.call_path.specs.Functions.{func}
use Rattle.stat_plan.specs.OwnLines.{AreParted}
use Rattle.stat_plan.specs.Samples.{SampleLine}
use Rattle.overlay_setup.specs.Tables.{rows_view}
use Rattle.std.specs.Borrow.{Bor}
use Rattle.stat_plan.specs.Plans.{Plan, stream_of}
use Rattle.overlay_setup.specs.Scripts.{Stream}
use Rattle.stat_plan.specs.StackLines.{lines_of, PathIndicesInRange}
use Rattle.stat_plan.specs.declared.samples.Lines.{Lines}
use Rattle.stat_plan.specs.declared.samples.StackLine.{StackLine}
use Rattle.stat_plan.specs.declared.samples.WaveLines.{WaveLines}
use Rattle.stat_plan.specs.declared.wave_lines.HeldLines.{HeldLines}
use Rattle.stat_plan.specs.declared.wave_lines.HeldLines.TheVariants.{Kept, Made}

-- the lines that are shown
abbrev pub lines_view : Lines → List SampleLine
lines_view lines = lines_of lines.paths.now lines.lines.now.value

-- the lines, parted by the nodes
abbrev pub AreLinesParted : Lines → Type 0
AreLinesParted all = AreParted all.placed.now all.lines.now.value all.parted.now.spread.items (rows_view all.parted.now.rows.items)

-- the lines of a node
abbrev pub held_lines : HeldLines → List StackLine
held_lines (Kept lines) = lines.now
held_lines (Made lines) = lines.items

-- samples of a wave, as they are read
abbrev pub wave_lines_view : WaveLines → List SampleLine
wave_lines_view all = lines_of all.paths.now (held_lines all.lines)

-- each line's path has a number in range, and the functions of the paths stand by the same numbers
pub record AreNumbered (all : WaveLines) : Type 0 where
  pub in_range : PathIndicesInRange all.paths.now (held_lines all.lines)
  pub functions_are : all.functions.now ≡ map (map func) all.paths.now

-- the stream of this number, where the plan has one
abbrev pub IsStreamOf : Plan → ℕ → Option (Bor Stream) → Type 0
IsStreamOf p s None = stream_of p s ≡ None
IsStreamOf p s (Some x) = stream_of p s ≡ Some x.now
