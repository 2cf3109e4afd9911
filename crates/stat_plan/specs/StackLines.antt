-- Lines of samples whose paths have numbers.
use Rattle.std.specs.Prelude.{◌<◌, List, [], map, length, slice_index_or}
use Rattle.std.specs.List.{AllByRecursion}
use Rattle.call_path.specs.Path.{Path}
use Rattle.stat_plan.specs.Samples.{SampleLine}
use Rattle.stat_plan.specs.declared.samples.StackLine.{StackLine}

-- the line, with its path in place of the number
abbrev pub line_of : List Path → StackLine → SampleLine
line_of paths line = record { time = line.time; ranks = line.ranks; path = slice_index_or paths line.path [] }

-- the lines, with their paths
abbrev pub lines_of : List Path → List StackLine → List SampleLine
lines_of paths lines = map (line_of paths) lines

-- the number of each line's path is that of a path
abbrev pub PathIndicesInRange : List Path → List StackLine → Type 0
PathIndicesInRange paths lines = AllByRecursion (λ line. line.path < length paths) lines
