use Rattle.std.proofs.Common.{◌≡◌, take}
use Rattle.std.specs.List.{flat_map}
use Rattle.stat_plan.specs.StackLines.{PathIndicesInRange, lines_of}
use Rattle.rank_sums.specs.PartPlans.{paths_of, stream_lines}
use Rattle.rank_sums.proofs.lines.lines_with.Given as goal

abbrev pub invariant-loop-stream : goal.invariant-loop-stream
invariant-loop-stream l = record {
  lines : lines_of (paths_of l.parts) l.lines ≡ flat_map (stream_lines l.plan l.parts) (take l.stream-index l.plan.streams);
  numbered : PathIndicesInRange (paths_of l.parts) l.lines;
}
