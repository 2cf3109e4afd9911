use Rattle.std.proofs.Common.{◌≡◌, ◌++◌, take}
use Rattle.std.specs.List.{flat_map}
use Rattle.stat_plan.specs.StackLines.{PathIndicesInRange, lines_of}
use Rattle.rank_sums.specs.PartPlans.{line_with, paths_of}
use Rattle.rank_sums.proofs.lines.add_lines.Given as goal

abbrev pub invariant-loop-d : goal.invariant-loop-d
invariant-loop-d l = record {
  lines : lines_of (paths_of l.parts) l.lines ≡ lines_of (paths_of l.parts) l.fn.lines ++ flat_map (line_with l.plan l.parts l.time) (take l.d-index l.daemons);
  numbered : PathIndicesInRange (paths_of l.parts) l.fn.lines → PathIndicesInRange (paths_of l.parts) l.lines;
}
