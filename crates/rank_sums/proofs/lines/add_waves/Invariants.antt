use Rattle.std.proofs.Common.{◌≡◌, ◌++◌}
use Rattle.std.specs.List.{flat_map}
use Rattle.overlay_setup.specs.NodeSets.{up_to}
use Rattle.stat_plan.specs.StackLines.{PathIndicesInRange, lines_of}
use Rattle.rank_sums.specs.PartPlans.{wave_lines_with, paths_of}
use Rattle.rank_sums.proofs.lines.add_waves.Given as goal

abbrev pub invariant-loop-wave : goal.invariant-loop-wave
invariant-loop-wave l = record {
  lines : lines_of (paths_of l.parts) l.lines ≡ lines_of (paths_of l.parts) l.fn.lines ++ flat_map (wave_lines_with l.plan l.parts l.stream) (up_to l.wave);
  numbered : PathIndicesInRange (paths_of l.parts) l.fn.lines → PathIndicesInRange (paths_of l.parts) l.lines;
}
