use Rattle.std.proofs.Common.{take}
use Rattle.stat_plan.specs.Samples.{wave_lines}
use Rattle.stat_plan.specs.StackLines.{lines_of}
use Rattle.merge_filter.specs.Gathering.{AreGathered}
use Rattle.merge_filter.proofs.own_tree.own_tree.Given as goal

abbrev pub invariant-loop-line : goal.invariant-loop-line
invariant-loop-line g l = AreGathered (wave_lines l.times.samples l.times.wave (lines_of l.paths (take l.line-index l.lines))) l.own l.paths l.pending (g.T.PrefixTree.tree l.tree)
