use Rattle.std.proofs.Common.{◌≡◌, ◌++◌, drop}
use Rattle.stat_tool.specs.Reports.{losses_of}
use Rattle.stat_tool.proofs.output.losses_of.Given as goal

abbrev pub invariant-loop-number : goal.invariant-loop-number
invariant-loop-number l = l.lost.items ++ losses_of (drop l.number l.journal) ≡ losses_of l.journal
