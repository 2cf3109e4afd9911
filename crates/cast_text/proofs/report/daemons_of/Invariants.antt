use Rattle.std.proofs.Common.{◌≡◌, filter}
use Rattle.overlay_setup.specs.NodeSets.{up_to}
use Rattle.overlay_setup.specs.Trees.{is_daemon}
use Rattle.cast_text.proofs.report.daemons_of.Given as goal

abbrev pub invariant-loop-n : goal.invariant-loop-n
invariant-loop-n l = l.daemons.items ≡ filter (is_daemon l.plan.parents) (up_to l.n)
