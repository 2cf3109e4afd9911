use Rattle.std.proofs.Common.{◌≡◌, filter}
use Rattle.overlay_setup.specs.NodeSets.{up_to}
use Rattle.overlay_setup.specs.Trees.{is_daemon}
use Rattle.script_text.proofs.stream_line.all_daemons.Given as goal

abbrev pub invariant-loop-n : goal.invariant-loop-n
invariant-loop-n l = l.daemons.items ≡ filter (is_daemon l.topology.parents) (up_to l.n)
