use Rattle.std.proofs.Common.{◌≡◌, ◌++◌, drop}
use Rattle.std.specs.List.{flat_map}
use Rattle.control_cast.specs.CastViews.{cast_state}
use Rattle.cast_text.specs.CastText.{daemon_line}
use Rattle.cast_text.proofs.report.write_daemons.Given as goal

abbrev pub invariant-loop-daemon : goal.invariant-loop-daemon
invariant-loop-daemon l =
    l.out.items ++ flat_map (daemon_line l.net.plan (cast_state l.net)) (drop l.daemon-index l.daemons) ≡ l.fn.out.items ++ flat_map (daemon_line l.net.plan (cast_state l.net)) l.daemons
