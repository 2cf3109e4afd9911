use Rattle.std.proofs.Common.{◌≡◌, ◌++◌, drop}
use Rattle.std.specs.List.{flat_map}
use Rattle.stat_plan.specs.Plans.{daemons}
use Rattle.front_end.specs.ReleaseText.{missing_line}
use Rattle.front_end.proofs.release_text.write_missing.Given as goal

abbrev pub invariant-loop-daemon : goal.invariant-loop-daemon
invariant-loop-daemon l =
    l.out.items ++ flat_map (missing_line l.plan l.covered l.lost) (drop l.daemon-index (daemons l.plan l.stream)) ≡ l.fn.out.items ++ flat_map (missing_line l.plan l.covered l.lost) (daemons l.plan l.stream)
