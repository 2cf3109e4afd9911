use Rattle.std.proofs.Common.{◌≡◌, ◌++◌, drop}
use Rattle.std.specs.List.{flat_map}
use Rattle.front_end.specs.Report.{fault_line}
use Rattle.front_end.proofs.report.write_faults.Given as goal

abbrev pub invariant-loop-fault : goal.invariant-loop-fault
invariant-loop-fault l =
    l.out.items ++ flat_map (fault_line l.plan l.lost) (drop l.fault-index l.faults) ≡ l.fn.out.items ++ flat_map (fault_line l.plan l.lost) l.faults
