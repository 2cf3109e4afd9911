use Rattle.std.proofs.Common.{◌≡◌, ◌++◌, drop, map}
use Rattle.json_text.specs.Values.{list_of}
use Rattle.front_end.specs.JsonReport.{fault_data}
use Rattle.json_text.specs.Tokens.{rest_tokens, value_tokens}
use Rattle.front_end.proofs.json_report.write_faults.Given as goal

abbrev pub invariant-loop-fault : goal.invariant-loop-fault
invariant-loop-fault l = l.out ++ rest_tokens (map (fault_data l.plan l.lost) (drop l.fault-index l.faults)) ≡ l.fn.out ++ value_tokens (list_of (map (fault_data l.plan l.lost) l.faults))
