use Rattle.std.proofs.Common.{◌≡◌, ◌++◌, drop, map}
use Rattle.std.specs.Prelude.{filter}
use Rattle.stat_plan.specs.Plans.{daemons}
use Rattle.front_end.specs.JsonReport.{all_missing_data, has_missing, missing_data}
use Rattle.json_text.specs.Tokens.{rest_tokens, value_tokens}
use Rattle.front_end.proofs.json_release.write_missing.Given as goal

abbrev pub invariant-loop-daemon : goal.invariant-loop-daemon
invariant-loop-daemon l =
    l.out ++ rest_tokens (map (missing_data l.plan l.covered l.lost) (filter (has_missing l.plan l.covered) (drop l.daemon-index (daemons l.plan l.stream))))
    ≡ l.fn.out ++ value_tokens (all_missing_data l.plan l.covered l.lost (daemons l.plan l.stream))
