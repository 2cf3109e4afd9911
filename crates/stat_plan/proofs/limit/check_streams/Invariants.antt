use Rattle.std.proofs.Common.{◌≡◌, None, take}
use Rattle.std.specs.Prelude.{find}
use Rattle.stat_plan.specs.Limits.{is_over}
use Rattle.stat_plan.specs.Plans.{waves_of}
use Rattle.stat_plan.specs.Files.{plan_in}
use Rattle.stat_plan.proofs.limit.check_streams.Given as goal

abbrev pub invariant-loop-stream : goal.invariant-loop-stream
invariant-loop-stream l = find (is_over (plan_in l.fn.files)) (waves_of (take l.stream-index l.stream-items)) ≡ None
