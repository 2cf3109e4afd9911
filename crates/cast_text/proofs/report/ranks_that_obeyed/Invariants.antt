use Rattle.std.proofs.Common.{◌≡◌, filter, take}
use Rattle.stat_plan.specs.Plans.{ranks_on}
use Rattle.control_cast.specs.CastViews.{cast_state}
use Rattle.cast_text.specs.CastText.{has_obeyed}
use Rattle.cast_text.proofs.report.ranks_that_obeyed.Given as goal

abbrev pub invariant-loop-d : goal.invariant-loop-d
invariant-loop-d l = l.set ≡ ranks_on l.net.plan (filter (λ d. has_obeyed (cast_state l.net) d l.command) (take l.d-index l.daemons))
