use Rattle.std.proofs.Common.{◌≡◌, ◌==◌, false, take}
use Rattle.std.specs.List.{list_any}
use Rattle.control_cast.specs.CastViews.{cast_state}
use Rattle.control_cast.specs.Machine.{seen}
use Rattle.cast_text.proofs.report.any_stopped.Given as goal

abbrev pub invariant-loop-d : goal.invariant-loop-d
invariant-loop-d l = list_any (λ d. seen (cast_state l.net) d == l.count) (take l.d-index l.daemons) ≡ false
