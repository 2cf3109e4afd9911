use Rattle.std.proofs.Common.{◌-◌}
use Rattle.wave_resend.proofs.Order.{IsSearchedTo}
use Rattle.wave_resend.proofs.find.count_to.Given as goal

abbrev pub invariant-loop-low : goal.invariant-loop-low
invariant-loop-low l = IsSearchedTo (l.s, l.w) l.entries l.low l.high

abbrev pub decreases-loop-low : goal.decreases-loop-low
decreases-loop-low l = l.high - l.low
