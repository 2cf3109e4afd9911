use Rattle.std.proofs.Common.{◌≡◌}
use Rattle.stat_plan.specs.Machine.Waves.{ticked}
use Rattle.wave_resend.proofs.Changing.{changed_to}
use Rattle.wave_resend.proofs.changes.tick_all.Given as goal

abbrev pub invariant-loop-i : goal.invariant-loop-i
invariant-loop-i l = l.entries ≡ changed_to ticked l.i l.fn.entries
