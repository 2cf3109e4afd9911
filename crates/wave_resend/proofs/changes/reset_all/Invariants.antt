use Rattle.std.proofs.Common.{◌≡◌}
use Rattle.stat_plan.specs.Machine.Waves.{unsent}
use Rattle.wave_resend.proofs.Changing.{changed_to}
use Rattle.wave_resend.proofs.changes.reset_all.Given as goal

abbrev pub invariant-loop-i : goal.invariant-loop-i
invariant-loop-i l = l.entries ≡ changed_to unsent l.i l.fn.entries
