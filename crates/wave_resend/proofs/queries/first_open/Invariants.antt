use Rattle.std.proofs.Common.{◌≡◌, find, drop}
use Rattle.stat_plan.specs.Machine.Waves.{is_open}
use Rattle.wave_resend.specs.Books.{WaveAt}
use Rattle.wave_resend.proofs.queries.first_open.Given as goal

abbrev pub invariant-loop-entry : goal.invariant-loop-entry
invariant-loop-entry l = find (λ (e : WaveAt). is_open e.state) (drop l.entry-index l.entries) ≡ find (λ (e : WaveAt). is_open e.state) l.entries
