-- How waves are stored as ghost values.
use Rattle.std.specs.Prelude.{◌≡◌, refl, ℕ, List, Option, Some, None}
use Rattle.std.specs.Coded.{Coded, code_by, coded×, coded_list, coded_option, coded_ℕ}
use Rattle.rank_set.specs.Ranks.{Ranks, coded_ranks}
use Rattle.stat_plan.specs.Machine.Waves.{Wave, Open, Closed}
use Rattle.stat_plan.specs.declared.machine.Timer.{Timer}
use Rattle.stat_plan.specs.declared.machine.Timer.TheVariants.{Off, Running, Fired}
use Rattle.wave_resend.specs.Books.{WaveAt}

abbrev pub timer_to : Timer → Option (Option ℕ)
timer_to Off = None
timer_to (Running t) = Some (Some t)
timer_to Fired = Some None

abbrev pub timer_from : Option (Option ℕ) → Timer
timer_from None = Off
timer_from (Some None) = Fired
timer_from (Some (Some t)) = Running t

pub timer_back : (t : Timer) → timer_from (timer_to t) ≡ t
timer_back Off = refl
timer_back (Running t) = refl
timer_back Fired = refl

abbrev pub coded_timer : Coded Timer
coded_timer = code_by (Option (Option ℕ)) (coded_option (coded_option coded_ℕ)) timer_to timer_from timer_back

abbrev pub wave_to : Wave → Option (Ranks × (Ranks × Timer))
wave_to (Open covered sent timer) = Some (covered, (sent, timer))
wave_to Closed = None

abbrev pub wave_from : Option (Ranks × (Ranks × Timer)) → Wave
wave_from None = Closed
wave_from (Some p) = Open p.0 p.1.0 p.1.1

pub wave_back : (v : Wave) → wave_from (wave_to v) ≡ v
wave_back (Open covered sent timer) = refl
wave_back Closed = refl

abbrev pub coded_wave : Coded Wave
coded_wave = code_by (Option (Ranks × (Ranks × Timer))) (coded_option (coded× coded_ranks (coded× coded_ranks coded_timer))) wave_to wave_from wave_back

abbrev pub coded_wave_at : Coded WaveAt
coded_wave_at = code_by (ℕ × (ℕ × Wave)) (coded× coded_ℕ (coded× coded_ℕ coded_wave)) (λ e. (e.stream, (e.wave, e.state))) (λ p. record { stream = p.0; wave = p.1.0; state = p.1.1 }) (λ _. refl)

abbrev pub coded_waves : Coded (List WaveAt)
coded_waves = coded_list coded_wave_at
