-- A wave's state, as it is read and as it is kept.
use Rattle.std.specs.Prelude.{Option, Some, None}
use Rattle.stat_plan.specs.Machine.Waves.{Wave, Open, Closed}
use Rattle.wave_resend.specs.declared.entry.OpenWave.{OpenWave}
use Rattle.wave_resend.specs.declared.state.WaveState.{WaveState}
use Rattle.wave_resend.specs.declared.state.WaveState.TheVariants.{Open as OpenState, Closed as ClosedState}

-- the state that is read
abbrev pub wave_state : WaveState → Wave
wave_state (OpenState covered sent timer) = Open covered.now sent.now timer
wave_state ClosedState = Closed

-- the state that is kept; none if the wave has ended
abbrev pub open_state : Option OpenWave → Wave
open_state None = Closed
open_state (Some o) = Open o.covered o.sent o.timer
