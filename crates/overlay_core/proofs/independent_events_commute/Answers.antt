use Rattle.overlay_core.proofs.Independent.{stays_enabled, stays_through}
use Rattle.overlay_core.proofs.independent_events_commute.Goals as goal

pub returns : goal.returns
returns c = record { single = stays_enabled; several = stays_through }
