-- Runs whose events are picked by numbers.
use Rattle.std.specs.Prelude.{◌≡◌, ℕ, List, [], ◌++◌}
use Rattle.overlay_event.specs.declared.event.Event.{Event}
use Rattle.overlay_core.specs.Machine.{enabled_events}
use Rattle.overlay_core.specs.Pick.{PicksFrom}
use Rattle.overlay_net.specs.Nets.{NetView, IsReachedBy, state_of}

-- The events of the journal are those that the numbers after the seed pick from the old net on. It leads on to the new net of
-- the same plan, where no event may come next.
pub record HasPicked (old : NetView) (seed : ℕ) (journal : List Event) (new : NetView) : Type 0 where
  pub plan : new.plan ≡ old.plan
  pub last : ℕ
  pub picks : PicksFrom old.plan seed (state_of old) journal last
  pub reached : (earlier : List Event) → IsReachedBy old earlier → IsReachedBy new (earlier ++ journal)
  pub ends : enabled_events old.plan (state_of new) ≡ []
