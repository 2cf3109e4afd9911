-- A run of a cast whose events a seed picks.
use Rattle.std.specs.Prelude.{◌≡◌, ℕ, List}
use Rattle.stat_plan.specs.Plans.{Plan}
use Rattle.control_cast.specs.declared.event.CastEvent.{CastEvent}
use Rattle.stat_plan.specs.Machine.Journals.{run, PicksFrom, ArePickedFrom}
use Rattle.control_cast.specs.Machine.{State, step, enabled_events}

-- the seed picks the events of the journal from the old state on, and they lead to the new one, where none may come next
pub record HasPicked (p : Plan) (commands : ℕ) (old : State) (seed : ℕ) (journal : List CastEvent) (new : State) : Type 0 where
  pub picked : ArePickedFrom (step p) (enabled_events p commands) seed old journal
  pub state : new ≡ run (step p) old journal

-- so far: the numbers up to y picked these events
pub record HasCome (p : Plan) (commands : ℕ) (old : State) (seed : ℕ) (journal : List CastEvent) (y : ℕ) (new : State) : Type 0 where
  pub picks : PicksFrom (step p) (enabled_events p commands) seed old journal y
  pub state : new ≡ run (step p) old journal
