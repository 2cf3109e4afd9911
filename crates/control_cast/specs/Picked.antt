-- The journal of the cast that a seed picks.
use Rattle.std.specs.Prelude.{◌≡◌, ◌↔◌, ℕ, ◌+◌, true, List}
use Rattle.overlay_setup.specs.NodeSets.{In}
use Rattle.stat_plan.specs.Plans.{Plan}
use Rattle.control_cast.specs.declared.event.CastEvent.{CastEvent}
use Rattle.stat_plan.specs.Machine.Journals.{picked_from, ArePickedFrom}
use Rattle.control_cast.specs.Machine.{State, start, step, enabled_events, is_enabled}
use Rattle.control_cast.specs.Bound.{bound}

-- no legal journal is as long as it may be
abbrev pub picked : Plan → ℕ → ℕ → List CastEvent
picked p commands seed = picked_from (step p) (enabled_events p commands) (bound p commands + 1) seed (start p)

-- the same as a relation, which a loop can establish event by event
abbrev pub IsPicked : Plan → ℕ → ℕ → List CastEvent → Type 0
IsPicked p commands seed journal = ArePickedFrom (step p) (enabled_events p commands) seed (start p) journal

-- the list of the events that may come in a state has exactly those
abbrev pub AreListed : Plan → ℕ → State → Type 0
AreListed p commands st = (e : CastEvent) → (is_enabled p commands st e ≡ true) ↔ In e (enabled_events p commands st)
