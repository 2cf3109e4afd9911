-- The journal that a number picks.
use Rattle.std.specs.Prelude.{ℕ, ◌+◌, List, Option}
use Rattle.stat_plan.specs.Plans.{Plan}
use Rattle.stat_plan.specs.Machine.Journals.{event_by}
use Rattle.stat_plan.specs.Machine.Journals as journals
use Rattle.overlay_event.specs.declared.event.Event.{Event}
use Rattle.overlay_core.specs.Bound.{bound}
use Rattle.overlay_core.specs.Machine.{State, start, step, enabled_events}

-- the event that x picks of those that are enabled, if there is one
unfoldable pub picked_event : Plan → State → ℕ → Option Event
picked_event p st x = event_by (enabled_events p st) x

-- the events that the numbers after x pick from a state on, at most this many
abbrev pub picked_from : Plan → ℕ → ℕ → State → List Event
picked_from p most x st = journals.picked_from (step p) (enabled_events p) most x st

-- the journal of a seed; no legal journal is as long as it may be
abbrev pub picked : Plan → ℕ → List Event
picked p seed = picked_from p (bound p + 1) seed (start p)

-- the numbers after x pick these events from a state on, and y is the last of the numbers
abbrev pub PicksFrom : Plan → ℕ → State → List Event → ℕ → Type 0
PicksFrom p x st es y = journals.PicksFrom (step p) (enabled_events p) x st es y

-- the numbers after the seed pick the events of the journal, as far as the number y
abbrev pub Picks : Plan → ℕ → List Event → ℕ → Type 0
Picks p seed journal y = PicksFrom p seed (start p) journal y

-- the numbers after the seed pick the events of the journal, and no event may come after them
abbrev pub IsPickedFrom : Plan → ℕ → List Event → Type 0
IsPickedFrom p seed journal = journals.ArePickedFrom (step p) (enabled_events p) seed (start p) journal
