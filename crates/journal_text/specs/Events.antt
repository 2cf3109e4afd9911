-- The events of a plan.
use Rattle.std.specs.Prelude.{ℕ, ◌<◌, List, ◌∷◌, ◌++◌, map}
use Rattle.std.specs.List.{AllByRecursion, flat_map}
use Rattle.overlay_setup.specs.NodeSets.{In, up_to}
use Rattle.overlay_event.specs.declared.event.Event.{Event}
use Rattle.overlay_event.specs.declared.event.Event.TheVariants.{Sample, Recv, Tick, Lose}
use Rattle.stat_plan.specs.Plans.{Plan, nodes, waves_of}

-- an event of nodes of the plan, and of a wave of one of its streams
abbrev pub IsEventOf : Plan → Event → Type 0
IsEventOf p (Sample n s w) = (n < nodes p) × In (s, w) (waves_of p.streams)
IsEventOf p (Recv n m) = (n < nodes p) × (m < nodes p)
IsEventOf p (Tick n) = n < nodes p
IsEventOf p (Lose n) = n < nodes p

-- each event is one of the plan
abbrev pub AreEventsOf : Plan → List Event → Type 0
AreEventsOf p events = AllByRecursion (IsEventOf p) events

-- the events at a node
abbrev pub events_at : Plan → ℕ → List Event
events_at p n =
    Tick n ∷ Lose n ∷ map (λ m. Recv n m) (up_to (nodes p)) ++ map (λ v. Sample n v.0 v.1) (waves_of p.streams)

-- the events of a plan
abbrev pub events_of : Plan → List Event
events_of p = flat_map (events_at p) (up_to (nodes p))
