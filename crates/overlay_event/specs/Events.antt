-- The events of the machine.
use Rattle.std.specs.Prelude.{ℕ}
use Rattle.overlay_event.specs.declared.event.Event.{Event}
use Rattle.overlay_event.specs.declared.event.Event.TheVariants.{Sample, Recv, Tick, Lose}

-- the node at which an event happens
abbrev pub event_node : Event → ℕ
event_node (Sample n s w) = n
event_node (Recv n m) = n
event_node (Tick n) = n
event_node (Lose n) = n
