-- What an event does at its node, and which events leave it as it is.
use Rattle.std.specs.Prelude.{◌≡◌, ◌≢◌, ℕ, List, [], ◌∷◌, Option, None, Some}
use Rattle.stat_plan.specs.Plans.{Plan}
use Rattle.overlay_event.specs.Events.{event_node}
use Rattle.overlay_event.specs.declared.event.Event.{Event}
use Rattle.overlay_event.specs.declared.event.Event.TheVariants.{Sample, Recv, Tick, Lose}
use Rattle.overlay_core.specs.Nodes.{Packet, Outcome, handled}
use Rattle.overlay_core.specs.Machine.{State}

-- the first of the packets from m, with the sender
abbrev pub first_from : ℕ → List Packet → Option (ℕ × Packet)
first_from m [] = None
first_from m (q ∷ qs) = Some (m, q)

-- what an event takes off a link
abbrev pub taken : State → Event → Option (ℕ × Packet)
taken st (Sample n s w) = None
taken st (Recv n m) = first_from m (st.link m n)
taken st (Tick n) = None
taken st (Lose n) = None

-- what an event leaves of its node
unfoldable pub outcome : Plan → State → Event → Outcome
outcome p st e = handled p (event_node e) (st.node (event_node e)) e (taken st e)

-- the node from whose link an event takes a packet
abbrev pub sender_of : Event → Option ℕ
sender_of (Sample n s w) = None
sender_of (Recv n m) = Some m
sender_of (Tick n) = None
sender_of (Lose n) = None

-- the second event is of another node, and isn't the loss of the sender of the first one's packet
pub record AreIndependent (e f : Event) : Type 0 where
  pub elsewhere : event_node f ≢ event_node e
  pub keeps_sender : (m : ℕ) → sender_of e ≡ Some m → f ≢ Lose m
