-- The state of a net in the code as the machine's, and its events by node.
use Rattle.std.specs.Prelude.{ℕ, Bool, not, ◌&&◌, nat_lt, List}
use Rattle.stat_plan.specs.Plans.{Plan, fault, front}
use Rattle.node_inbox.specs.Inboxes.{Waiting, queue_of}
use Rattle.control_cast.specs.declared.event.CastEvent.{CastEvent}
use Rattle.control_cast.specs.declared.event.CastEvent.TheVariants.{Issue, Recv, Lose}
use Rattle.control_cast.specs.declared.nodes.CastNodes.{CastNodes}
use Rattle.control_cast.specs.declared.state.CastState.{CastState}
use Rattle.stat_plan.specs.Machine.Overlays.{is_spent, is_pending}
use Rattle.control_cast.specs.Machine.{Packet, State}
use Rattle.control_cast.specs.CastNodes.{NodeView}
use Rattle.control_cast.specs.CastNets.{AreInitial, AreParts, HasDone, IsNet, state_with}
use Rattle.control_cast.specs.CastEvents.{AreCounted}

-- ---- the nodes of a net

-- the machine's state of them
abbrev pub nodes_state : Plan → CastNodes → State
nodes_state p v = state_with p v.alive.items v.members.items v.inboxes.items

-- they are those of the plan
abbrev pub ArePartsOf : Plan → CastNodes → Type 0
ArePartsOf p v = AreParts p v.alive.items v.members.items v.inboxes.items

-- and a legal journal leads to their state
abbrev pub IsNetOf : Plan → ℕ → CastNodes → Type 0
IsNetOf p commands v = IsNet p commands v.alive.items v.members.items v.inboxes.items

-- nothing has happened to them yet
abbrev pub AreInitialOf : Plan → CastNodes → Type 0
AreInitialOf p v = AreInitial p v.alive.items v.members.items v.inboxes.items

-- the event was done to the old ones, and of all nodes but these it left what they were
abbrev pub HasDoneOf : Plan → CastEvent → List ℕ → CastNodes → CastNodes → Type 0
HasDoneOf p e changed old new = HasDone p e changed (nodes_state p old) new.alive.items new.members.items new.inboxes.items

-- ---- the state of a net

abbrev pub state_of : Plan → CastState → State
state_of p st = nodes_state p st.nodes

-- the nodes are those that a legal journal leads to, and the events of each that may come next are counted
pub record IsNetState (p : Plan) (commands : ℕ) (st : CastState) : Type 0 where
  pub net : IsNetOf p commands st.nodes
  pub counted : AreCounted p commands (state_of p st) st.counts

-- ---- an event

-- the node at which an event happens
abbrev pub event_node : Plan → CastEvent → ℕ
event_node p Issue = front p
event_node p (Recv n m) = n
event_node p (Lose n) = n

-- whether an event of a living node, for which these packets wait, may come next
abbrev pub may_come : Plan → ℕ → NodeView → Waiting Packet → CastEvent → Bool
may_come p commands x box Issue = not (is_spent (fault p x.number) x.count) && nat_lt x.seen commands
may_come p commands x box (Recv n m) = not (is_spent (fault p x.number) x.count) && is_pending (queue_of box m)
may_come p commands x box (Lose n) = is_spent (fault p x.number) x.count
