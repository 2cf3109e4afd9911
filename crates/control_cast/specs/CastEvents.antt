-- The events of a node that may come next, by the node and what waits for it.
use Rattle.std.specs.Prelude.{ℕ, Bool, ◌&&◌, nat_lt, cond, List, [], ◌∷◌, ◌++◌, map, filter}
use Rattle.overlay_setup.specs.NodeSets.{member}
use Rattle.stat_plan.specs.Plans.{Plan, fault, is_front, nodes}
use Rattle.node_inbox.specs.Inboxes.{Waiting, senders_of}
use Rattle.count_tree.specs.Places.{AreCountsBut}
use Rattle.control_cast.specs.declared.event.CastEvent.{CastEvent}
use Rattle.control_cast.specs.declared.event.CastEvent.TheVariants.{Issue, Recv, Lose}
use Rattle.stat_plan.specs.Machine.Overlays.{is_spent}
use Rattle.control_cast.specs.Machine.{Packet, State, is_enabled, events_of}
use Rattle.control_cast.specs.CastNodes.{NodeView}

-- whether a node that isn't to be lost issues a command
abbrev pub may_issue : Plan → ℕ → NodeView → Bool
may_issue p commands x = is_front p x.number && nat_lt x.seen commands

-- those of a node that isn't to be lost: a command, and what it receives by sender
abbrev pub active_events : Plan → ℕ → NodeView → Waiting Packet → List CastEvent
active_events p commands x box = cond (may_issue p commands x) (Issue ∷ []) [] ++ map (λ m. Recv x.number m) (senders_of box)

-- of a node that lives, its loss if that is all that may happen to it; otherwise those
abbrev pub own_events : Plan → ℕ → Bool → NodeView → Waiting Packet → List CastEvent
own_events p commands up x box = cond up (cond (is_spent (fault p x.number) x.count) (Lose x.number ∷ []) (active_events p commands x box)) []

-- the events of a node that may come next
abbrev pub events_at : Plan → ℕ → State → ℕ → List CastEvent
events_at p commands st n = filter (is_enabled p commands st) (events_of p n)

-- the counts are those of the events of each node that may come next, but for these nodes
abbrev pub AreCountedBut : Plan → ℕ → State → List ℕ → List ℕ → Type 0
AreCountedBut p commands st rest counts = AreCountsBut (λ n. member n rest) (events_at p commands st) (nodes p) counts

-- the counts are those of the events of each node that may come next
abbrev pub AreCounted : Plan → ℕ → State → List ℕ → Type 0
AreCounted p commands st counts = AreCountedBut p commands st [] counts
