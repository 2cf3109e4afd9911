-- Claims: events that several workers work on at the same time. An event is claimed, its node is out with it, and later
-- comes home.
use Rattle.std.specs.Prelude.{◌≡◌, ◌≢◌, ◌↔◌, ℕ, Bool, true, false, ◌==◌, ◌&&◌, not, List, filter, Option, None, Some}
use Rattle.std.specs.List.{list_any}
use Rattle.overlay_setup.specs.NodeSets.{In, up_to}
use Rattle.stat_plan.specs.Plans.{Plan, nodes}
use Rattle.stat_plan.specs.Machine.Waves.{put_at}
use Rattle.overlay_event.specs.Events.{event_node}
use Rattle.overlay_event.specs.declared.event.Event.{Event}
use Rattle.overlay_event.specs.declared.event.Event.TheVariants.{Sample, Recv, Tick, Lose}
use Rattle.overlay_core.specs.Nodes.{Node}
use Rattle.overlay_core.specs.Machine.{State, is_enabled, enabled_events}
use Rattle.overlay_core.specs.Independent.{sender_of, taken}

-- the event with which each node is out, if it is out
abbrev pub Outs : Type 0
Outs = ℕ → Option Event

-- no node is out
abbrev pub all_home : Outs
all_home n = None

-- the event's node is out with it
abbrev pub claimed : Outs → Event → Outs
claimed out e = put_at out (event_node e) (Some e)

-- the event's node is home again
abbrev pub come_home : Outs → Event → Outs
come_home out e = put_at out (event_node e) None

-- These events may be out together. Each is an event of the node that is out with it, and is enabled. And while a node is
-- out with a packet, the packet's sender is not out with its own loss.
pub record MayBeOut (p : Plan) (st : State) (out : Outs) : Type 0 where
  pub own : (n : ℕ) (e : Event) → out n ≡ Some e → event_node e ≡ n
  pub enabled : (n : ℕ) (e : Event) → out n ≡ Some e → is_enabled p st e ≡ true
  pub senders_stay : (n m : ℕ) → out n ≡ Some (Recv n m) → out m ≢ Some (Lose m)

-- An event may be claimed while these are out: it is enabled, and its node is home. If it takes a packet, the sender is
-- not out with its own loss; if it is a loss, no node is out with a packet of the lost node.
pub record MayBeClaimed (p : Plan) (st : State) (out : Outs) (e : Event) : Type 0 where
  pub enabled : is_enabled p st e ≡ true
  pub home : out (event_node e) ≡ None
  pub sender_stays : (m : ℕ) → sender_of e ≡ Some m → out m ≢ Some (Lose m)
  pub no_packet_out : (k n : ℕ) → e ≡ Lose k → out n ≢ Some (Recv n k)

-- An event finds the same in the new state as in the old one: its node, and the packet that it takes. And it is enabled.
pub record FindsTheSame (p : Plan) (e : Event) (old new : State) : Type 0 where
  pub node : ◌≡◌ {A = Node} (new.node (event_node e)) (old.node (event_node e))
  pub packet : taken new e ≡ taken old e
  pub enabled : is_enabled p new e ≡ true

-- ---- tests

-- whether a node is home
abbrev pub is_home : Option Event → Bool
is_home None = true
is_home (Some e) = false

-- whether a node is out with the loss of m
abbrev pub is_loss_of : Option Event → ℕ → Bool
is_loss_of None m = false
is_loss_of (Some (Sample n s w)) m = false
is_loss_of (Some (Recv n k)) m = false
is_loss_of (Some (Tick n)) m = false
is_loss_of (Some (Lose n)) m = n == m

-- whether a node is out with a packet of m
abbrev pub receives_from : Option Event → ℕ → Bool
receives_from None m = false
receives_from (Some (Sample n s w)) m = false
receives_from (Some (Recv n k)) m = k == m
receives_from (Some (Tick n)) m = false
receives_from (Some (Lose n)) m = false

-- whether the event conflicts with none that is out at another node
abbrev pub is_free : Plan → Outs → Event → Bool
is_free p out (Sample n s w) = true
is_free p out (Recv n m) = not (is_loss_of (out m) m)
is_free p out (Tick n) = true
is_free p out (Lose n) = not (list_any (λ k. receives_from (out k) n) (up_to (nodes p)))

-- whether the event's node is home, and the event is free
abbrev pub is_claimable : Plan → Outs → Event → Bool
is_claimable p out e = is_home (out (event_node e)) && is_free p out e

-- the enabled events that may be claimed, in order
unfoldable pub claimable_events : Plan → State → Outs → List Event
claimable_events p st out = filter (is_claimable p out) (enabled_events p st)

-- whatever is out, the list has exactly the events that may be claimed
abbrev pub ClaimsAreListed : Plan → State → Type 0
ClaimsAreListed p st = (out : Outs) (e : Event) → MayBeOut p st out → In e (claimable_events p st out) ↔ MayBeClaimed p st out e
