-- A claim: an event, what was moved out of a net for it, and what the event left of that.
use Rattle.std.specs.Prelude.{◌≡◌, ℕ, ◌<◌, ◌≤◌, ◌^◌, true, ◌==◌, ◌&&◌, not, List, [], map, filter, length, Option, None, Some}
use Rattle.std.specs.List.{AllByRecursion}
use Rattle.overlay_setup.specs.NodeSets.{up_to}
use Rattle.stat_plan.specs.Plans.{Plan, front, is_related, nodes}
use Rattle.overlay_event.specs.declared.event.Event.{Event}
use Rattle.overlay_event.specs.declared.event.Event.TheVariants.{Sample, Recv, Tick, Lose}
use Rattle.overlay_event.specs.Events.{event_node}
use Rattle.overlay_core.specs.Independent.{taken}
use Rattle.overlay_core.specs.Nodes.{Node, Packet, Down}
use Rattle.overlay_core.specs.Machine.{State, is_enabled}
use Rattle.overlay_core.specs.TreeReleases.{TreeRelease}
use Rattle.overlay_node.specs.Frames.{IsFrame}
use Rattle.overlay_node.specs.NodeViews.{NodeView, Counts, IsNodeOf, MayHandle, node_of, received_with}
use Rattle.overlay_node.specs.Outputs.{packets_of}
use Rattle.node_inbox.specs.Sends.{HaveRoom}
use Rattle.overlay_net.specs.Handled.{HasHandled}
use Rattle.overlay_net.specs.Nets.{NetView, outs_of, state_of}

-- what an event left: its node, what it sends, each frame with its receiver, and what it releases
pub record Left : Type 0 where
  pub node : NodeView
  pub sends : List (ℕ × List ℕ)
  pub releases : List TreeRelease

-- an event, its node and the frame that it receives as they were moved out, and what the event left once it was worked on
pub record ClaimView : Type 0 where
  pub event : Event
  pub node : NodeView
  pub frame : Option (List ℕ)
  pub left : Option Left

-- ---- what a claim may do

-- the node may handle the event with the frame; a loss is not handled
abbrev pub MayBeHandled : Plan → NodeView → Event → Option (List ℕ) → Type 0
MayBeHandled p x (Sample n s w) frame = MayHandle p x (Sample n s w) frame
MayBeHandled p x (Recv n m) frame = MayHandle p x (Recv n m) frame
MayBeHandled p x (Tick n) frame = MayHandle p x (Tick n) frame
MayBeHandled p x (Lose n) frame = (frame ≡ None) × (n < nodes p)

-- What was moved out may be worked on: it is the event's own node, a node of the plan, which may handle the event with the frame,
-- and has done fewer than 2^62 events.
pub record MayBeWorked (p : Plan) (c : ClaimView) : Type 0 where
  pub number : c.node.number ≡ event_node c.event
  pub fits : IsNodeOf p c.node
  pub handle : MayBeHandled p c.node c.event c.frame
  pub within_limit : c.node.count < 2 ^ 62

-- the ancestors and descendants of a lost node, each with the notice that it gets if it lives
abbrev pub notices : Plan → ℕ → List (ℕ × Packet)
notices p n = map (λ b. (b, Down)) (filter (λ b. not (b == n) && is_related p n b) (up_to (nodes p)))

-- what the loss of n leaves: its node as it was, and the notices
pub record LeavesNotices (p : Plan) (n : ℕ) (x : NodeView) (left : Left) : Type 0 where
  pub node : left.node ≡ x
  pub sent : packets_of left.sends ≡ notices p n
  pub frames : AllByRecursion (λ v. IsFrame p v.1) left.sends
  pub silent : left.releases ≡ []

-- what an event leaves of a node
abbrev pub Leaves : Plan → NodeView → Event → Option (List ℕ) → Left → Type 0
Leaves p x (Sample n s w) frame left = HasHandled p x left.node (Sample n s w) frame left.sends left.releases
Leaves p x (Recv n m) frame left = HasHandled p x left.node (Recv n m) frame left.sends left.releases
Leaves p x (Tick n) frame left = HasHandled p x left.node (Tick n) frame left.sends left.releases
Leaves p x (Lose n) frame left = LeavesNotices p n x left

-- it was worked on, and has what the event leaves
pub record WasWorked (p : Plan) (c : ClaimView) : Type 0 where
  pub left : Left
  pub is : c.left ≡ Some left
  pub leaves : Leaves p c.node c.event c.frame left

-- the same event with the same node and frame as they were moved out
pub record IsSameClaim (old new : ClaimView) : Type 0 where
  pub event : new.event ≡ old.event
  pub node : new.node ≡ old.node
  pub frame : new.frame ≡ old.frame

-- ---- a claim and its net

-- What was moved out is what a state has: the node, and the packet that the event receives. The event is enabled. If it is the front
-- end's, the node has counted the releases.
pub record IsMovedOut (p : Plan) (st : State) (c : ClaimView) : Type 0 where
  pub enabled : is_enabled p st c.event ≡ true
  pub node : ◌≡◌ {A = Node} (node_of c.node) (st.node (event_node c.event))
  pub packet : received_with c.event c.frame ≡ taken st c.event
  pub counts : event_node c.event ≡ front p → Counts c.node.held st.releases

-- the event is out in the net, and what was moved out is what the net's state has
pub record FitsNet (v : NetView) (c : ClaimView) : Type 0 where
  pub out : outs_of v (event_node c.event) ≡ Some c.event
  pub moved : IsMovedOut v.plan (state_of v) c
  pub worked : MayBeWorked v.plan c

-- there is room in the net for all that the claim sends and releases
pub record IsPrepared (v : NetView) (c : ClaimView) : Type 0 where
  pub left : Left
  pub is : c.left ≡ Some left
  pub sends : HaveRoom (event_node c.event) left.sends v.inboxes
  pub releases : length left.releases ≤ v.room
