-- The mutable state of a net, as a value.
use Rattle.std.specs.Prelude.{◌≡◌, ◌-◌, ℕ, nat_lt, Bool, true, false, List, [], length, slice_get, Some, None}
use Rattle.std.specs.List.{AllByRecursion, sum}
use Rattle.std.specs.Vec.{vec_len, vec_capacity}
use Rattle.prefix_tree.specs.Tree.{Tree}
use Rattle.stat_plan.specs.Plans.{Plan, nodes}
use Rattle.overlay_event.specs.declared.event.Event.{Event}
use Rattle.overlay_core.specs.TreeReleases.{TreeRelease, releases_view}
use Rattle.overlay_core.specs.Nodes.{Node}
use Rattle.overlay_core.specs.Machine.{State, start_node}
use Rattle.overlay_node.specs.NodeViews.{Counts, IsNodeOf, NodeView, node_of}
use Rattle.event_claims.specs.Claims.{MayBeOut, Outs, claimed, come_home}
use Rattle.node_inbox.specs.Inboxes.{IsInbox}
use Rattle.node_inbox.specs.Sends.{inbox_at}
use Rattle.overlay_net.specs.Inboxes.{FrameInbox}
use Rattle.overlay_net.specs.Places.{HaveFrames, PlaceView, events_out, nodes_in, out_at, outs_in, places_view, whole_inboxes}
use Rattle.overlay_net.specs.Nets.{NetView, claims_at, net_view_of, outs_of, state_of, state_with}
use Rattle.overlay_net.specs.Events.{AreCountedBut, AreLosing, AreParts, IsNet, NoneIsLosing}
use Rattle.overlay_net.specs.Claims.{ClaimView, FitsNet}
use Rattle.overlay_net.specs.Handled.{ExtendsBy}
use Rattle.overlay_net.specs.declared.nodes.NetNodes.{NetNodes}
use Rattle.overlay_net.specs.declared.state.NetState.{NetState}

-- ---- the nodes of a net, where some are out

-- the nodes, those that are out as they went out
abbrev pub nodes_view : {X : Type 0} → NetNodes X → List NodeView
nodes_view v = nodes_in (places_view v.places.items)

-- what waits for each, with the frame that it took along
abbrev pub inboxes_view : {X : Type 0} → NetNodes X → List FrameInbox
inboxes_view v = whole_inboxes (places_view v.places.items) v.inboxes.items

module _ {X : Type 0} (p : Plan) (v : NetNodes X) where
  -- they are those of the plan
  abbrev pub ArePartsOf : Type 0
  ArePartsOf = AreParts p v.alive.items (nodes_view v) (inboxes_view v)

  -- the events of the node of this number that may be claimed
  abbrev pub claims_of : ℕ → List Event
  claims_of n = claims_at p v.alive.items (nodes_view v) (inboxes_view v) (events_out v.places.items) n

  -- the counts are those of the events that may be claimed, but for these nodes
  abbrev pub AreClaimsCountedBut : List ℕ → List ℕ → Type 0
  AreClaimsCountedBut rest counts = AreCountedBut rest p v.alive.items (nodes_view v) (inboxes_view v) (events_out v.places.items) counts

  abbrev pub AreClaimsCounted : List ℕ → Type 0
  AreClaimsCounted counts = AreClaimsCountedBut [] counts

-- where no loss is counted, no node is out with its loss
abbrev pub AreLossesCounted : {X : Type 0} → NetNodes X → Type 0
AreLossesCounted v = nat_lt 0 (sum v.losing) ≡ false → NoneIsLosing (events_out v.places.items)

-- The first `count` nodes live, are at home, have done no event yet, and no packet waits for them.
pub record AreInitial (p : Plan) (count : ℕ) (alive : List Bool) (xs : List NodeView) (inboxes : List FrameInbox) : Type 0 where
  pub node_count : length xs ≡ count
  pub inbox_count : length inboxes ≡ count
  pub alive_count : length alive ≡ count
  pub all_alive : AllByRecursion (λ t. t ≡ true) alive
  pub numbers : (n : ℕ) (x : NodeView) → slice_get xs n ≡ Some x → (x.number ≡ n) × IsNodeOf p x
  pub start : (n : ℕ) (x : NodeView) → slice_get xs n ≡ Some x → ◌≡◌ {A = Node} (node_of x) (start_node p n)
  pub counts : (n : ℕ) (x : NodeView) → slice_get xs n ≡ Some x → Counts x.held []
  pub empty : (n : ℕ) → inbox_at inboxes n ≡ []

-- ---- the net

-- the net of a plan and this state, where `tree` says what a release's tree is
abbrev pub net_view : {X : Type 0} → (X → Tree) → Plan → NetState X → Bool → NetView
net_view tree p st failed = record {
  plan = p;
  alive = st.nodes.alive.items;
  nodes = nodes_view st.nodes;
  inboxes = inboxes_view st.nodes;
  releases = releases_view tree st.releases.items;
  failed = failed;
  outs = outs_in (places_view st.nodes.places.items);
  room = vec_capacity st.releases - vec_len st.releases;
}

-- The invariant of a net of these parts that has not run out of memory, but that the events of these nodes are still to be counted:
-- it is reached by a journal, and the events that are out may be out together. A node that is out has its frame.
pub record IsNetOf (rest : List ℕ) (p : Plan) (alive : List Bool) (ps : List PlaceView) (boxes : List FrameInbox) (releases : List TreeRelease) (lost counts : List ℕ) : Type 0 where
  pub net : IsNet (net_view_of p alive (nodes_in ps) (whole_inboxes ps boxes) releases false)
  pub out : MayBeOut p (state_with p alive (nodes_in ps) (whole_inboxes ps boxes) releases) (out_at (outs_in ps))
  pub frames : HaveFrames ps
  pub inbox_count : length boxes ≡ nodes p
  pub inboxes : (n : ℕ) → IsInbox (inbox_at boxes n)
  pub losing : AreLosing p (out_at (outs_in ps)) lost
  pub counted : AreCountedBut rest p alive (nodes_in ps) (whole_inboxes ps boxes) (out_at (outs_in ps)) counts

-- the same of a plan and a state
abbrev pub IsNetStateBut : {X : Type 0} → List ℕ → (X → Tree) → Plan → NetState X → Type 0
IsNetStateBut rest tree p st = IsNetOf rest p st.nodes.alive.items (places_view st.nodes.places.items) st.nodes.inboxes.items (releases_view tree st.releases.items) st.nodes.losing st.counts

abbrev pub IsNetState : {X : Type 0} → (X → Tree) → Plan → NetState X → Type 0
IsNetState = IsNetStateBut []

-- the net of this plan and state, which has not run out of memory
abbrev pub net_at : {X : Type 0} → (X → Tree) → Plan → NetState X → NetView
net_at tree p st = net_view tree p st false

-- the machine's state of it
abbrev pub state_at : {X : Type 0} → (X → Tree) → Plan → NetState X → State
state_at tree p st = state_of (net_at tree p st)

-- if a journal leads to the old state, that journal with the event appended leads to the new one
abbrev pub ExtendsState : {X : Type 0} → (X → Tree) → Plan → Event → NetState X → NetState X → Type 0
ExtendsState tree p e old new = ExtendsBy e (net_at tree p old) (net_at tree p new)

-- ---- what the steps of an event do to a net

-- the new net has the state, the releases and the nodes out of the old one
pub record IsSameNet (old new : NetView) : Type 0 where
  pub plan : new.plan ≡ old.plan
  pub state : ◌≡◌ {A = State} (state_of new) (state_of old)
  pub releases : new.releases ≡ old.releases
  pub outs : new.outs ≡ old.outs

-- the event's node is out with it, and the claim fits; nothing else has changed
pub record IsClaimed (e : Event) (c : ClaimView) (old new : NetView) : Type 0 where
  pub event : c.event ≡ e
  pub fresh : c.left ≡ None
  pub fits : FitsNet new c
  pub plan : new.plan ≡ old.plan
  pub state : ◌≡◌ {A = State} (state_of new) (state_of old)
  pub releases : new.releases ≡ old.releases
  pub outs : ◌≡◌ {A = Outs} (outs_of new) (claimed (outs_of old) e)

-- the event was done, and its node is home
pub record IsCommitted (e : Event) (old new : NetView) : Type 0 where
  pub plan : new.plan ≡ old.plan
  pub reached : ExtendsBy e old new
  pub outs : ◌≡◌ {A = Outs} (outs_of new) (come_home (outs_of old) e)
