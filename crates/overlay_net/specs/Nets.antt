-- A net as a value, and the journals that lead to it.
use Rattle.std.specs.Prelude.{◌≡◌, ℕ, Bool, cond, List, [], ◌∷◌, ◌++◌, map, filter, slice_get, Option, Some, None}
use Rattle.std.specs.List.{AllByRecursion, flat_map}
use Rattle.overlay_setup.specs.NodeSets.{member}
use Rattle.stat_plan.specs.Plans.{Plan, fault}
use Rattle.overlay_setup.specs.Scripts.{Stream}
use Rattle.overlay_event.specs.declared.event.Event.{Event}
use Rattle.overlay_event.specs.declared.event.Event.TheVariants.{Sample, Recv, Tick, Lose}
use Rattle.overlay_core.specs.Nodes.{Node}
use Rattle.overlay_core.specs.Machine.{State, start_node, next_sample}
use Rattle.stat_plan.specs.Machine.Overlays.{is_spent}
use Rattle.overlay_core.specs.Runs.{IsLegal, after}
use Rattle.overlay_core.specs.TreeReleases.{TreeRelease, AreNumberedInOrder, bare_releases}
use Rattle.overlay_node.specs.Frames.{packet_of}
use Rattle.overlay_node.specs.Outputs.{ReleaseFits}
use Rattle.overlay_node.specs.NodeViews.{NodeView, has_running, node_of}
use Rattle.event_claims.specs.Claims.{Outs, is_free, is_home}
use Rattle.overlay_net.specs.Inboxes.{FrameInbox, WaitingFrames}
use Rattle.overlay_net.specs.Places.{out_at}
use Rattle.node_inbox.specs.Inboxes.{queue_of, senders_of}
use Rattle.node_inbox.specs.Sends.{inbox_at, is_alive}

-- A plan, whether each node lives, its nodes by number, the inbox of each, what was released so far, and whether an event ran out
-- of memory; the event with which each node is out, if it is out; and for how many more releases there is room. A node that is out,
-- and the frame that it took along, are as they were when it went out, until its event is done.
pub record NetView : Type 0 where
  pub plan : Plan
  pub alive : List Bool
  pub nodes : List NodeView
  pub inboxes : List FrameInbox
  pub releases : List TreeRelease
  pub failed : Bool
  pub outs : List (Option Event)
  pub room : ℕ

-- the net of these parts, with no word of who is out
abbrev pub net_view_of : Plan → List Bool → List NodeView → List FrameInbox → List TreeRelease → Bool → NetView
net_view_of p alive xs inboxes releases failed = record { plan = p; alive = alive; nodes = xs; inboxes = inboxes; releases = releases; failed = failed; outs = []; room = 0 }

-- the event with which each node is out
abbrev pub outs_of : NetView → Outs
outs_of v = out_at v.outs

-- no node is out
abbrev pub AllHome : NetView → Type 0
AllHome v = (n : ℕ) → outs_of v n ≡ None

-- ---- as the machine's state

-- the node of this number; if there is none, one that has done no event
abbrev pub node_at : Plan → List NodeView → ℕ → Node
node_at p xs n = elim (slice_get xs n) [ None ↦ start_node p n | Some x ↦ node_of x ]

-- the state of these parts
abbrev pub state_with : Plan → List Bool → List NodeView → List FrameInbox → List TreeRelease → State
state_with p alive xs inboxes releases = record {
  alive = is_alive alive;
  node = node_at p xs;
  link = λ m n. map packet_of (queue_of (inbox_at inboxes n) m);
  releases = bare_releases releases;
}

-- the state of a net
abbrev pub state_of : NetView → State
state_of v = state_with v.plan v.alive v.nodes v.inboxes v.releases

-- ---- the net that a journal leads to

-- The journal is legal and leads to the state of the net. The releases of a wave are numbered in order, and the tree of
-- each is the direct merge of the wave's samples over the ranks that it covers.
pub record IsReachedBy (v : NetView) (journal : List Event) : Type 0 where
  pub legal : IsLegal v.plan journal
  pub state : ◌≡◌ {A = State} (state_of v) (after v.plan journal)
  pub numbered : AreNumberedInOrder [] v.releases
  pub trees : AllByRecursion (ReleaseFits v.plan) v.releases

-- ---- the events of a node that may come next, by the node and its inbox

-- its sample of a stream
abbrev pub sample_of : Plan → NodeView → Stream → List Event
sample_of p x s = cond (member x.number s.daemons) (elim (next_sample p (node_of x) s.number) [ None ↦ [] | Some v ↦ Sample x.number s.number v.1 ∷ [] ]) []

-- its tick, if a timer runs
abbrev pub tick_of : Plan → NodeView → List Event
tick_of p x = cond (has_running p x) (Tick x.number ∷ []) []

-- its samples by stream, what it receives by sender, and its tick
abbrev pub active_events : Plan → NodeView → WaitingFrames → List Event
active_events p x box = flat_map (sample_of p x) p.streams ++ map (λ m. Recv x.number m) (senders_of box) ++ tick_of p x

-- whether the node has done the events that it does before it is lost
abbrev pub is_doomed_node : Plan → NodeView → Bool
is_doomed_node p x = is_spent (fault p x.number) x.count

-- of a node that lives, its loss if that is all that may happen to it; otherwise those
abbrev pub node_events : Plan → Bool → NodeView → WaitingFrames → List Event
node_events p up x box = cond up (cond (is_doomed_node p x) (Lose x.number ∷ []) (active_events p x box)) []

-- the events of the node of this number that may come next
abbrev pub events_at : Plan → List Bool → List NodeView → List FrameInbox → ℕ → List Event
events_at p al xs inboxes n = elim (slice_get xs n) [ None ↦ [] | Some x ↦ node_events p (is_alive al n) x (inbox_at inboxes n) ]

-- those that may be claimed while these events are out
abbrev pub claims_at : Plan → List Bool → List NodeView → List FrameInbox → Outs → ℕ → List Event
claims_at p al xs inboxes out n = cond (is_home (out n)) (filter (is_free p out) (events_at p al xs inboxes n)) []
