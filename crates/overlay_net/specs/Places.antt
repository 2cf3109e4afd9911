-- Where the nodes of a net are: at home, or out with an event that was claimed. What is out is seen as it was when it went out.
use Rattle.std.specs.Prelude.{◌≡◌, ℕ, ◌==◌, nat_lt, cond, List, [], ◌∷◌, map, slice_get, slice_index_or, Option, Some, None}
use Rattle.overlay_event.specs.declared.event.Event.{Event}
use Rattle.overlay_event.specs.declared.event.Event.TheVariants.{Sample, Recv, Tick, Lose}
use Rattle.event_claims.specs.Claims.{Outs}
use Rattle.overlay_node.specs.NodeViews.{NodeView}
use Rattle.overlay_net.specs.Inboxes.{FrameInbox, WaitingFrames}
use Rattle.overlay_net.specs.declared.place.Place.{Place}
use Rattle.overlay_net.specs.declared.place.Place.TheVariants.{Home, Out}

-- a node, the event with which it is out, if it is out, and the frame that it took along
pub record PlaceView : Type 0 where
  pub node : NodeView
  pub out : Option Event
  pub frame : Option (List ℕ)

-- the node is at home
abbrev pub at_home : NodeView → PlaceView
at_home x = record { node = x; out = None; frame = None }

-- the node is out with this event and frame
abbrev pub away : Event → NodeView → Option (List ℕ) → PlaceView
away e x frame = record { node = x; out = Some e; frame = frame }

abbrev pub place_view : {X : Type 0} → Place X → PlaceView
place_view (Home x) = at_home x
place_view (Out e x frame) = away e x.value frame.value

abbrev pub places_view : {X : Type 0} → List (Place X) → List PlaceView
places_view xs = map place_view xs

-- the nodes, those that are out among them
abbrev pub nodes_in : List PlaceView → List NodeView
nodes_in ps = map (λ x. x.node) ps

-- the event with which each node is out, if it is out
abbrev pub outs_in : List PlaceView → List (Option Event)
outs_in ps = map (λ x. x.out) ps

abbrev pub out_at : List (Option Event) → Outs
out_at outs n = slice_index_or outs n None

abbrev pub events_out : {X : Type 0} → List (Place X) → Outs
events_out places = out_at (outs_in (places_view places))

-- ---- what is on the way, also to nodes that are out

-- a frame stands before what waits from its sender
abbrev pub put_first : ℕ → List ℕ → WaitingFrames → WaitingFrames
put_first m frame [] = (m, frame ∷ []) ∷ []
put_first m frame (e ∷ es) = cond (m == e.0) ((m, frame ∷ e.1) ∷ es) (cond (nat_lt m e.0) ((m, frame ∷ []) ∷ e ∷ es) (e ∷ put_first m frame es))

-- the frame that an event took is first again
abbrev pub with_frame : Option Event → Option (List ℕ) → WaitingFrames → WaitingFrames
with_frame None frame w = w
with_frame (Some (Sample n s v)) frame w = w
with_frame (Some (Recv n m)) None w = w
with_frame (Some (Recv n m)) (Some f) w = put_first m f w
with_frame (Some (Tick n)) frame w = w
with_frame (Some (Lose n)) frame w = w

-- an inbox with the frame that its node took along, until the event is done
abbrev pub whole_inbox : PlaceView → FrameInbox → FrameInbox
whole_inbox x box = record { waiting = with_frame x.out x.frame box.waiting; rooms = box.rooms }

abbrev pub whole_inboxes : List PlaceView → List FrameInbox → List FrameInbox
whole_inboxes [] boxes = boxes
whole_inboxes (x ∷ xs) [] = []
whole_inboxes (x ∷ xs) (box ∷ boxes) = whole_inbox x box ∷ whole_inboxes xs boxes

-- a node that is out with a frame has it
abbrev pub HasFrame : Option Event → Option (List ℕ) → Type 0
HasFrame None frame = frame ≡ None
HasFrame (Some (Sample n s v)) frame = frame ≡ None
HasFrame (Some (Recv n m)) frame = (f : List ℕ) × (frame ≡ Some f)
HasFrame (Some (Tick n)) frame = frame ≡ None
HasFrame (Some (Lose n)) frame = frame ≡ None

-- each node that is out with a frame has it
abbrev pub HaveFrames : List PlaceView → Type 0
HaveFrames ps = (n : ℕ) (x : PlaceView) → slice_get ps n ≡ Some x → HasFrame x.out x.frame
