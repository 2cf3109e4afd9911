-- An event that was handed over to its node: what was taken, and what became of the node.
use Rattle.std.proofs.Common.{◌≡◌, ◌<◌, ◌^◌, ℕ, List, length, slice_get, slice_set, Option, Some}
use Rattle.stat_plan.specs.Plans.{Plan}
use Rattle.overlay_event.specs.declared.event.Event.{Event}
use Rattle.overlay_event.specs.Events.{event_node}
use Rattle.overlay_core.specs.TreeReleases.{TreeRelease}
use Rattle.overlay_node.specs.NodeViews.{IsNodeOf, MayHandle, NodeView}
use Rattle.overlay_net.specs.Inboxes.{FrameInbox}
use Rattle.overlay_net.specs.Sends.{CanTake, IsTaken}
use Rattle.overlay_net.specs.Handled.{HasHandled}

-- An event's packet was taken from the inboxes, and its node has handled the event.
pub record IsHandedOver (p : Plan) (e : Event) (xs ys : List NodeView) (old new : List FrameInbox) (sends : List (ℕ × (List ℕ))) (more : List TreeRelease) : Type 0 where
  pub packet : Option (List ℕ)
  pub before : NodeView
  pub after : NodeView
  pub taken : IsTaken old e packet new
  pub node_before : slice_get xs (event_node e) ≡ Some before
  pub handled : HasHandled p before after e packet sends more
  pub nodes_after : ys ≡ slice_set xs (event_node e) after

-- The event's packet may be taken, and its node may handle the event with any packet that is taken. The node has done fewer
-- than 2^62 events.
pub record MayHandOver (p : Plan) (xs : List NodeView) (old : List FrameInbox) (e : Event) : Type 0 where
  pub below : event_node e < length xs
  pub take : CanTake old e
  pub fits : (x : NodeView) → slice_get xs (event_node e) ≡ Some x → IsNodeOf p x
  pub handle : (new : List FrameInbox) (packet : Option (List ℕ)) (x : NodeView) → IsTaken old e packet new → slice_get xs (event_node e) ≡ Some x → MayHandle p x e packet
  pub within_limit : (x : NodeView) → slice_get xs (event_node e) ≡ Some x → x.count < 2 ^ 62
