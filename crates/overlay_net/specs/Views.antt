-- What contracts see of a claim.
use Rattle.std.specs.Prelude.{◌≡◌, ℕ, List, map, Option, Some, None}
use Rattle.overlay_event.specs.declared.event.Event.{Event}
use Rattle.overlay_node.specs.NodeViews.{NodeView}
use Rattle.overlay_net.specs.Claims.{ClaimView, Left}
use Rattle.overlay_net.specs.declared.claimed.Work.{Work}

-- what an event left, with its node
abbrev pub left_of : {X : Type 0} → NodeView → Option (Work X) → Option Left
left_of x None = None
left_of x (Some work) = Some (record { node = x; sends = work.effects.sends; releases = work.effects.releases })

-- a claim, where the node and the frame were these when they were moved out
abbrev pub claim_of : {X : Type 0} → Event → NodeView → Option (List ℕ) → NodeView → Option (Work X) → ClaimView
claim_of e before taken x work = record { event = e; node = before; frame = taken; left = left_of x work }

-- Before its work, a claim has what was moved out. Afterwards it has the receivers of what is sent.
pub record IsClaimOf {X : Type 0} (before : NodeView) (taken : Option (List ℕ)) (x : NodeView) (frame : Option (List ℕ)) (work : Option (Work X)) : Type 0 where
  pub fresh : work ≡ None → (x ≡ before) × (frame ≡ taken)
  pub receivers : (w : Work X) → work ≡ Some w → w.receivers.items ≡ map (λ v. v.0) w.effects.sends
