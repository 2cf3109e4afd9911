-- A claim that fits its net, after its work and after room was made.
use Rattle.std.proofs.Common.{◌≡◌, ◌∙◌, ◌<◌, ◌^◌, ℕ, Bool, true, false, ◌==◌, cond, Some, None, refl, sym, ap, subst}
use Rattle.stat_plan.specs.Plans.{Plan}
use Rattle.overlay_event.specs.declared.event.Event.{Event}
use Rattle.overlay_event.specs.Events.{event_node}
use Rattle.overlay_core.specs.Independent.{taken}
use Rattle.overlay_core.specs.Machine.{State, is_enabled}
use Rattle.event_claims.specs.Claims.{Outs, claimed, come_home}
use Rattle.overlay_node.specs.NodeViews.{Counts, IsNodeOf, node_of, received_with}
use Rattle.overlay_net.specs.Claims.{ClaimView, FitsNet, IsMovedOut, IsSameClaim, MayBeHandled, MayBeWorked}
use Rattle.overlay_net.specs.Nets.{NetView, outs_of, state_of}
use Rattle.overlay_net.specs.Places.{out_at}
use Rattle.overlay_net.specs.States.{IsSameNet}

pub moved_same : (p : Plan) (st : State) (c d : ClaimView) → IsSameClaim c d → IsMovedOut p st c → IsMovedOut p st d
moved_same p st c d same h = record {
  enabled = ap (is_enabled p st) same.event ∙ h.enabled;
  node = (λ i. node_of (same.node i)) ∙ h.node ∙ ap (λ e. st.node (event_node e)) (sym same.event);
  packet = (λ i. received_with (same.event i) (same.frame i)) ∙ h.packet ∙ ap (taken st) (sym same.event);
  counts = λ top. subst (λ x. Counts x.held st.releases) (sym same.node) (h.counts (ap event_node (sym same.event) ∙ top));
}

pub worked_same : (p : Plan) (c d : ClaimView) → IsSameClaim c d → MayBeWorked p c → MayBeWorked p d
worked_same p c d same h = record {
  number = ap (λ x. x.number) same.node ∙ h.number ∙ ap event_node (sym same.event);
  fits = subst (IsNodeOf p) (sym same.node) h.fits;
  handle = subst (λ e. MayBeHandled p d.node e d.frame) (sym same.event) (subst (λ x. MayBeHandled p x c.event d.frame) (sym same.node) (subst (MayBeHandled p c.node c.event) (sym same.frame) h.handle));
  within_limit = subst (λ x. x.count < 2 ^ 62) (sym same.node) h.within_limit;
}

-- after its work it still fits
pub fits_same : (v : NetView) (c d : ClaimView) → IsSameClaim c d → FitsNet v c → FitsNet v d
fits_same v c d same h = record {
  out = ap (λ e. outs_of v (event_node e)) same.event ∙ h.out ∙ ap Some (sym same.event);
  moved = moved_same v.plan (state_of v) c d same h.moved;
  worked = worked_same v.plan c d same h.worked;
}

-- and after room was made
pub fits_stay : (v w : NetView) (c d : ClaimView) → IsSameNet v w → IsSameClaim c d → FitsNet v c → FitsNet w d
fits_stay v w c d net same h =
    let k = fits_same v c d same h in
    record {
      out = (λ i. out_at (net.outs i) (event_node d.event)) ∙ k.out;
      moved = subst (λ p. IsMovedOut p (state_of w) d) (sym net.plan) (subst (λ s. IsMovedOut v.plan s d) (sym net.state) k.moved);
      worked = subst (λ p. MayBeWorked p d) (sym net.plan) k.worked;
    }

-- where no other node is out, none is after the event
pub home_again : (out : Outs) (e f : Event) → f ≡ e → ((n : ℕ) → out n ≡ None) → (n : ℕ) → come_home (claimed out e) f n ≡ None
home_again out e f same home n = ap (λ g. come_home (claimed out e) g n) same ∙ go (n == event_node e)
  where
    go : (t : Bool) → cond t None (cond t (Some e) (out n)) ≡ None
    go true = refl
    go false = home n
