-- The invariant of a net, where an event is claimed.
use Rattle.std.proofs.Common.{◌≡◌, ◌∙◌, ◌<◌, ℕ, Bool, false, cond, List, [], length, slice_get, slice_set, Option, Some, None, refl, sym, ap, subst, eq-eqb}
use Rattle.stat_plan.specs.Invariants.{IsPlan}
use Rattle.stat_plan.specs.Plans.{Plan, fault, nodes, AreNodes}
use Rattle.stat_plan.proofs.InLists.{all_below}
use Rattle.overlay_event.specs.declared.event.Event.{Event}
use Rattle.overlay_event.specs.declared.event.Event.TheVariants.{Sample, Recv, Tick, Lose}
use Rattle.overlay_event.specs.Events.{event_node}
use Rattle.overlay_core.specs.Machine.{State}
use Rattle.overlay_core.specs.TreeReleases.{TreeRelease}
use Rattle.event_claims.specs.Claims.{MayBeClaimed, is_loss_of}
use Rattle.overlay_node.specs.NodeViews.{NodeView}
use Rattle.overlay_net.specs.Inboxes.{FrameInbox}
use Rattle.overlay_net.specs.Events.{AreCountedBut, AreLosing, IsOrdinary, with_loss}
use Rattle.overlay_net.specs.Claims.{IsMovedOut}
use Rattle.overlay_net.specs.Nets.{NetView, state_with}
use Rattle.overlay_net.specs.Places.{PlaceView, at_home, away, nodes_in, out_at, outs_in, whole_inboxes}
use Rattle.overlay_net.specs.Sends.{IsTaken, changed}
use Rattle.overlay_net.specs.States.{IsClaimed, IsNetOf}
use Rattle.overlay_net.proofs.ClaimCounts.{DifferAt, IsOutOrHome, counts_stay, first_below, losses_stay, nothing_counted}
use Rattle.overlay_net.proofs.Claiming.{claim_below, claim_moved, claim_within, claim_worked, frames_stay, inbox_stays, net_stays, new_count, new_inboxes, nodes_stay, out_then, outs_are, sender_below, state_stays}
use Rattle.overlay_net.proofs.LosingCounts.{losing_same, losing_set}
use Rattle.overlay_net.proofs.Whole.{out_else, out_here}

-- a net of these places and inboxes, with room for some releases
abbrev pub view : Plan → List Bool → List TreeRelease → List PlaceView → List FrameInbox → ℕ → NetView
view p al rs qs bs room = record { plan = p; alive = al; nodes = nodes_in qs; inboxes = whole_inboxes qs bs; releases = rs; failed = false; outs = outs_in qs; room = room }

module _ (p : Plan) (plan : IsPlan p) (al : List Bool) (ps : List PlaceView) (boxes : List FrameInbox) (rs : List TreeRelease) (losing counts : List ℕ)
    (h : IsNetOf [] p al ps boxes rs losing counts) (e : Event) (may : MayBeClaimed p (state_with p al (nodes_in ps) (whole_inboxes ps boxes) rs) (out_at (outs_in ps)) e) where
  below : event_node e < nodes p
  below = claim_below p plan al ps boxes rs h.net h.frames h.inbox_count h.inboxes h.out e may

  within : event_node e < length ps
  within = claim_within p plan al ps boxes rs h.net h.frames h.inbox_count h.inboxes h.out e may

  -- the nodes that are to be counted anew
  pub changed_below : AreNodes p (changed p e [])
  changed_below = go e refl
    where
      sender : (n m : ℕ) → Recv n m ≡ e → m < nodes p
      sender n m is = sender_below p plan al ps boxes rs h.net h.frames h.inbox_count h.inboxes h.out e may n m is

      go : (g : Event) → g ≡ e → AreNodes p (changed p g [])
      go (Sample n s w) is = let lt : n < nodes p = subst (λ k. k < nodes p) (sym (ap event_node is)) below in (lt, tt)
      go (Recv n m) is = (subst (λ k. k < nodes p) (sym (ap event_node is)) below, first_below p (fault p m) m [] (sender n m is) tt)
      go (Tick n) is = let lt : n < nodes p = subst (λ k. k < nodes p) (sym (ap event_node is)) below in (lt, tt)
      go (Lose n) is = all_below (nodes p)

  module _ (f : Option (List ℕ)) (new : List FrameInbox) (took : IsTaken boxes e f new) (x : NodeView) (at : slice_get ps (event_node e) ≡ Some (at_home x)) where
    abbrev gone : List PlaceView
    gone = slice_set ps (event_node e) (away e x f)

    differ : DifferAt e (out_at (outs_in ps)) (out_at (outs_in gone))
    differ = record {
      was = subst (λ o. IsOutOrHome e o) (sym may.home) tt;
      is = subst (λ o. IsOutOrHome e o) (sym (out_here ps (event_node e) (away e x f) within)) refl;
      others = λ k ne. out_else ps (event_node e) k (away e x f) ne;
    }

    losing_is : (g : Event) → g ≡ e → AreLosing p (out_at (outs_in gone)) (with_loss g 1 losing)
    losing_is (Sample n s w) is = losing_same p (out_at (outs_in ps)) (out_at (outs_in gone)) losing (λ k. losses_stay e (out_at (outs_in ps)) (out_at (outs_in gone)) (subst IsOrdinary is tt) differ k k) h.losing
    losing_is (Recv n m) is = losing_same p (out_at (outs_in ps)) (out_at (outs_in gone)) losing (λ k. losses_stay e (out_at (outs_in ps)) (out_at (outs_in gone)) (subst IsOrdinary is tt) differ k k) h.losing
    losing_is (Tick n) is = losing_same p (out_at (outs_in ps)) (out_at (outs_in gone)) losing (λ k. losses_stay e (out_at (outs_in ps)) (out_at (outs_in gone)) (subst IsOrdinary is tt) differ k k) h.losing
    losing_is (Lose n) is =
        let here : n ≡ event_node e = ap event_node is in
        let out : out_at (outs_in gone) n ≡ Some (Lose n) = ap (out_at (outs_in gone)) here ∙ out_here ps (event_node e) (away e x f) within ∙ ap Some (sym is) in
        losing_set p (out_at (outs_in ps)) (out_at (outs_in gone)) losing n 1 (subst (λ k. k < nodes p) (sym here) below) h.losing
        (sym (ap (λ o. cond (is_loss_of o n) 1 0) out ∙ ap (λ t. cond t 1 0) (eq-eqb n n refl)))
        (λ k ne. differ.others k (λ t. ne (t ∙ sym here)))

    stays : (g : Event) → g ≡ e → IsOrdinary g → AreCountedBut (changed p g []) p al (nodes_in gone) (whole_inboxes gone new) (out_at (outs_in gone)) counts
    stays g is ord = subst (λ g'. AreCountedBut (changed p g' []) p al (nodes_in gone) (whole_inboxes gone new) (out_at (outs_in gone)) counts) (sym is)
        (counts_stay p al (nodes_in ps) (nodes_in gone) (whole_inboxes ps boxes) (whole_inboxes gone new) e (out_at (outs_in ps)) (out_at (outs_in gone)) h.net.parts (subst IsOrdinary is ord) differ [] counts
        (λ b ne. ap (λ xs. slice_get xs b) (nodes_stay p plan al ps boxes rs h.net h.frames h.inbox_count h.inboxes h.out e may f new took x at))
        (λ b ne none. inbox_stays p plan al ps boxes rs h.net h.frames h.inbox_count h.inboxes h.out e may f new took x at b ne)
        h.counted)

    counted : (g : Event) → g ≡ e → AreCountedBut (changed p g []) p al (nodes_in gone) (whole_inboxes gone new) (out_at (outs_in gone)) counts
    counted (Sample n s w) is = stays (Sample n s w) is tt
    counted (Recv n m) is = stays (Recv n m) is tt
    counted (Tick n) is = stays (Tick n) is tt
    counted (Lose n) is = nothing_counted p al (nodes_in gone) (whole_inboxes gone new) (out_at (outs_in gone)) counts h.counted.place_count

    -- the claim
    pub claim_is : (room left : ℕ) → IsClaimed e (record { event = e; node = x; frame = f; left = None }) (view p al rs ps boxes room) (view p al rs gone new left)
    claim_is room left = record {
      event = refl;
      fresh = refl;
      fits = record {
        out = out_here ps (event_node e) (away e x f) within;
        moved = subst (λ s. IsMovedOut p s (record { event = e; node = x; frame = f; left = None })) (sym stays_same) (claim_moved p plan al ps boxes rs h.net h.frames h.inbox_count h.inboxes h.out e may f new took x at);
        worked = claim_worked p plan al ps boxes rs h.net h.frames h.inbox_count h.inboxes h.out e may f new took x at;
      };
      plan = refl;
      state = stays_same;
      releases = refl;
      outs = outs_are p plan al ps boxes rs h.net h.frames h.inbox_count h.inboxes h.out e may f new took x at;
    }
      where
        stays_same : ◌≡◌ {A = State} (state_with p al (nodes_in gone) (whole_inboxes gone new) rs) (state_with p al (nodes_in ps) (whole_inboxes ps boxes) rs)
        stays_same = state_stays p plan al ps boxes rs h.net h.frames h.inbox_count h.inboxes h.out e may f new took x at

    -- the net, with the node out
    pub claim_net : IsNetOf (changed p e []) p al gone new rs (with_loss e 1 losing) counts
    claim_net = record {
      net = net_stays p plan al ps boxes rs h.net h.frames h.inbox_count h.inboxes h.out e may f new took x at;
      out = out_then p plan al ps boxes rs h.net h.frames h.inbox_count h.inboxes h.out e may f new took x at;
      frames = frames_stay p plan al ps boxes rs h.net h.frames h.inbox_count h.inboxes h.out e may f new took x at;
      inbox_count = new_count p plan al ps boxes rs h.net h.frames h.inbox_count h.inboxes h.out e may f new took x at;
      inboxes = new_inboxes p plan al ps boxes rs h.net h.frames h.inbox_count h.inboxes h.out e may f new took x at;
      losing = losing_is e refl;
      counted = counted e refl;
    }

-- the same of lists that are equal to these
pub same_net : (rest : List ℕ) (p : Plan) (al am : List Bool) (ps qs : List PlaceView) (ib ic : List FrameInbox) (rs ts : List TreeRelease) (losing lost counts now : List ℕ) → am ≡ al → qs ≡ ps → ic ≡ ib → ts ≡ rs → lost ≡ losing → now ≡ counts
    → IsNetOf rest p al ps ib rs losing counts → IsNetOf rest p am qs ic ts lost now
same_net rest p al am ps qs ib ic rs ts losing lost counts now a b c d e f h = subst (λ al'. IsNetOf rest p al' qs ic ts lost now) (sym a) (subst (λ ps'. IsNetOf rest p al ps' ic ts lost now) (sym b)
    (subst (λ ib'. IsNetOf rest p al ps ib' ts lost now) (sym c) (subst (λ rs'. IsNetOf rest p al ps ib rs' lost now) (sym d) (subst (λ l'. IsNetOf rest p al ps ib rs l' now) (sym e) (subst (λ c'. IsNetOf rest p al ps ib rs losing c') (sym f) h)))))
