-- An event that is no loss is committed: its node comes home, and what it sends goes where it goes.
use Rattle.std.proofs.Common.{◌≡◌, ◌∙◌, ◌<◌, ℕ, Bool, true, false, ◌==◌, ◌&&◌, cond, List, ◌∷◌, ◌++◌, map, length, slice_get, slice_set, Option, Some, None, refl, sym, ap, subst, inl, inr, eqb-true, eq-eqb, append_assoc}
use Rattle.std.proofs.lemmas.Bool.{cases_Bool, eqb-false}
use Rattle.std.proofs.lemmas.List.{length-set}
use Rattle.stat_plan.specs.Invariants.{IsPlan}
use Rattle.stat_plan.specs.Plans.{Plan, nodes, AreNodes}
use Rattle.overlay_event.specs.declared.event.Event.{Event}
use Rattle.overlay_event.specs.declared.event.Event.TheVariants.{Sample, Recv, Tick, Lose}
use Rattle.overlay_event.specs.Events.{event_node}
use Rattle.overlay_core.specs.Machine.{State, is_enabled}
use Rattle.overlay_core.specs.TreeReleases.{TreeRelease}
use Rattle.node_inbox.specs.Inboxes.{IsInbox, queue_of}
use Rattle.node_inbox.specs.Sends.{AreSent, GoBelow, inbox_at, is_alive, packets_to}
use Rattle.overlay_net.specs.Inboxes.{FrameInbox}
use Rattle.overlay_net.specs.Claims.{ClaimView, IsMovedOut, Leaves, Left, MayBeHandled, MayBeWorked}
use Rattle.overlay_net.specs.Events.{IsNet, IsOrdinary}
use Rattle.overlay_net.specs.Handled.{ExtendsBy, HasHandled}
use Rattle.overlay_net.specs.Nets.{net_view_of, state_with}
use Rattle.overlay_net.specs.Places.{HaveFrames, PlaceView, at_home, away, nodes_in, out_at, outs_in, whole_inbox, whole_inboxes, with_frame}
use Rattle.overlay_net.specs.Sends.{IsTaken}
use Rattle.overlay_net.proofs.Fronts.{in_hand, put_queue, whole_is_inbox, whole_queue}
use Rattle.overlay_net.proofs.Handed.{IsHandedOver}
use Rattle.overlay_net.proofs.Refits.{nodes_set, set_twice, whole_set}
use Rattle.overlay_net.proofs.Refitted.{as_many, below, box_below, net_refits, node_is, state_refits}
use Rattle.overlay_net.proofs.Whole.{frame_at, length_whole, whole_else, whole_here, whole_view}
use Rattle.overlay_net.proofs.WholeEvents.{all_go_below, extends_by, is_net, receivers_are_nodes}

-- what is sent to inboxes is sent to the whole ones
pub whole_sent : (al : List Bool) (n : ℕ) (sends : List (ℕ × List ℕ)) (ps : List PlaceView) (old new : List FrameInbox) → length ps ≡ length old → ((b : ℕ) → IsInbox (inbox_at old b))
    → AreSent al n sends old new → AreSent al n sends (whole_inboxes ps old) (whole_inboxes ps new)
whole_sent al n sends ps old new len are sent = record {
  queues = λ a b. was a b ∙ go ((a == n) && is_alive al b) (in_hand (out_at (outs_in ps) b) (frame_at ps b) a) (queue_of (inbox_at old b) a) (packets_to b sends) (sent.queues a b)
      ∙ sym (ap (λ l. cond ((a == n) && is_alive al b) (l ++ packets_to b sends) l) (before a b));
  others = λ b e. whole_view ps new b (len ∙ sym sent.inbox_count) ∙ ap (with_frame (out_at (outs_in ps) b) (frame_at ps b)) (sent.others b e) ∙ sym (whole_view ps old b len);
  inbox_count = length_whole ps new (len ∙ sym sent.inbox_count) ∙ sent.inbox_count ∙ sym (length_whole ps old len);
  inboxes = λ h b. subst IsInbox (sym (whole_view ps new b (len ∙ sym sent.inbox_count))) (whole_is_inbox (out_at (outs_in ps) b) (frame_at ps b) (inbox_at new b) (sent.inboxes are b));
}
  where
    was : (a b : ℕ) → queue_of (inbox_at (whole_inboxes ps new) b) a ≡ in_hand (out_at (outs_in ps) b) (frame_at ps b) a ++ queue_of (inbox_at new b) a
    was a b = ap (λ w. queue_of w a) (whole_view ps new b (len ∙ sym sent.inbox_count)) ∙ whole_queue (out_at (outs_in ps) b) (frame_at ps b) (inbox_at new b) a (sent.inboxes are b)

    before : (a b : ℕ) → queue_of (inbox_at (whole_inboxes ps old) b) a ≡ in_hand (out_at (outs_in ps) b) (frame_at ps b) a ++ queue_of (inbox_at old b) a
    before a b = ap (λ w. queue_of w a) (whole_view ps old b len) ∙ whole_queue (out_at (outs_in ps) b) (frame_at ps b) (inbox_at old b) a (are b)

    go : (t : Bool) (hand queue more : List (List ℕ)) {now : List (List ℕ)} → now ≡ cond t (queue ++ more) queue → hand ++ now ≡ cond t ((hand ++ queue) ++ more) (hand ++ queue)
    go true hand queue more is = ap (λ l. hand ++ l) is ∙ sym (append_assoc hand queue more)
    go false hand queue more is = ap (λ l. hand ++ l) is

module _ (p : Plan) (plan : IsPlan p) (al : List Bool) (ps : List PlaceView) (boxes : List FrameInbox) (rs : List TreeRelease)
    (net : IsNet (net_view_of p al (nodes_in ps) (whole_inboxes ps boxes) rs false))
    (frames : HaveFrames ps) (count : length boxes ≡ nodes p) (inboxes : (n : ℕ) → IsInbox (inbox_at boxes n))
    (c : ClaimView) (old : PlaceView) (at : slice_get ps (event_node c.event) ≡ Some old) (out : old.out ≡ Some c.event)
    (moved : IsMovedOut p (state_with p al (nodes_in ps) (whole_inboxes ps boxes) rs) c) (worked : MayBeWorked p c) where
  abbrev n : ℕ
  n = event_node c.event

  -- the places, with the claim's node and frame
  abbrev gone : List PlaceView
  gone = slice_set ps (event_node c.event) (away c.event c.node c.frame)

  module _ (left : Left) where
    -- the places, with the node at home
    abbrev pub come : List PlaceView
    come = slice_set ps (event_node c.event) (at_home left.node)

    lt : n < length ps
    lt = below p al ps boxes rs net frames count inboxes c old at out moved worked

    lb : n < length boxes
    lb = box_below p al ps boxes rs net frames count inboxes c old at out moved worked

    many : length ps ≡ length boxes
    many = as_many p al ps boxes rs net frames count inboxes

    -- the inbox of a node that isn't the claim's is the same
    others_same : (b : ℕ) → (b == n) ≡ false → inbox_at (whole_inboxes come boxes) b ≡ inbox_at (whole_inboxes gone boxes) b
    others_same b f = whole_else ps boxes n b (at_home left.node) (eqb-false b n f) ∙ sym (whole_else ps boxes n b (away c.event c.node c.frame) (eqb-false b n f))

    home_is : inbox_at (whole_inboxes come boxes) n ≡ inbox_at boxes n
    home_is = whole_here ps boxes n (at_home left.node) lt lb

    gone_is : inbox_at (whole_inboxes gone boxes) n ≡ with_frame (Some c.event) c.frame (inbox_at boxes n)
    gone_is = whole_here ps boxes n (away c.event c.node c.frame) lt lb

    counts_same : length (whole_inboxes come boxes) ≡ length (whole_inboxes gone boxes)
    counts_same = length_whole come boxes (length-set ps n (at_home left.node) ∙ many) ∙ sym (length_whole gone boxes (length-set ps n (away c.event c.node c.frame) ∙ many))

    -- the claim's frame is taken
    taken_by : (e : Event) (f : Option (List ℕ)) → e ≡ c.event → f ≡ c.frame → IsOrdinary e → MayBeHandled p c.node e f → IsTaken (whole_inboxes gone boxes) e f (whole_inboxes come boxes)
    taken_by (Sample k s w) None is same ord may = (refl, whole_set ps boxes n (at_home left.node) (away c.event c.node c.frame) (λ box. (λ i. whole_inbox (away (is i) c.node (same i)) box)))
    taken_by (Sample k s w) (Some g) is same ord may = absurd may
    taken_by (Recv k m) None is same ord may = absurd may
    taken_by (Recv k m) (Some g) is same ord may = record {
      first = subst (λ j. queue_of (inbox_at (whole_inboxes gone boxes) j) m ≡ g ∷ queue_of (inbox_at (whole_inboxes come boxes) j) m) (sym here) first;
      rest = λ a f. subst (λ j. queue_of (inbox_at (whole_inboxes come boxes) j) a ≡ queue_of (inbox_at (whole_inboxes gone boxes) j) a) (sym here) (rest a f);
      others = λ b f. others_same b (ap (λ j. b == j) (sym here) ∙ f);
      inbox_count = counts_same;
      inboxes = λ h b. elim (cases_Bool (b == n)) [
        | inl t ↦ subst (λ j. IsInbox (inbox_at (whole_inboxes come boxes) j)) (sym (eqb-true b n t)) (subst IsInbox (sym home_is) (inboxes n))
        | inr f ↦ subst IsInbox (sym (others_same b f)) (h b)
      ];
    }
      where
        here : k ≡ n
        here = ap event_node is

        gone_queue : (a : ℕ) → queue_of (inbox_at (whole_inboxes gone boxes) n) a ≡ cond (m == a) (g ∷ queue_of (inbox_at boxes n) a) (queue_of (inbox_at boxes n) a)
        gone_queue a = ap (λ w. queue_of w a) (gone_is ∙ (λ i. with_frame (Some (sym is i)) (sym same i) (inbox_at boxes n))) ∙ put_queue m g (inbox_at boxes n) a (inboxes n).increasing

        first : queue_of (inbox_at (whole_inboxes gone boxes) n) m ≡ g ∷ queue_of (inbox_at (whole_inboxes come boxes) n) m
        first = gone_queue m ∙ ap (λ t. cond t (g ∷ queue_of (inbox_at boxes n) m) (queue_of (inbox_at boxes n) m)) (eq-eqb m m refl) ∙ ap (λ w. g ∷ queue_of w m) (sym home_is)

        rest : (a : ℕ) → (a == m) ≡ false → queue_of (inbox_at (whole_inboxes come boxes) n) a ≡ queue_of (inbox_at (whole_inboxes gone boxes) n) a
        rest a f = ap (λ w. queue_of w a) home_is ∙ sym (gone_queue a ∙ ap (λ t. cond t (g ∷ queue_of (inbox_at boxes n) a) (queue_of (inbox_at boxes n) a)) (turned (m == a) refl))
          where
            turned : (t : Bool) → (m == a) ≡ t → t ≡ false
            turned true t = absurd (eqb-false a m f (sym (eqb-true m a t)))
            turned false t = refl
    taken_by (Tick k) None is same ord may = (refl, whole_set ps boxes n (at_home left.node) (away c.event c.node c.frame) (λ box. (λ i. whole_inbox (away (is i) c.node (same i)) box)))
    taken_by (Tick k) (Some g) is same ord may = absurd may
    taken_by (Lose k) f is same ord may = absurd ord

    handled_by : (e : Event) → IsOrdinary e → Leaves p c.node e c.frame left → HasHandled p c.node left.node e c.frame left.sends left.releases
    handled_by (Sample k s w) ord leaves = leaves
    handled_by (Recv k m) ord leaves = leaves
    handled_by (Tick k) ord leaves = leaves
    handled_by (Lose k) ord leaves = absurd ord

    module _ (ord : IsOrdinary c.event) (leaves : Leaves p c.node c.event c.frame left) where
      over : IsHandedOver p c.event (nodes_in gone) (nodes_in come) (whole_inboxes gone boxes) (whole_inboxes come boxes) left.sends left.releases
      over = record {
        packet = c.frame;
        before = c.node;
        after = left.node;
        taken = taken_by c.event c.frame refl refl ord worked.handle;
        node_before = node_is p al ps boxes rs net frames count inboxes c old at out moved worked;
        handled = handled_by c.event ord leaves;
        nodes_after = nodes_set ps n (at_home left.node)
            ∙ sym (ap (λ xs. slice_set xs n left.node) (nodes_set ps n (away c.event c.node c.frame)) ∙ set_twice (nodes_in ps) n c.node left.node);
      }

      whole : IsNet (net_view_of p al (nodes_in gone) (whole_inboxes gone boxes) rs false)
      whole = net_refits p al ps boxes rs net frames count inboxes c old at out moved worked

      enabled : is_enabled p (state_with p al (nodes_in gone) (whole_inboxes gone boxes) rs) c.event ≡ true
      enabled = ap (λ (s : State). is_enabled p s c.event) (state_refits p al ps boxes rs net frames count inboxes c old at out moved worked) ∙ moved.enabled

      pub who_is_told : AreNodes p (map (λ v. v.0) left.sends)
      who_is_told = receivers_are_nodes p plan al (nodes_in gone) (whole_inboxes gone boxes) rs whole c.event enabled ord (nodes_in come) (whole_inboxes come boxes) left.sends left.releases over

      pub they_are_below : GoBelow (nodes p) left.sends
      they_are_below = all_go_below p plan al (nodes_in gone) (whole_inboxes gone boxes) rs whole c.event enabled ord (nodes_in come) (whole_inboxes come boxes) left.sends left.releases over

      module _ (new : List FrameInbox) (sent : AreSent al n left.sends boxes new) where
        all_sent : AreSent al n left.sends (whole_inboxes come boxes) (whole_inboxes come new)
        all_sent = whole_sent al n left.sends come boxes new (length-set ps n (at_home left.node) ∙ many) inboxes sent

        -- the journal with the event leads to the net with the node at home
        pub extends : ExtendsBy c.event (net_view_of p al (nodes_in gone) (whole_inboxes gone boxes) rs false) (net_view_of p al (nodes_in come) (whole_inboxes come new) (rs ++ left.releases) false)
        extends = extends_by p plan al (nodes_in gone) (whole_inboxes gone boxes) rs whole c.event enabled ord (nodes_in come) (whole_inboxes come boxes) left.sends left.releases over (whole_inboxes come new) all_sent

        pub net_then : IsNet (net_view_of p al (nodes_in come) (whole_inboxes come new) (rs ++ left.releases) false)
        net_then = is_net p plan al (nodes_in gone) (whole_inboxes gone boxes) rs whole c.event enabled ord (nodes_in come) (whole_inboxes come boxes) left.sends left.releases over (whole_inboxes come new) all_sent
