-- What an event leaves of the nodes that it doesn't change.
use Rattle.std.proofs.Common.{◌≡◌, ◌∙◌, ◌<◌, ℕ, suc, Bool, true, false, ◌==◌, ◌||◌, ◌&&◌, map, slice_set, List, [], ◌∷◌, length, refl, sym, ap, subst, inl, inr, eqb-true, le_refl}
use Rattle.std.specs.List.{AllByRecursion}
use Rattle.std.proofs.lemmas.Bool.{cases_Bool, eqb-false, true≢false}
use Rattle.overlay_setup.specs.NodeSets.{In, member, up_to}
use Rattle.stat_plan.specs.Plans.{AreNodes, Plan, nodes, fault, front}
use Rattle.stat_plan.proofs.InLists.{all_below, in_member, up_to_in}
use Rattle.stat_plan.proofs.PlanFacts.{HasPlanFacts}
use Rattle.node_inbox.specs.Inboxes.{InboxView, queue_of}
use Rattle.node_inbox.specs.Cuts.{AreCut}
use Rattle.node_inbox.specs.Sends.{AreSent, GoBelow, inbox_at, is_alive, is_receiver}
use Rattle.control_cast.specs.declared.event.CastEvent.TheVariants.{Issue, Recv, Lose}
use Rattle.stat_plan.specs.Machine.Overlays.{keep_of}
use Rattle.control_cast.specs.Machine.{Packet, Outcome, obey, received}
use Rattle.control_cast.specs.CastNodes.{MayReceive, NodeView, obeyed_of}
use Rattle.control_cast.specs.CastNets.{AreParts, HasChanged, HasDone, IsFirst, IsSameAt, node_at, notices_below, state_with}
use Rattle.control_cast.proofs.CastNets.{changed_else, issued_at, notices_go_below, obeyed_below, part_at, received_below, sends_below, parts_after, parts_lost, was_lost, was_received}

-- ---- who sends, and to whom

or_none : (x y : Bool) → (x || y) ≡ false → (x ≡ false) × (y ≡ false)
or_none true y e = absurd (true≢false e)
or_none false y e = (refl, e)

turned : (a b : ℕ) → (a == b) ≡ false → (b == a) ≡ false
turned a b e = elim (cases_Bool (b == a)) [ inl t ↦ absurd (eqb-false a b e (sym (eqb-true b a t))) | inr f ↦ f ]

no_receiver : (sends : List (ℕ × Packet)) (b : ℕ) → member b (map (λ v. v.0) sends) ≡ false → is_receiver sends b ≡ false
no_receiver [] b e = refl
no_receiver (v ∷ vs) b e = let both = or_none (b == v.0) (member b (map (λ v. v.0) vs)) e in (λ i. turned b v.0 both.0 i || no_receiver vs b both.1 i)

receivers_below : (n : ℕ) (sends : List (ℕ × Packet)) → GoBelow n sends → AllByRecursion (λ k. k < n) (map (λ v. v.0) sends)
receivers_below n [] h = tt
receivers_below n (v ∷ vs) h = (h.0, receivers_below n vs h.1)

-- ---- an event of a node

module _ (p : Plan) (alive : List Bool) (xs new : List NodeView) (boxes mid more : List (InboxView Packet)) (n : ℕ) (o : Outcome) (sends : List (ℕ × Packet)) (changed : List ℕ) where
  -- the node had the event, and each node to which nothing was sent is as before
  pub same_else : HasChanged p n xs new o sends → ((b : ℕ) → (b == n) ≡ false → inbox_at mid b ≡ inbox_at boxes b) → AreSent alive n sends mid more → changed ≡ n ∷ map (λ v. v.0) sends
      → (b : ℕ) → b < nodes p → member b changed ≡ false → IsSameAt b (state_with p alive xs boxes) (state_with p alive new more)
  same_else c taken s is b lt other =
      let both = or_none (b == n) (member b (map (λ v. v.0) sends)) (ap (member b) (sym is) ∙ other) in
      let node : node_at p new b ≡ node_at p xs b = changed_else p n b xs new c.node (eqb-false b n both.0) c.all in
      let box : inbox_at more b ≡ inbox_at boxes b = s.others b (ap (λ t. t && is_alive alive b) (no_receiver sends b both.1)) ∙ taken b both.0 in
      record {
        alive = refl;
        count = ap (λ (x : NodeView). x.count) node;
        link = λ m. ap (λ w. queue_of w m) box;
        obeyed = ap obeyed_of node;
      }

-- the changed nodes are nodes of the plan
changed_below : (p : Plan) (n : ℕ) (sends : List (ℕ × Packet)) (changed : List ℕ) → n < nodes p → GoBelow (nodes p) sends → changed ≡ n ∷ map (λ v. v.0) sends → AreNodes p changed
changed_below p n sends changed lt below is = subst (AreNodes p) (sym is) (lt, receivers_below (nodes p) sends below)

pub issue_done : (p : Plan) (alive : List Bool) (xs new : List NodeView) (boxes more : List (InboxView Packet)) (n : ℕ) (sends : List (ℕ × Packet)) (changed : List ℕ) → n ≡ front p → n < nodes p → AreParts p alive xs boxes
    → HasChanged p n xs new (obey (node_at p xs n).kin (obeyed_of (node_at p xs n)) (suc (node_at p xs n).seen)) sends → AreSent alive n sends boxes more → GoBelow (length boxes) sends → changed ≡ n ∷ map (λ v. v.0) sends
    → HasDone p Issue changed (state_with p alive xs boxes) alive new more
issue_done p alive xs new boxes more n sends changed e lt h c s below is = record {
  parts = parts_after p alive xs new boxes more n _ sends h lt c s.inbox_count;
  step = issued_at p alive xs new boxes more sends n e lt h c s;
  below = changed_below p n sends changed lt (subst (λ k. GoBelow k sends) h.inbox_count below) is;
  same = same_else p alive xs new boxes boxes more n _ sends changed c (λ b ne. refl) s is;
}

pub receive_done : (p : Plan) (alive : List Bool) (xs new : List NodeView) (boxes mid more : List (InboxView Packet)) (n m : ℕ) (q : Packet) (sends : List (ℕ × Packet)) (changed : List ℕ) → n < nodes p → AreParts p alive xs boxes → IsFirst m n q boxes mid
    → HasChanged p n xs new (received p n (node_at p xs n).kin (obeyed_of (node_at p xs n)) m q) sends → AreSent alive n sends mid more → GoBelow (length mid) sends → changed ≡ n ∷ map (λ v. v.0) sends
    → HasDone p (Recv n m) changed (state_with p alive xs boxes) alive new more
receive_done p alive xs new boxes mid more n m q sends changed lt h f c s below is = record {
  parts = parts_after p alive xs new boxes more n _ sends h lt c (s.inbox_count ∙ f.inbox_count);
  step = was_received p alive xs new boxes mid more n m q sends lt h f c s;
  below = changed_below p n sends changed lt (subst (λ k. GoBelow k sends) (f.inbox_count ∙ h.inbox_count) below) is;
  same = same_else p alive xs new boxes mid more n _ sends changed c f.others s is;
}

-- ---- a loss, after which all nodes are to be counted

pub loss_done : (p : Plan) (alive dead : List Bool) (xs : List NodeView) (boxes mid more : List (InboxView Packet)) (n : ℕ) (sends : List (ℕ × Packet)) (changed : List ℕ) → HasPlanFacts p → n < nodes p → AreParts p alive xs boxes
    → AreCut n (keep_of (fault p n)) (length boxes) boxes mid → sends ≡ notices_below p n (nodes p) → AreSent alive n sends mid more → dead ≡ slice_set alive n false → changed ≡ up_to (nodes p)
    → HasDone p (Lose n) changed (state_with p alive xs boxes) dead xs more
loss_done p alive dead xs boxes mid more n sends changed plan lt h cut es s ed is = record {
  parts = parts_lost p alive dead xs boxes more n h (s.inbox_count ∙ cut.inbox_count) ed;
  step = was_lost p alive dead xs boxes mid more n sends plan lt h cut es s ed;
  below = subst (AreNodes p) (sym is) (all_below (nodes p));
  same = λ b low other. absurd (true≢false (sym (in_member b (up_to (nodes p)) (up_to_in (nodes p) b low)) ∙ ap (member b) (sym is) ∙ other));
}

-- ---- the same, where the parts go through slices

-- what was sent, by other names for the same
sent_by : (alive alive' : List Bool) (n : ℕ) (sends : List (ℕ × Packet)) (boxes boxes' more : List (InboxView Packet)) → alive' ≡ alive → boxes' ≡ boxes → AreSent alive' n sends boxes' more → AreSent alive n sends boxes more
sent_by alive alive' n sends boxes boxes' more ea eb s = subst (λ a. AreSent a n sends boxes more) ea (subst (λ b. AreSent alive' n sends b more) eb s)

listed_by : (n : ℕ) (sends vs : List (ℕ × Packet)) (changed : List ℕ) → changed ≡ n ∷ map (λ v. v.0) vs → vs ≡ sends → changed ≡ n ∷ map (λ v. v.0) sends
listed_by n sends vs changed is e = is ∙ ap (λ l. n ∷ map (λ v. v.0) l) e

-- what is sent goes to nodes
pub issue_below : (p : Plan) (alive : List Bool) (xs xs' new : List NodeView) (boxes boxes' : List (InboxView Packet)) (n : ℕ) (sends : List (ℕ × Packet)) → xs' ≡ xs → boxes' ≡ boxes → n < nodes p → AreParts p alive xs boxes
    → HasChanged p n xs' new (obey (node_at p xs' n).kin (obeyed_of (node_at p xs' n)) (suc (node_at p xs' n).seen)) sends → GoBelow (length boxes') sends
issue_below p alive xs xs' new boxes boxes' n sends ex eb lt h c =
    let x = node_at p xs n in
    sends_below p alive xs new boxes n (obey x.kin (obeyed_of x) (suc x.seen)) sends (length boxes') h
    (subst (λ l. HasChanged p n l new (obey (node_at p l n).kin (obeyed_of (node_at p l n)) (suc (node_at p l n).seen)) sends) ex c)
    (obeyed_below p x (obeyed_of x) (suc x.seen) (part_at p alive xs boxes n h lt).1) (ap length eb)

pub receive_below : (p : Plan) (alive : List Bool) (xs xs' new : List NodeView) (boxes boxes' mid mid' : List (InboxView Packet)) (n m : ℕ) (q : Packet) (sends : List (ℕ × Packet)) → xs' ≡ xs → boxes' ≡ boxes → mid' ≡ mid → HasPlanFacts p → n < nodes p → AreParts p alive xs boxes
    → ((q : Packet) → In q (queue_of (inbox_at boxes n) m) → MayReceive p n m q) → IsFirst m n q boxes' mid
    → HasChanged p n xs' new (received p n (node_at p xs' n).kin (obeyed_of (node_at p xs' n)) m q) sends → GoBelow (length mid') sends
receive_below p alive xs xs' new boxes boxes' mid mid' n m q sends ex eb em plan lt h may f c =
    let x = node_at p xs n in
    let fits = part_at p alive xs boxes n h lt in
    let first : IsFirst m n q boxes mid = subst (λ l. IsFirst m n q l mid) eb f in
    sends_below p alive xs new boxes n (received p n x.kin (obeyed_of x) m q) sends (length mid') h
    (subst (λ l. HasChanged p n l new (received p n (node_at p l n).kin (obeyed_of (node_at p l n)) m q) sends) ex c)
    (received_below p n x (obeyed_of x) m q plan fits.0 fits.1 (may q (subst (λ l. In q l) (sym first.first) (inl refl)))) (ap length em ∙ first.inbox_count)

pub loss_below : (p : Plan) (alive : List Bool) (xs : List NodeView) (boxes boxes' mid mid' : List (InboxView Packet)) (n : ℕ) (sends : List (ℕ × Packet)) → boxes' ≡ boxes → mid' ≡ mid → AreParts p alive xs boxes
    → AreCut n (keep_of (fault p n)) (length boxes') boxes' mid → sends ≡ notices_below p n (nodes p) → GoBelow (length mid') sends
loss_below p alive xs boxes boxes' mid mid' n sends eb em h cut es =
    subst (λ k. GoBelow k sends) (sym (ap length em ∙ cut.inbox_count ∙ ap length eb ∙ h.inbox_count)) (subst (GoBelow (nodes p)) (sym es) (notices_go_below p n (nodes p) (nodes p) (le_refl _)))

pub issue_left : (p : Plan) (alive alive' : List Bool) (xs xs' new ys : List NodeView) (boxes boxes' more others : List (InboxView Packet)) (n : ℕ) (sends vs : List (ℕ × Packet)) (changed : List ℕ)
    → alive' ≡ alive → xs' ≡ xs → ys ≡ new → boxes' ≡ boxes → others ≡ more → vs ≡ sends → n ≡ front p → n < nodes p → AreParts p alive xs boxes
    → HasChanged p n xs' new (obey (node_at p xs' n).kin (obeyed_of (node_at p xs' n)) (suc (node_at p xs' n).seen)) sends → AreSent alive' n sends boxes' more → GoBelow (length boxes') sends → changed ≡ n ∷ map (λ v. v.0) vs
    → HasDone p Issue changed (state_with p alive xs boxes) alive ys others
issue_left p alive alive' xs xs' new ys boxes boxes' more others n sends vs changed ea ex ey eb eo es e lt h c s below is =
    subst (λ l. HasDone p Issue changed (state_with p alive xs boxes) alive l others) (sym ey)
    (subst (λ l. HasDone p Issue changed (state_with p alive xs boxes) alive new l) (sym eo)
    (issue_done p alive xs new boxes more n sends changed e lt h
    (subst (λ l. HasChanged p n l new (obey (node_at p l n).kin (obeyed_of (node_at p l n)) (suc (node_at p l n).seen)) sends) ex c)
    (sent_by alive alive' n sends boxes boxes' more ea eb s) (subst (λ l. GoBelow (length l) sends) eb below) (listed_by n sends vs changed is es)))

pub receive_left : (p : Plan) (alive alive' : List Bool) (xs xs' new ys : List NodeView) (boxes boxes' mid mid' more others : List (InboxView Packet)) (n m : ℕ) (q : Packet) (sends vs : List (ℕ × Packet)) (changed : List ℕ)
    → alive' ≡ alive → xs' ≡ xs → ys ≡ new → boxes' ≡ boxes → mid' ≡ mid → others ≡ more → vs ≡ sends → n < nodes p → AreParts p alive xs boxes → IsFirst m n q boxes' mid
    → HasChanged p n xs' new (received p n (node_at p xs' n).kin (obeyed_of (node_at p xs' n)) m q) sends → AreSent alive' n sends mid' more → GoBelow (length mid') sends → changed ≡ n ∷ map (λ v. v.0) vs
    → HasDone p (Recv n m) changed (state_with p alive xs boxes) alive ys others
receive_left p alive alive' xs xs' new ys boxes boxes' mid mid' more others n m q sends vs changed ea ex ey eb em eo es lt h f c s below is =
    subst (λ l. HasDone p (Recv n m) changed (state_with p alive xs boxes) alive l others) (sym ey)
    (subst (λ l. HasDone p (Recv n m) changed (state_with p alive xs boxes) alive new l) (sym eo)
    (receive_done p alive xs new boxes mid more n m q sends changed lt h (subst (λ l. IsFirst m n q l mid) eb f)
    (subst (λ l. HasChanged p n l new (received p n (node_at p l n).kin (obeyed_of (node_at p l n)) m q) sends) ex c)
    (sent_by alive alive' n sends mid mid' more ea em s) (subst (λ l. GoBelow (length l) sends) em below) (listed_by n sends vs changed is es)))

pub loss_left : (p : Plan) (alive alive' dead : List Bool) (xs : List NodeView) (boxes boxes' mid mid' more others : List (InboxView Packet)) (n : ℕ) (sends : List (ℕ × Packet)) (changed : List ℕ)
    → alive' ≡ alive → boxes' ≡ boxes → mid' ≡ mid → others ≡ more → HasPlanFacts p → n < nodes p → AreParts p alive xs boxes
    → AreCut n (keep_of (fault p n)) (length boxes') boxes' mid → sends ≡ notices_below p n (nodes p) → AreSent alive' n sends mid' more → dead ≡ slice_set alive n false → changed ≡ up_to (nodes p)
    → HasDone p (Lose n) changed (state_with p alive xs boxes) dead xs others
loss_left p alive alive' dead xs boxes boxes' mid mid' more others n sends changed ea eb em eo plan lt h cut es s ed is =
    subst (λ l. HasDone p (Lose n) changed (state_with p alive xs boxes) dead xs l) (sym eo)
    (loss_done p alive dead xs boxes mid more n sends changed plan lt h (subst (λ l. AreCut n (keep_of (fault p n)) (length l) l mid) eb cut) es (sent_by alive alive' n sends mid mid' more ea em s) ed is)
