-- A sound state is sound after each enabled event, and so after each legal journal.
use Rattle.std.proofs.Common.{◌≡◌, ◌≤◌, inl, ℕ, suc, true, false, not, ◌==◌, List, [], ◌∷◌, refl, sym, ap, subst, ◌∙◌, arith, Some, None, zero-le}
use Rattle.std.proofs.lemmas.Bool.{cond_both, cond-true, cond-false, and_parts, eqb-false, not-true, true≢false}
use Rattle.overlay_setup.specs.NodeSets.{In}
use Rattle.overlay_setup.specs.declared.script.Fault.{Fault}
use Rattle.stat_plan.specs.Plans.{Plan, daemons, fault, front}
use Rattle.stat_plan.specs.Machine.Kin.{is_parent, with_parent, without_child, after_loss}
use Rattle.stat_plan.specs.Machine.LossInvariant.{IsPacketRule, LossInvariant}
use Rattle.stat_plan.specs.Machine.Overlays.{is_spent, with_event}
use Rattle.stat_plan.specs.Machine.Overlays as overlay
use Rattle.stat_plan.proofs.InLists.{in_from_member}
use Rattle.stat_plan.proofs.Journals.{run_keeps}
use Rattle.stat_plan.proofs.LossInvariant.{start_keeps, popped_keeps, heard_keeps, event_keeps, loss_keeps}
use Rattle.stat_plan.proofs.PlanFacts.{HasPlanFacts}
use Rattle.overlay_event.specs.declared.event.Event.{Event}
use Rattle.overlay_event.specs.declared.event.Event.TheVariants.{Sample, Recv, Tick, Lose}
use Rattle.overlay_core.specs.Nodes.{Packet, Up, Done, Attach, Down, Node, Outcome, received, received_up, received_done, received_attach, received_down, sampled, after_tick}
use Rattle.overlay_core.specs.Machine.{State, start, step, commit, with_link, lose, receive, net_of, is_enabled, is_active, is_doomed}
use Rattle.overlay_core.specs.Runs.{after, IsLegal}
use Rattle.overlay_core.specs.LinkInvariant.{Fits, BookIsSound, CountIsSound, LinkInvariant}
use Rattle.overlay_core.proofs.RankSets.{no_rank}
use Rattle.overlay_core.proofs.Acts.{PacketIsSound}
use Rattle.overlay_core.proofs.Outcomes.{OutcomeIsSound, next_is_named, sampled_sound, tick_sound, received_sound, next_is_empty}
use Rattle.overlay_core.proofs.Commits.{commit_node, net_of_event}

pub active_parts : (p : Plan) (st : State) (n : ℕ) → is_active p st n ≡ true → (st.alive n ≡ true) × (is_doomed p st n ≡ false)
unfolding is_active
active_parts p st n e = let t = and_parts (st.alive n) (not (is_doomed p st n)) e in (t.0, not-true (is_doomed p st n) t.1)

rule : (p : Plan) → IsPacketRule p Down (Fits p)
rule p = record { related = λ m n h. h; may_notify = λ m n h. h }

-- a packet on a link of a sound state
pub packet_sound : (p : Plan) (st : State) (m n : ℕ) (q : Packet) → LinkInvariant p st → In q (st.link m n) → PacketIsSound p st.alive m n q
packet_sound p st m n q h i = ((h.net.links m n).packets q i, λ e. (h.net.links m n).sender (subst (λ x. In x (st.link m n)) e i))

-- the first of them
pub first_sound : (p : Plan) (st : State) (m n : ℕ) (q : Packet) (qs : List Packet) → LinkInvariant p st → st.link m n ≡ q ∷ qs → PacketIsSound p st.alive m n q
first_sound p st m n q qs h e = packet_sound p st m n q h (subst (λ l. In q l) (sym e) (inl refl))

-- ---- an event of a node

count_continues : (p : Plan) (st : State) (n : ℕ) (f : Fault) → fault p n ≡ Some f → is_doomed p st n ≡ false → (st.node n).count ≤ f.after → suc (st.node n).count ≤ f.after
unfolding is_doomed
count_continues p st n f ef d le =
    let t : ((st.node n).count == f.after) ≡ false = subst (λ o. is_spent o (st.node n).count ≡ false) ef d in
    let ne : (st.node n).count ≡ f.after → ⊥ = eqb-false _ _ t in
    omega arith

-- the parts that know of waves
committed : (p : Plan) (st : State) (n : ℕ) (o : Outcome) → is_doomed p st n ≡ false → ((a : ℕ) → BookIsSound p a (st.node a).book) → ((a : ℕ) → CountIsSound p a (st.node a)) → BookIsSound p n o.work.book → LossInvariant p Down (Fits p) (net_of (commit st n o)) → LinkInvariant p (commit st n o)
committed p st n o active books counts book net = record {
  net = net;
  books = commit_node (λ a x. BookIsSound p a x.book) st n o book books;
  counts = commit_node (λ a x. CountIsSound p a x) st n o (λ f ef. count_continues p st n f ef active (counts n f ef)) counts;
}

-- n hears of no loss
event_net : (p : Plan) (st : State) (n : ℕ) (o : Outcome) → LossInvariant p Down (Fits p) (net_of st) → st.alive n ≡ true → OutcomeIsSound p st.alive n o → o.kin.lost ≡ (st.node n).kin.lost → LossInvariant p Down (Fits p) (net_of (commit st n o))
event_net p st n o h up sound same = subst (LossInvariant p Down (Fits p)) (sym (net_of_event st n o)) (event_keeps p Down (Fits p) (net_of st) n o.kin o.work.sends h up sound.kin same sound.work.sends)

event_sound : (p : Plan) (st : State) (n : ℕ) (o : Outcome) → LinkInvariant p st → is_active p st n ≡ true → OutcomeIsSound p st.alive n o → o.kin.lost ≡ (st.node n).kin.lost → LinkInvariant p (commit st n o)
event_sound p st n o h act sound same = let t = active_parts p st n act in committed p st n o t.1 h.books h.counts sound.work.book (event_net p st n o h.net t.0 sound same)

-- ---- a packet is received

down_kin : (p : Plan) (n : ℕ) (x : Node) (m : ℕ) → (received_down p n x m).kin ≡ after_loss p n x.kin m
unfolding received_down
down_kin p n x m = cond_both {A = Outcome} (is_parent x.kin.parent m) _ _ (λ o. o.kin ≡ after_loss p n x.kin m)
    (λ e. sym (cond-true (is_parent x.kin.parent m) (with_parent p n x.kin m) (without_child x.kin m) e))
    (λ e. sym (cond-false (is_parent x.kin.parent m) (with_parent p n x.kin m) (without_child x.kin m) e))

kin_lost : (p : Plan) (n : ℕ) (x : Node) (m : ℕ) (q : Packet) → (q ≡ Down → ⊥) → (received p n x m q).kin.lost ≡ x.kin.lost
unfolding received_up received_done received_attach
kin_lost p n x m (Up s w set) other = refl
kin_lost p n x m (Done s w) other = refl
kin_lost p n x m Attach other = refl
kin_lost p n x m Down other = absurd (other refl)

down_net : (p : Plan) (st : State) (m n : ℕ) (qs : List Packet) → LossInvariant p Down (Fits p) (net_of st) → st.alive n ≡ true → st.link m n ≡ Down ∷ qs → OutcomeIsSound p st.alive n (received p n (st.node n) m Down) → LossInvariant p Down (Fits p) (net_of (commit (with_link st m n qs) n (received p n (st.node n) m Down)))
unfolding with_link
down_net p st m n qs h up e sound =
    subst (LossInvariant p Down (Fits p)) (sym (net_of_event (with_link st m n qs) n (received p n (st.node n) m Down)))
    (subst (λ k. LossInvariant p Down (Fits p) (with_event (overlay.with_link (net_of st) m n qs) n k (received p n (st.node n) m Down).work.sends)) (sym (down_kin p n (st.node n) m))
    (heard_keeps p Down (Fits p) (net_of st) m n qs (received p n (st.node n) m Down).work.sends (rule p) h up e sound.work.sends))

other_net : (p : Plan) (st : State) (m n : ℕ) (q : Packet) (qs : List Packet) → LossInvariant p Down (Fits p) (net_of st) → st.alive n ≡ true → st.link m n ≡ q ∷ qs → (q ≡ Down → ⊥) → OutcomeIsSound p st.alive n (received p n (st.node n) m q) → LossInvariant p Down (Fits p) (net_of (commit (with_link st m n qs) n (received p n (st.node n) m q)))
unfolding with_link
other_net p st m n q qs h up e other sound = event_net p (with_link st m n qs) n (received p n (st.node n) m q) (popped_keeps p Down (Fits p) (net_of st) m n q qs h e other) up sound (kin_lost p n (st.node n) m q other)

received_net : (p : Plan) (st : State) (m n : ℕ) (q : Packet) (qs : List Packet) → LossInvariant p Down (Fits p) (net_of st) → st.alive n ≡ true → st.link m n ≡ q ∷ qs → OutcomeIsSound p st.alive n (received p n (st.node n) m q) → LossInvariant p Down (Fits p) (net_of (commit (with_link st m n qs) n (received p n (st.node n) m q)))
received_net p st m n (Up s w set) qs h up e sound = other_net p st m n (Up s w set) qs h up e (λ d. (cc)) sound
received_net p st m n (Done s w) qs h up e sound = other_net p st m n (Done s w) qs h up e (λ d. (cc)) sound
received_net p st m n Attach qs h up e sound = other_net p st m n Attach qs h up e (λ d. (cc)) sound
received_net p st m n Down qs h up e sound = down_net p st m n qs h up e sound

receive_sound : (p : Plan) (st : State) (n m : ℕ) (qs : List Packet) → HasPlanFacts p → LinkInvariant p st → is_active p st n ≡ true → st.link m n ≡ qs → LinkInvariant p (receive p st n m qs)
unfolding with_link is_doomed
receive_sound p st n m [] plan h act e = h
receive_sound p st n m (q ∷ qs) plan h act e =
    let t = active_parts p st n act in
    let sound = received_sound p st.alive n (st.node n) m q plan (h.net.kin n) (h.books n) (first_sound p st m n q qs h e) in
    committed p (with_link st m n qs) n (received p n (st.node n) m q) t.1 h.books h.counts sound.work.book (received_net p st m n q qs h.net t.0 e sound)

-- ---- n is lost

front_lost : (p : Plan) (st : State) (n : ℕ) → HasPlanFacts p → is_doomed p st n ≡ true → n ≡ front p → ⊥
unfolding is_doomed
front_lost p st n plan d e =
    let z : is_spent None (st.node n).count ≡ true = subst (λ o. is_spent o (st.node n).count ≡ true) (ap (fault p) e ∙ plan.front_stays) d in
    true≢false (sym z)

lose_sound : (p : Plan) (st : State) (n : ℕ) → HasPlanFacts p → LinkInvariant p st → st.alive n ≡ true → is_doomed p st n ≡ true → LinkInvariant p (lose p st n)
unfolding lose
lose_sound p st n plan h up doom = record {
  net = loss_keeps p Down (Fits p) (net_of st) n (rule p) h.net up (front_lost p st n plan doom);
  books = h.books;
  counts = h.counts;
}

-- ---- each event, and each journal

pub step_sound : (p : Plan) (st : State) (e : Event) → HasPlanFacts p → LinkInvariant p st → is_enabled p st e ≡ true → LinkInvariant p (step p st e)
unfolding sampled after_tick
step_sound p st (Sample n s w) plan h e =
    let t = and_parts _ _ e in
    let u = and_parts _ _ t.0 in
    event_sound p st n (sampled p n (st.node n) s w) h u.0
    (sampled_sound p st.alive n (st.node n) s w plan (h.net.kin n) (h.books n) (in_from_member n (daemons p s) u.1) (next_is_named p (st.node n) s w t.1) (next_is_empty p (st.node n) s w t.1)) refl
step_sound p st (Recv n m) plan h e = receive_sound p st n m (st.link m n) plan h (and_parts _ _ e).0 refl
step_sound p st (Tick n) plan h e = event_sound p st n (after_tick p n (st.node n)) h (and_parts _ _ e).0 (tick_sound p st.alive n (st.node n) (h.net.kin n) (h.books n)) refl
step_sound p st (Lose n) plan h e = lose_sound p st n plan h (and_parts _ _ e).0 (and_parts _ _ e).1

pub start_sound : (p : Plan) → HasPlanFacts p → LinkInvariant p (start p)
unfolding start
start_sound p plan = record {
  net = start_keeps p Down (Fits p) plan;
  books = λ n s w. record { within = λ x i. i; whole = λ r i. absurd (no_rank r i) };
  counts = λ n f e. zero-le;
}

pub legal_sound : (p : Plan) (journal : List Event) → HasPlanFacts p → IsLegal p journal → LinkInvariant p (after p journal)
legal_sound p journal plan l = run_keeps (LinkInvariant p) (step p) (is_enabled p) (λ st e h en. step_sound p st e plan h en) (start p) journal (start_sound p plan) l
