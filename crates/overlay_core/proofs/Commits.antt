-- A commit changes one node, and the links as an event of that node does.
use Rattle.std.proofs.Common.{◌≡◌, ◌⊎◌, ℕ, suc, true, cond, ◌==◌, refl, sym, subst, eqb-true}
use Rattle.std.proofs.lemmas.Bool.{cond_both, cond-true}
use Rattle.overlay_setup.specs.NodeSets.{In}
use Rattle.stat_plan.specs.Machine.Waves.{put_at}
use Rattle.stat_plan.specs.Machine.Overlays.{with_event}
use Rattle.stat_plan.proofs.Overlays.{sent_grows, sent_in, sent_there}
use Rattle.overlay_core.specs.Nodes.{Packet, Node, Outcome}
use Rattle.overlay_core.specs.Machine.{State, commit, net_of}

-- the node that an outcome makes of the one before
abbrev pub next_node : Node → Outcome → Node
next_node x o = record { kin = o.kin; book = o.work.book; count = suc x.count }

pub commit_node : (P : ℕ → Node → Type 0) (st : State) (n : ℕ) (o : Outcome) → P n (next_node (st.node n) o) → ((a : ℕ) → P a (st.node a)) → (a : ℕ) → P a ((commit st n o).node a)
unfolding commit
commit_node P st n o here each a =
    cond_both (a == n) (next_node (st.node n) o) (st.node a) (P a)
    (λ e. let ea : a ≡ n = eqb-true a n e in subst (λ b. P b (next_node (st.node n) o)) (sym ea) here)
    (λ e. each a)

-- where a packet on a link comes from
pub commit_link : (st : State) (n : ℕ) (o : Outcome) (a b : ℕ) (q : Packet) → In q ((commit st n o).link a b) → In q (st.link a b) ⊎ ((a ≡ n) × (st.alive b ≡ true) × (In (b, q) o.work.sends))
unfolding commit
commit_link st n o a b q i = sent_in (net_of st) n o.kin o.work.sends a b q i

pub commit_link_grows : (st : State) (n : ℕ) (o : Outcome) (a b : ℕ) (q : Packet) → In q (st.link a b) → In q ((commit st n o).link a b)
unfolding commit
commit_link_grows st n o a b q i = sent_grows (net_of st) n o.kin o.work.sends a b q i

-- what n sends to a living node is on the link to it
pub commit_link_sent : (st : State) (n : ℕ) (o : Outcome) (b : ℕ) (q : Packet) → st.alive b ≡ true → In (b, q) o.work.sends → In q ((commit st n o).link n b)
unfolding commit
commit_link_sent st n o b q up i = sent_there (net_of st) n o.kin o.work.sends b q up i

-- the overlay after an event of n
pub net_of_event : (st : State) (n : ℕ) (o : Outcome) → net_of (commit st n o) ≡ with_event (net_of st) n o.kin o.work.sends
unfolding commit
net_of_event st n o = λ i. record { alive = st.alive; kin = λ a. kin_at a i; count = λ a. count_at a i; link = (net_of (commit st n o)).link }
  where
    kin_at : (a : ℕ) → ((commit st n o).node a).kin ≡ put_at (λ a. (st.node a).kin) n o.kin a
    kin_at a = cond_both (a == n) _ (st.node a) (λ x. x.kin ≡ put_at (λ a. (st.node a).kin) n o.kin a) (λ t. sym (cond-true (a == n) o.kin (st.node a).kin t)) (λ t. subst (λ b. (st.node a).kin ≡ cond b o.kin (st.node a).kin) (sym t) refl)

    count_at : (a : ℕ) → ((commit st n o).node a).count ≡ put_at (λ a. (st.node a).count) n (suc (st.node n).count) a
    count_at a = cond_both (a == n) _ (st.node a) (λ x. x.count ≡ put_at (λ a. (st.node a).count) n (suc (st.node n).count) a) (λ t. sym (cond-true (a == n) (suc (st.node n).count) (st.node a).count t)) (λ t. subst (λ b. (st.node a).count ≡ cond b (suc (st.node n).count) (st.node a).count) (sym t) refl)
