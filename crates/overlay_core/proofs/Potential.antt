-- The weight of a state falls with each event.
use Rattle.rank_set.specs.Ranks.{none, is_subset}
use Rattle.std.proofs.Common.{◌≡◌, ◌≤◌, ◌<◌, ◌+◌, ◌*◌, inl, inr, ℕ, Bool, true, ◌&&◌, List, [], ◌∷◌, length, refl, sym, ap, ◌∙◌, arith, le_refl, le_trans, not, zero-le, mul-le-mul_right}
use Rattle.std.proofs.lemmas.Bool.{and_parts, true≢false}
use Rattle.overlay_setup.specs.NodeSets.{In, IsStrictlyIncreasing, member}
use Rattle.stat_plan.specs.Plans.{Plan, IsUnder, ancestors, nodes, daemons, ranks, waves_at, waves_of, is_within, serves}
use Rattle.stat_plan.specs.Machine.Kin.{without_child}
use Rattle.stat_plan.specs.Machine.LossInvariant.{KinIsSound}
use Rattle.stat_plan.specs.Machine.Overlays.{is_pending}
use Rattle.stat_plan.specs.Machine.Waves.{Open}
use Rattle.stat_plan.specs.declared.machine.Timer.TheVariants.{Off}
use Rattle.stat_plan.proofs.Ascending.{without_increases}
use Rattle.stat_plan.proofs.InLists.{in_from_member, in_filter, any_from_in}
use Rattle.stat_plan.proofs.Journals.{run_is_short}
use Rattle.stat_plan.proofs.KinLemmas.{in_without}
use Rattle.stat_plan.proofs.Overlays.{ne_false}
use Rattle.stat_plan.proofs.PlanFacts.{HasPlanFacts}
use Rattle.stat_plan.proofs.Relatives.{related_below}
use Rattle.stat_plan.proofs.Totals.{total_bound, length_filter_le, length_below}
use Rattle.stat_plan.proofs.Weights.{weight as overlay_weight, popped_weight, event_weight, loss_weight, start_weight as start_overlay_weight}
use Rattle.overlay_event.specs.declared.event.Event.{Event}
use Rattle.overlay_event.specs.declared.event.Event.TheVariants.{Sample, Recv, Tick, Lose}
use Rattle.overlay_core.specs.Nodes.{Packet, Up, Done, Attach, Down, Node, Outcome, sampled, after_tick, received}
use Rattle.overlay_core.specs.Machine.{State, start, step, commit, with_link, lose, receive, net_of, is_enabled}
use Rattle.overlay_core.specs.Runs.{IsLegal}
use Rattle.overlay_core.specs.LinkInvariant.{Fits, LinkInvariant, BookIsSound}
use Rattle.overlay_core.specs.Whole.{IsSound}
use Rattle.overlay_core.specs.Bound.{bound, longest}
use Rattle.overlay_core.proofs.Acts.{PacketIsSound}
use Rattle.overlay_core.proofs.Outcomes.{next_is_empty, next_is_named, growing_sound}
use Rattle.overlay_core.proofs.ParentLinks.{test_from_within}
use Rattle.overlay_core.proofs.ParentChild.{node_here, node_else}
use Rattle.overlay_core.proofs.Steps.{active_parts, first_sound}
use Rattle.overlay_core.proofs.Whole.{step_is_sound, start_is_sound}
use Rattle.overlay_core.proofs.PotentialDecreases.{tick_cap, wave_count, uncovered, wave_weight, book_weight, packet_weight, sends_weight, kin_weight, parent_cost, Decreases, up_decreases, sampled_decreases, tick_decreases, done_decreases, attach_decreases, down_decreases}

-- what a node weighs besides the notices of its loss: the parents that it can still have, and its waves
abbrev own_weight : Plan → State → ℕ → ℕ
own_weight p st a = kin_weight p a (st.node a).kin.lost + book_weight p a (st.node a).book

pub weight : Plan → State → ℕ
weight p st = overlay_weight p (packet_weight p) (own_weight p st) (net_of st)

commit_decreases : (p : Plan) (st : State) (n paid : ℕ) (o : Outcome) → n < nodes p → st.alive n ≡ true → Decreases p n (st.node n) paid o → weight p (commit st n o) + 1 ≤ weight p st + paid
unfolding weight commit sends_weight
commit_decreases p st n paid o lt up h =
    let here : own_weight p (commit st n o) n ≡ kin_weight p n o.kin.lost + book_weight p n o.work.book = ap (λ x. kin_weight p n x.kin.lost + book_weight p n x.book) (node_here st n o n refl) in
    event_weight p (packet_weight p) (own_weight p st) (own_weight p (commit st n o)) (net_of st) n o.kin o.work.sends 1 paid lt up
    (λ a ne. ap (λ x. kin_weight p a x.kin.lost + book_weight p a x.book) (node_else st n o a (ne_false a n ne)))
    (omega arith)

-- a node has fewer children than there are nodes
few_children : (p : Plan) (n : ℕ) (xs : List ℕ) → HasPlanFacts p → IsStrictlyIncreasing xs → ((c : ℕ) → In c xs → IsUnder p c n) → length xs ≤ nodes p
few_children p n xs plan h f = elim (length_below xs 0 (nodes p) h (λ x i. (zero-le, (plan.under_nodes x n (f x i)).0))) [
  | inl k ↦ omega arith
  | inr e ↦ let z : length xs ≡ 0 = ap length e in omega arith
]

received_decreases : (p : Plan) (alive : ℕ → Bool) (n : ℕ) (x : Node) (m : ℕ) (q : Packet) → HasPlanFacts p → KinIsSound p alive n x.kin → BookIsSound p n x.book → PacketIsSound p alive m n q → Decreases p n x (packet_weight p q) (received p n x m q)
received_decreases p alive n x m (Up s w set) plan hk hb hq =
    up_decreases p n x s w set hq.0.3 (few_children p n x.kin.children plan hk.children_increase hk.children) (hb s w) (growing_sound p m n s set (x.book s w) plan hq.0.0 hq.0.1 (hb s w))
received_decreases p alive n x m (Done s w) plan hk hb hq = done_decreases p n x s w hq.0.2 (few_children p n x.kin.children plan hk.children_increase hk.children)
received_decreases p alive n x m Attach plan hk hb hq = attach_decreases p n x m
received_decreases p alive n x m Down plan hk hb hq =
    down_decreases p alive n x m hk (few_children p n x.kin.children plan hk.children_increase hk.children)
    (few_children p n (without_child x.kin m).children plan (without_increases m x.kin.children hk.children_increase) (λ c i. hk.children c (in_without c m x.kin.children i)))

pub sender_below : (p : Plan) (m n : ℕ) (q : Packet) → HasPlanFacts p → Fits p m n q → m < nodes p
sender_below p m n (Up s w set) plan h = (plan.under_nodes m n h.0).0
sender_below p m n (Done s w) plan h = (plan.under_nodes n m h.0).1
sender_below p m n Attach plan h = (plan.under_nodes m n h).0
sender_below p m n Down plan h = related_below p n m plan h

receive_decreases : (p : Plan) (st : State) (n m : ℕ) (qs : List Packet) → HasPlanFacts p → LinkInvariant p st → n < nodes p → st.alive n ≡ true → st.link m n ≡ qs → (qs ≡ [] → ⊥) → weight p (receive p st n m qs) + 1 ≤ weight p st
unfolding weight with_link
receive_decreases p st n m [] plan h lt up e some = absurd (some refl)
receive_decreases p st n m (q ∷ qs) plan h lt up e some =
    let hq = first_sound p st m n q qs h e in
    let a : weight p (commit (with_link st m n qs) n (received p n (st.node n) m q)) + 1 ≤ weight p (with_link st m n qs) + packet_weight p q =
    commit_decreases p (with_link st m n qs) n (packet_weight p q) (received p n (st.node n) m q) lt up (received_decreases p st.alive n (st.node n) m q plan (h.net.kin n) (h.books n) hq) in
    let b : weight p (with_link st m n qs) + packet_weight p q ≤ weight p st = popped_weight p (packet_weight p) (own_weight p st) (net_of st) m n q qs (sender_below p m n q plan hq.0) lt e in
    omega arith

served : (p : Plan) (n s w : ℕ) → In n (daemons p s) → In (s, w) (waves_of p.streams) → In (s, w) (waves_at p n)
unfolding waves_at serves
served p n s w hd i = in_filter (λ v. serves p n v.0) (s, w) (waves_of p.streams) i (any_from_in (λ d. is_within p d n) n (daemons p s) hd (test_from_within p n n (inl refl)))

pub step_decreases : (p : Plan) (st : State) (e : Event) → HasPlanFacts p → IsSound p st → is_enabled p st e ≡ true → weight p (step p st e) + 1 ≤ weight p st
unfolding weight lose
step_decreases p st (Sample n s w) plan h e =
    let t = and_parts _ _ e in
    let u = and_parts _ _ t.0 in
    let up = (active_parts p st n u.0).0 in
    let hd = in_from_member n (daemons p s) u.1 in
    let i = next_is_named p (st.node n) s w t.1 in
    let hk = h.base.net.kin n in
    let a = commit_decreases p st n 0 (sampled p n (st.node n) s w) (h.base.net.nodes n up) up
    (sampled_decreases p n (st.node n) s w plan i hd (few_children p n (st.node n).kin.children plan hk.children_increase hk.children) (next_is_empty p (st.node n) s w t.1) (h.base.books n s w) (h.settled n up s w (served p n s w hd i))) in
    omega arith
step_decreases p st (Recv n m) plan h e =
    let t = and_parts _ _ e in
    let up = (active_parts p st n t.0).0 in
    receive_decreases p st n m (st.link m n) plan h.base (h.base.net.nodes n up) up refl (λ z. true≢false (sym t.1 ∙ ap is_pending z))
step_decreases p st (Tick n) plan h e =
    let t = and_parts _ _ e in
    let up = (active_parts p st n t.0).0 in
    let hk = h.base.net.kin n in
    let a = commit_decreases p st n 0 (after_tick p n (st.node n)) (h.base.net.nodes n up) up (tick_decreases p n (st.node n) (few_children p n (st.node n).kin.children plan hk.children_increase hk.children) (h.settled n up) t.1) in
    omega arith
step_decreases p st (Lose n) plan h e = let up = (and_parts _ _ e).0 in loss_weight p (packet_weight p) (own_weight p st) Down (net_of st) n (le_refl _) (h.base.net.nodes n up) up

-- ---- the start

start_wave : (p : Plan) (n s : ℕ) → HasPlanFacts p → wave_weight p n s (Open none none Off) ≤ nodes p * (tick_cap p + 2) + nodes p
unfolding uncovered
start_wave p n s plan =
    let a : uncovered p n s none ≤ length (daemons p s) = length_filter_le (λ d. is_within p d n && not (is_subset (ranks p d) none)) (daemons p s) in
    let b : length (daemons p s) ≤ nodes p = plan.few_daemons s in
    let c : uncovered p n s none * (tick_cap p + 2) ≤ nodes p * (tick_cap p + 2) = mul-le-mul_right (tick_cap p + 2) (le_trans a b) in
    omega arith

start_book : (p : Plan) (n : ℕ) → HasPlanFacts p → book_weight p n (λ s w. Open none none Off) ≤ wave_count p * (nodes p * (tick_cap p + 2) + nodes p)
unfolding book_weight wave_count
start_book p n plan = total_bound (λ v. wave_weight p n v.0 (Open none none Off)) (nodes p * (tick_cap p + 2) + nodes p) (waves_of p.streams) (λ v i. start_wave p n v.0 plan)

start_kin : (p : Plan) (n : ℕ) → HasPlanFacts p → kin_weight p n [] ≤ 8 * parent_cost p
unfolding kin_weight
start_kin p n plan = mul-le-mul_right (parent_cost p) (le_trans (length_filter_le (λ a. not (member a [])) (ancestors p n)) (plan.shallow n))

start_own : (p : Plan) (a : ℕ) → HasPlanFacts p → own_weight p (start p) a ≤ 8 * parent_cost p + wave_count p * (nodes p * (tick_cap p + 2) + nodes p)
unfolding start
start_own p a plan = let x = start_kin p a plan in let y = start_book p a plan in omega arith

-- the weights under the bound
arithmetic : (n m t : ℕ) → n * (n + (8 * (1 + m + m * (t + 1)) + m * (n * (t + 2) + n))) ≤ n * n + 9 * n + 3 * n * m * (n + 9) * (t + 1)
arithmetic n m t = omega arith

pub start_weight : (p : Plan) → HasPlanFacts p → weight p (start p) ≤ bound p
unfolding weight parent_cost wave_count tick_cap start
start_weight p plan =
    let a : weight p (start p) ≤ nodes p * (nodes p + (8 * parent_cost p + wave_count p * (nodes p * (tick_cap p + 2) + nodes p))) =
    start_overlay_weight p (packet_weight p) (own_weight p (start p)) (8 * parent_cost p + wave_count p * (nodes p * (tick_cap p + 2) + nodes p)) (λ a. start_own p a plan) in
    le_trans a (arithmetic (nodes p) (length (waves_of p.streams)) (longest p.streams))

-- a legal journal has at most as many events as the start weighs, and the start weighs at most the bound
pub legal_is_short : (p : Plan) (journal : List Event) → HasPlanFacts p → IsLegal p journal → length journal ≤ bound p
legal_is_short p journal plan l =
    let a : length journal ≤ weight p (start p) = run_is_short (IsSound p) (step p) (is_enabled p) (weight p) (λ st e h en. step_is_sound p st e plan h en) (λ st e h en. step_decreases p st e plan h en) (start p) journal (start_is_sound p plan) l in
    le_trans a (start_weight p plan)
