-- How many events a node has handled is a small number.
use Rattle.std.proofs.Common.{◌≡◌, ◌+◌, ◌*◌, ◌^◌, ◌<◌, ◌≤◌, ℕ, suc, Bool, true, false, ◌==◌, cond, List, [], ◌∷◌, map, length, None, Some, refl, sym, ap, subst, inl, inr, eqb-true, arith, length-append, ◌∙◌, drop, get_or}
use Rattle.std.proofs.lemmas.List.{drop_more, length-map}
use Rattle.std.proofs.Math.Nat.{mul-le-mul, max-le}
use Rattle.std.specs.List.{AllByRecursion}
use Rattle.overlay_setup.specs.declared.topology.TheConstants.{NODE_LIMIT}
use Rattle.overlay_setup.specs.declared.script.Mode.{Mode}
use Rattle.overlay_setup.specs.declared.script.Mode.TheVariants.{WaitForAll, TimeOut, DontWait}
use Rattle.stat_plan.specs.Invariants.{IsPlan}
use Rattle.overlay_setup.specs.Scripts.{IsMode, IsStream, Stream}
use Rattle.overlay_setup.specs.NodeSets.{In, IsStrictlyIncreasing, up_to}
use Rattle.stat_plan.specs.Plans.{Plan, nodes, waves_of}
use Rattle.stat_plan.specs.Machine.Waves.{ticks}
use Rattle.overlay_setup.proofs.UpTo.{length-up_to}
use Rattle.overlay_event.specs.declared.event.Event.{Event}
use Rattle.overlay_event.specs.declared.event.Event.TheVariants.{Sample, Recv, Tick, Lose}
use Rattle.overlay_core.specs.Bound.{bound, bound_of, longest}
use Rattle.overlay_core.specs.Nodes.{Node, Outcome, Packet, handled}
use Rattle.overlay_core.specs.Machine.{State, commit, is_enabled, lose, receive, start, step, with_link}
use Rattle.overlay_core.specs.Runs.{IsLegal, after, run}
use Rattle.stat_plan.proofs.PlanFacts.{plan_facts}
use Rattle.stat_plan.proofs.FewWaves.{waves_of_plan}
use Rattle.overlay_core.proofs.Journals.{legal_has_room}

-- ---- a journal's events, node by node

-- committing an outcome raises the count of its node by one
commit_raises : (st : State) (k : ℕ) (o : Outcome) (n : ℕ) → ((commit st k o).node n).count ≤ suc (st.node n).count
unfolding commit
commit_raises st k o n = go (n == k) refl
  where
    go : (t : Bool) → (n == k) ≡ t → (cond {A = Node} t (record { kin = o.kin; book = o.work.book; count = suc (st.node k).count }) (st.node n)).count ≤ suc (st.node n).count
    go true t = let e : (st.node n).count ≡ (st.node k).count = ap (λ a. (st.node a).count) (eqb-true n k t) in omega arith
    go false t = omega arith

-- what is on the way counts nothing
link_keeps : (st : State) (m k : ℕ) (qs : List Packet) (n : ℕ) → ((with_link st m k qs).node n).count ≡ (st.node n).count
unfolding with_link
link_keeps st m k qs n = refl

-- a loss counts nothing
loss_keeps : (p : Plan) (st : State) (k n : ℕ) → ((lose p st k).node n).count ≡ (st.node n).count
unfolding lose
loss_keeps p st k n = refl

-- what is received raises the count by one at most
receive_raises : (p : Plan) (st : State) (k m : ℕ) (qs : List Packet) (n : ℕ) → ((receive p st k m qs).node n).count ≤ suc (st.node n).count
receive_raises p st k m [] n = omega arith
receive_raises p st k m (q ∷ qs) n =
    subst (λ c. ((commit (with_link st m k qs) k (handled p k (st.node k) (Recv k m) (Some (m, q)))).node n).count ≤ suc c) (link_keeps st m k qs n)
    (commit_raises (with_link st m k qs) k (handled p k (st.node k) (Recv k m) (Some (m, q))) n)

-- an event raises the count of a node by one at most
step_raises : (p : Plan) (st : State) (e : Event) (n : ℕ) → ((step p st e).node n).count ≤ suc (st.node n).count
step_raises p st (Sample k s w) n = commit_raises st k (handled p k (st.node k) (Sample k s w) None) n
step_raises p st (Recv k m) n = receive_raises p st k m (st.link m k) n
step_raises p st (Tick k) n = commit_raises st k (handled p k (st.node k) (Tick k) None) n
step_raises p st (Lose k) n = let e = loss_keeps p st k n in omega (arith, e)

-- some events raise the count of a node by as many at most
run_raises : (p : Plan) (st : State) (es : List Event) (n : ℕ) → ((run p st es).node n).count ≤ (st.node n).count + length es
run_raises p st [] n = omega arith
run_raises p st (e ∷ es) n = let a = step_raises p st e n in let b = run_raises p (step p st e) es n in omega (arith, a, b)

-- at the start a node has handled nothing
start_counts : (p : Plan) (n : ℕ) → ((start p).node n).count ≡ 0
unfolding start
start_counts p n = refl

-- a node has handled no more events than the journal has
pub journal_counts : (p : Plan) (journal : List Event) (n : ℕ) → ((after p journal).node n).count ≤ length journal
journal_counts p journal n = let a = run_raises p (start p) journal n in let b = start_counts p n in omega (arith, a, b)

-- ---- the bound of a plan

-- a timer runs at most 1,000 ticks
ticks_within_limit : (m : Mode) → IsMode m → ticks m ≤ 1000
ticks_within_limit WaitForAll h = omega arith
ticks_within_limit (TimeOut t) h = h.1
ticks_within_limit DontWait h = omega arith

-- the longest of the timers runs at most 1,000 ticks
pub longest_within_limit : (xs : List Stream) → AllByRecursion IsStream xs → longest xs ≤ 1000
longest_within_limit [] all = omega arith
longest_within_limit (x ∷ xs) all = max-le (ticks_within_limit x.mode all.0.mode) (longest_within_limit xs all.1)

-- the greatest bound of a plan
pub greatest_bound : bound_of 512 128 1000 < 2 ^ 62
greatest_bound = omega arith

-- the bound of nodes, waves and timeouts within their limits is below 2^62
pub small_bound_of : (n m t : ℕ) → n ≤ 512 → m ≤ 128 → t ≤ 1000 → bound_of n m t ≤ bound_of 512 128 1000
small_bound_of n m t hn hm ht =
    let n9 : n + 9 ≤ 512 + 9 = omega arith in
    let t1 : t + 1 ≤ 1000 + 1 = omega arith in
    let three : 3 ≤ 3 = omega arith in
    let a : n * n ≤ 512 * 512 = mul-le-mul hn hn in
    let b : 3 * n ≤ 3 * 512 = mul-le-mul three hn in
    let c : 3 * n * m ≤ 3 * 512 * 128 = mul-le-mul b hm in
    let d : 3 * n * m * (n + 9) ≤ 3 * 512 * 128 * (512 + 9) = mul-le-mul c n9 in
    let f : 3 * n * m * (n + 9) * (t + 1) ≤ 3 * 512 * 128 * (512 + 9) * (1000 + 1) = mul-le-mul d t1 in
    omega arith

-- the bound of a plan is small
pub small_bound : (p : Plan) → IsPlan p → bound p < 2 ^ 62
small_bound p plan =
    let a : nodes p ≤ NODE_LIMIT = plan.topology.within_limit in
    let m : length (waves_of p.streams) ≤ 128 = waves_of_plan p plan in
    let d = small_bound_of (nodes p) (length (waves_of p.streams)) (longest p.streams) a m (longest_within_limit p.streams plan.script.streams) in
    let g = greatest_bound in
    omega (arith, d, g)

-- where an event may come next, no node has handled many
pub small_count : (p : Plan) (journal : List Event) (e : Event) (n : ℕ) → IsPlan p → IsLegal p journal → is_enabled p (after p journal) e ≡ true → ((after p journal).node n).count < 2 ^ 62
small_count p journal e n plan legal may =
    let a : ((after p journal).node n).count ≤ length journal = journal_counts p journal n in
    let b : length journal < bound p = legal_has_room p journal e (plan_facts p plan) legal may in
    let c : bound p < 2 ^ 62 = small_bound p plan in
    omega arith

-- the waves of one stream, and of those behind it
pub waves_from : (xs : List Stream) (k : ℕ) (x : Stream) → k < length xs → x ≡ get_or xs k x → length (waves_of (drop k xs)) ≡ x.waves + length (waves_of (drop (k + 1) xs))
waves_from xs k x lt is =
    ap (λ (ys : List Stream). length (waves_of ys)) (drop_more xs k x lt)
    ∙ ap (λ (y : Stream). length (waves_of (y ∷ drop (k + 1) xs))) (sym is)
    ∙ length-append (map (λ w. (x.number, w)) (up_to x.waves)) (waves_of (drop (k + 1) xs))
    ∙ ap (λ n. n + length (waves_of (drop (k + 1) xs))) (length-map (up_to x.waves) (λ w. (x.number, w)) ∙ length-up_to x.waves)
