-- An event of another node leaves what an event needs.
use Rattle.std.proofs.Common.{◌≡◌, ◌≢◌, ℕ, true, false, cond, ◌==◌, ◌&&◌, not, List, [], ◌∷◌, ◌++◌, take, refl, sym, ap, subst, ◌∙◌, eqb-true, Some, None}
use Rattle.std.specs.List.{list_any, AllByRecursion}
use Rattle.std.proofs.lemmas.Bool.{cond_both, and_parts, true≢false}
use Rattle.overlay_setup.specs.NodeSets.{member}
use Rattle.stat_plan.specs.Plans.{Plan, daemons, waves_at, is_related, fault}
use Rattle.stat_plan.specs.Machine.Waves.{is_running}
use Rattle.overlay_event.specs.declared.event.Event.{Event}
use Rattle.overlay_event.specs.declared.event.Event.TheVariants.{Sample, Recv, Tick, Lose}
use Rattle.overlay_core.specs.Nodes.{Packet, Down, Node, Outcome, handled}
use Rattle.overlay_core.specs.Machine.{State, step, commit, with_link, lose, receive, is_doomed, is_active, is_wave, next_sample, is_enabled}
use Rattle.stat_plan.specs.Machine.Overlays.{to, keep_of, is_spent, is_pending}
use Rattle.overlay_core.specs.Runs.{run}
use Rattle.overlay_core.specs.Independent.{first_from, outcome, sender_of, AreIndependent}
use Rattle.overlay_event.specs.Events.{event_node}

commit_node_else : (st : State) (k : ℕ) (o : Outcome) (n : ℕ) → k ≢ n → (commit st k o).node n ≡ st.node n
unfolding commit
commit_node_else st k o n ne = cond_both {A = Node} (n == k) _ (st.node n) (λ x. x ≡ st.node n) (λ e. absurd (ne (sym (eqb-true n k e)))) (λ e. refl)

-- a node is as it was after another node's event
pub node_else : (p : Plan) (st : State) (f : Event) (n : ℕ) → event_node f ≢ n → (step p st f).node n ≡ st.node n
unfolding lose with_link
node_else p st (Sample k s w) n ne = commit_node_else st k _ n ne
node_else p st (Recv k m) n ne = go (st.link m k)
  where
    go : (qs : List Packet) → (receive p st k m qs).node n ≡ st.node n
    go [] = refl
    go (q ∷ qs) = commit_node_else (with_link st m k qs) k _ n ne
node_else p st (Tick k) n ne = commit_node_else st k _ n ne
node_else p st (Lose k) n ne = refl

alive_else : (p : Plan) (st : State) (f : Event) (n : ℕ) → event_node f ≢ n → (step p st f).alive n ≡ st.alive n
unfolding commit lose with_link
alive_else p st (Sample k s w) n ne = refl
alive_else p st (Recv k m) n ne = go (st.link m k)
  where
    go : (qs : List Packet) → (receive p st k m qs).alive n ≡ st.alive n
    go [] = refl
    go (q ∷ qs) = refl
alive_else p st (Tick k) n ne = refl
alive_else p st (Lose k) n ne = cond_both (n == k) false (st.alive n) (λ b. b ≡ st.alive n) (λ e. absurd (ne (sym (eqb-true n k e)))) (λ e. refl)

-- what comes behind a packet isn't the first
first_append : (m : ℕ) (qs zs : List Packet) → is_pending qs ≡ true → first_from m (qs ++ zs) ≡ first_from m qs
first_append m [] zs e = absurd (true≢false (sym e))
first_append m (q ∷ qs) zs e = refl

commit_first : (st : State) (k : ℕ) (o : Outcome) (n m : ℕ) → is_pending (st.link m n) ≡ true → first_from m ((commit st k o).link m n) ≡ first_from m (st.link m n)
unfolding commit
commit_first st k o n m pending = cond_both {A = List Packet} ((m == k) && st.alive n) (st.link m n ++ to n o.work.sends) (st.link m n) (λ l. first_from m l ≡ first_from m (st.link m n)) (λ e. first_append m (st.link m n) (to n o.work.sends) pending) (λ e. refl)

link_else : (st : State) (j k : ℕ) (qs : List Packet) (n m : ℕ) → k ≢ n → (with_link st j k qs).link m n ≡ st.link m n
unfolding with_link
link_else st j k qs n m ne = cond_both {A = List Packet} ((m == j) && (n == k)) qs (st.link m n) (λ l. l ≡ st.link m n) (λ e. absurd (ne (sym (eqb-true n k (and_parts (m == j) (n == k) e).1)))) (λ e. refl)

-- the first packet of a link stays the first at an event of another node than the receiver, unless the sender is lost
pub first_else : (p : Plan) (st : State) (f : Event) (n m : ℕ) → event_node f ≢ n → f ≢ Lose m → is_pending (st.link m n) ≡ true → first_from m ((step p st f).link m n) ≡ first_from m (st.link m n)
unfolding lose
first_else p st (Sample k s w) n m ne keeps pending = commit_first st k _ n m pending
first_else p st (Recv k j) n m ne keeps pending = go (st.link j k)
  where
    go : (qs : List Packet) → first_from m ((receive p st k j qs).link m n) ≡ first_from m (st.link m n)
    go [] = refl
    go (q ∷ qs) =
        let e : (with_link st j k qs).link m n ≡ st.link m n = link_else st j k qs n m ne in
        commit_first (with_link st j k qs) k _ n m (subst (λ l. is_pending l ≡ true) (sym e) pending) ∙ ap (first_from m) e
first_else p st (Tick k) n m ne keeps pending = commit_first st k _ n m pending
first_else p st (Lose k) n m ne keeps pending =
    let kept = take (keep_of (fault p k)) (st.link m n) ++ cond (st.alive n && is_related p k n) (Down ∷ []) [] in
    cond_both {A = List Packet} (n == k) [] (cond (m == k) kept (st.link m n)) (λ l. first_from m l ≡ first_from m (st.link m n))
    (λ e. absurd (ne (sym (eqb-true n k e))))
    (λ e. cond_both {A = List Packet} (m == k) kept (st.link m n) (λ l. first_from m l ≡ first_from m (st.link m n)) (λ t. absurd (keeps (ap Lose (sym (eqb-true m k t))))) (λ t. refl))

-- what an event of a node reads: whether it lives, what it is, and the first packet
active_like : (p : Plan) (st st' : State) (n : ℕ) → st'.alive n ≡ st.alive n → st'.node n ≡ st.node n → is_active p st' n ≡ is_active p st n
unfolding is_active is_doomed
active_like p st st' n a x = ap (λ b. b && not (is_spent (fault p n) (st'.node n).count)) a ∙ ap (λ y. st.alive n && not (is_spent (fault p n) y.count)) x

pending_first : (m : ℕ) (qs rs : List Packet) → first_from m qs ≡ first_from m rs → is_pending rs ≡ true → is_pending qs ≡ true
pending_first m qs [] e h = absurd (true≢false (sym h))
pending_first m [] (r ∷ rs) e h = absurd (cc)
pending_first m (q ∷ qs) (r ∷ rs) e h = refl

enabled_like : (p : Plan) (st st' : State) (e : Event) → st'.alive (event_node e) ≡ st.alive (event_node e) → st'.node (event_node e) ≡ st.node (event_node e)
    → ((m : ℕ) → sender_of e ≡ Some m → is_pending (st.link m (event_node e)) ≡ true → first_from m (st'.link m (event_node e)) ≡ first_from m (st.link m (event_node e)))
    → is_enabled p st e ≡ true → (is_enabled p st' e ≡ true) × (outcome p st' e ≡ outcome p st e)
unfolding outcome is_doomed
enabled_like p st st' (Sample n s w) a x first en = (
  (ap (λ b. b && member n (daemons p s) && is_wave (next_sample p (st'.node n) s) w) (active_like p st st' n a x) ∙ ap (λ y. is_active p st n && member n (daemons p s) && is_wave (next_sample p y s) w) x ∙ en),
  ap (λ y. handled p n y (Sample n s w) None) x,
)
enabled_like p st st' (Recv n m) a x first en =
    let t = and_parts (is_active p st n) (is_pending (st.link m n)) en in
    let f : first_from m (st'.link m n) ≡ first_from m (st.link m n) = first m refl t.1 in (
      (ap (λ b. b && is_pending (st'.link m n)) (active_like p st st' n a x ∙ t.0) ∙ pending_first m (st'.link m n) (st.link m n) f t.1),
      (ap (λ y. handled p n y (Recv n m) (first_from m (st'.link m n))) x ∙ ap (λ o. handled p n (st.node n) (Recv n m) o) f),
    )
enabled_like p st st' (Tick n) a x first en = (
  (ap (λ b. b && list_any (λ v. is_running ((st'.node n).book v.0 v.1)) (waves_at p n)) (active_like p st st' n a x) ∙ ap (λ y. is_active p st n && list_any (λ v. is_running (y.book v.0 v.1)) (waves_at p n)) x ∙ en),
  ap (λ y. handled p n y (Tick n) None) x,
)
enabled_like p st st' (Lose n) a x first en = (
  (ap (λ b. b && is_spent (fault p n) (st'.node n).count) a ∙ ap (λ y. st.alive n && is_spent (fault p n) y.count) x ∙ en),
  ap (λ y. handled p n y (Lose n) None) x,
)

pub stays_enabled : (p : Plan) (st : State) (e f : Event) → AreIndependent e f → is_enabled p st e ≡ true → (is_enabled p (step p st f) e ≡ true) × (outcome p (step p st f) e ≡ outcome p st e)
stays_enabled p st e f independent en = enabled_like p st (step p st f) e (alive_else p st f (event_node e) independent.elsewhere) (node_else p st f (event_node e) independent.elsewhere) (λ m k pending. first_else p st f (event_node e) m independent.elsewhere (independent.keeps_sender m k) pending) en

pub stays_through : (p : Plan) (st : State) (e : Event) (fs : List Event) → AllByRecursion (AreIndependent e) fs → is_enabled p st e ≡ true → (is_enabled p (run p st fs) e ≡ true) × (outcome p (run p st fs) e ≡ outcome p st e)
stays_through p st e [] independent en = (en, refl)
stays_through p st e (f ∷ fs) independent en =
    let one = stays_enabled p st e f independent.0 en in
    let rest = stays_through p (step p st f) e fs independent.1 one.0 in
    (rest.0, rest.1 ∙ one.1)
