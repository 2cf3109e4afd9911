-- A release names only nodes that the journal loses, and where no loss is planned it names none.
use Rattle.std.proofs.Common.{◌≡◌, inl, inr, ◌<◌, ◌==◌, ℕ, true, false, List, [], ◌∷◌, ◌++◌, Option, None, filter, find, refl, sym, ap, subst, ◌∙◌}
use Rattle.std.proofs.lemmas.Bool.{cond_both, and_parts, true≢false}
use Rattle.rank_set.specs.Ranks.{Ranks}
use Rattle.overlay_setup.specs.NodeSets.{In}
use Rattle.stat_plan.specs.Plans.{Plan, fault, nodes, ranks, waves_at}
use Rattle.overlay_setup.specs.declared.script.Fault.{Fault}
use Rattle.stat_plan.specs.Machine.Kin.{Kin, is_parent, without_child, with_parent}
use Rattle.stat_plan.specs.Machine.Waves.{Wave, Open, Closed, Book, set_wave, covering, growing, is_fired, ticked}
use Rattle.stat_plan.specs.declared.machine.Timer.{Timer}
use Rattle.stat_plan.specs.declared.machine.Act.{Act}
use Rattle.stat_plan.specs.declared.machine.Act.TheVariants.{Hold, Arm, Send, Partial, Final}
use Rattle.overlay_event.specs.declared.event.Event.{Event}
use Rattle.overlay_event.specs.declared.event.Event.TheVariants.{Sample, Recv, Tick, Lose}
use Rattle.overlay_core.specs.Nodes.{Packet, Up, Done, Attach, Down, Node, Effects, Outcome, Release, begin, acted, act_as, act, act_each, done_work, due_at, received, received_up, received_done, received_attach, received_down, sampled, after_tick}
use Rattle.overlay_core.specs.Machine.{State, start, step, commit, with_link, lose, receive, is_doomed, is_enabled}
use Rattle.stat_plan.specs.Machine.Overlays.{is_spent}
use Rattle.overlay_core.specs.Runs.{after, IsLegal, IsLegalFrom}
use Rattle.overlay_core.specs.Losses.{IsLost}
use Rattle.overlay_core.specs.LinkInvariant.{LinkInvariant}
use Rattle.stat_plan.specs.Machine.LossInvariant.{KinIsSound}
use Rattle.overlay_core.specs.Whole.{IsSound}
use Rattle.stat_plan.proofs.PlanFacts.{HasPlanFacts}
use Rattle.stat_plan.proofs.InLists.{in_append}
use Rattle.stat_plan.proofs.Overlays.{still_dead}
use Rattle.overlay_core.proofs.Outcomes.{received_sound}
use Rattle.overlay_core.proofs.Whole.{step_is_sound, start_is_sound}
use Rattle.overlay_core.proofs.Ended.{lost_by}
use Rattle.overlay_core.proofs.Steps.{first_sound}
use Rattle.stat_plan.proofs.Relatives.{related_below}
use Rattle.stat_plan.proofs.Journals.{run_keeps}

-- ---- what an event releases names the nodes that its node knows to be lost

abbrev NamesKin : Kin → Effects → Type 0
NamesKin kin k = (r : Release) → In r k.releases → r.lost ≡ kin.lost

-- one release more
names_more : (lost : List ℕ) (rs : List Release) (x : Release) → x.lost ≡ lost → ((r : Release) → In r rs → r.lost ≡ lost) → (r : Release) → In r (rs ++ x ∷ []) → r.lost ≡ lost
names_more lost rs x e h r i = elim (in_append r rs (x ∷ []) i) [
  | inl j ↦ h r j
  | inr j ↦ elim j [ inl is ↦ ap (λ (r : Release). r.lost) is ∙ e | inr none ↦ absurd none ]
]

acted_names : (p : Plan) (kin : Kin) (s w : ℕ) (covered sent : Ranks) (timer : Timer) (k : Effects) (a : Act) → NamesKin kin k → NamesKin kin (acted p kin s w covered sent timer k a)
unfolding acted
acted_names p kin s w covered sent timer k Hold h = h
acted_names p kin s w covered sent timer k Arm h = h
acted_names p kin s w covered sent timer k Send h = h
acted_names p kin s w covered sent timer k Partial h = names_more kin.lost k.releases _ refl h
acted_names p kin s w covered sent timer k Final h = names_more kin.lost k.releases _ refl h

act_as_names : (p : Plan) (n : ℕ) (kin : Kin) (s w : ℕ) (k : Effects) (v : Wave) → NamesKin kin k → NamesKin kin (act_as p n kin s w k v)
act_as_names p n kin s w k (Open covered sent timer) h = acted_names p kin s w covered sent timer k (due_at p n kin.lost s covered sent timer) h
act_as_names p n kin s w k Closed h = h

act_each_names : (p : Plan) (n : ℕ) (kin : Kin) (vs : List (ℕ × ℕ)) (k : Effects) → NamesKin kin k → NamesKin kin (act_each p n kin vs k)
act_each_names p n kin [] k h = h
act_each_names p n kin (v ∷ vs) k h = act_each_names p n kin vs (act p n kin v.0 v.1 k) (act_as_names p n kin v.0 v.1 k (k.book v.0 v.1) h)

begun_names : (p : Plan) (n : ℕ) (kin : Kin) (s w : ℕ) (book : Book) → NamesKin kin (act p n kin s w (begin book))
begun_names p n kin s w book = act_as_names p n kin s w (begin book) (book s w) (λ r i. absurd i)

-- an outcome's releases
abbrev OutcomeNamesKin : Outcome → Type 0
OutcomeNamesKin o = NamesKin o.kin o.work

sampled_names : (p : Plan) (n : ℕ) (x : Node) (s w : ℕ) → OutcomeNamesKin (sampled p n x s w)
unfolding sampled
sampled_names p n x s w = begun_names p n x.kin s w (set_wave x.book s w (covering (ranks p n) (x.book s w)))

tick_names : (p : Plan) (n : ℕ) (x : Node) → OutcomeNamesKin (after_tick p n x)
unfolding after_tick
tick_names p n x = act_each_names p n x.kin (filter (λ v. is_fired (ticked (x.book v.0 v.1))) (waves_at p n)) _ (λ r i. absurd i)

received_names : (p : Plan) (n : ℕ) (x : Node) (m : ℕ) (q : Packet) → OutcomeNamesKin (received p n x m q)
unfolding received_up received_done received_attach received_down
received_names p n x m (Up s w set) = begun_names p n x.kin s w (set_wave x.book s w (growing set (x.book s w)))
received_names p n x m (Done s w) = go (x.book s w)
  where
    go : (v : Wave) → NamesKin x.kin (done_work p x.kin s w x.book v)
    go (Open covered sent timer) = λ r i. absurd i
    go Closed = λ r i. absurd i
received_names p n x m Attach = λ r i. absurd i
received_names p n x m Down =
    cond_both (is_parent x.kin.parent m) _ _ (λ (o : Outcome). OutcomeNamesKin o)
    (λ e. act_each_names p n (with_parent p n x.kin m) (waves_at p n) _ (λ r i. absurd i))
    (λ e. act_each_names p n (without_child x.kin m) (waves_at p n) _ (λ r i. absurd i))

-- ---- so each release names only nodes of the plan, all of them lost

-- the node is lost, and is a node of the plan
abbrev IsLostNode : Plan → State → ℕ → Type 0
IsLostNode p st m = (st.alive m ≡ false) × (m < nodes p)

abbrev NamesLostNodes : Plan → State → Type 0
NamesLostNodes p st = (r : Release) → In r st.releases → (m : ℕ) → In m r.lost → IsLostNode p st m

commit_names : (p : Plan) (st : State) (n : ℕ) (o : Outcome) → HasPlanFacts p → KinIsSound p st.alive n o.kin → OutcomeNamesKin o → NamesLostNodes p st → NamesLostNodes p (commit st n o)
unfolding commit
commit_names p st n o plan hk names h r i m j = elim (in_append r st.releases o.work.releases i) [
  | inl old ↦ h r old m j
  | inr new ↦ let known : In m o.kin.lost = subst (In m) (names r new) j in (hk.lost m known, related_below p n m plan (hk.related m known))
]

step_names : (p : Plan) (st : State) (e : Event) → HasPlanFacts p → LinkInvariant p st → NamesLostNodes p st → NamesLostNodes p (step p st e)
unfolding sampled after_tick lose with_link
step_names p st (Sample n s w) plan hs h = commit_names p st n _ plan (hs.net.kin n) (sampled_names p n (st.node n) s w) h
step_names p st (Recv n m) plan hs h = go (st.link m n) refl
  where
    go : (qs : List Packet) → st.link m n ≡ qs → NamesLostNodes p (receive p st n m qs)
    go [] e = h
    go (q ∷ qs) e =
        let hq = first_sound p st m n q qs hs e in
        commit_names p (with_link st m n qs) n _ plan (received_sound p st.alive n (st.node n) m q plan (hs.net.kin n) (hs.books n) hq).kin (received_names p n (st.node n) m q) h
step_names p st (Tick n) plan hs h = commit_names p st n _ plan (hs.net.kin n) (tick_names p n (st.node n)) h
step_names p st (Lose n) plan hs h = λ r i m j. (still_dead st.alive n m (h r i m j).0, (h r i m j).1)

names_lost_nodes : (p : Plan) (journal : List Event) → HasPlanFacts p → IsLegal p journal → NamesLostNodes p (after p journal)
unfolding start
names_lost_nodes p journal plan l =
    (run_keeps (λ st. IsSound p st × NamesLostNodes p st) (step p) (is_enabled p) (λ st e h en. (step_is_sound p st e plan h.0 en, step_names p st e plan h.0.base h.1)) (start p) journal (start_is_sound p plan, λ r i. absurd i) l).1

-- a release names only nodes that the journal loses
pub named_is_lost : (p : Plan) (journal : List Event) (r : Release) (n : ℕ) → HasPlanFacts p → IsLegal p journal → In r (after p journal).releases → In n r.lost → IsLost journal n
named_is_lost p journal r n plan l i j = let dead = names_lost_nodes p journal plan l r i n j in lost_by p journal n dead.1 dead.0

-- ---- where no loss is planned, none comes

no_fault : (p : Plan) → p.faults ≡ [] → (n : ℕ) → fault p n ≡ None
unfolding fault
no_fault p no_faults n = ap (λ (faults : List Fault). find (λ f. f.node == n) faults) no_faults

none_doomed : (p : Plan) → p.faults ≡ [] → (st : State) (n : ℕ) → is_doomed p st n ≡ false
unfolding is_doomed
none_doomed p no_faults st n = ap (λ (o : Option Fault). is_spent o (st.node n).count) (no_fault p no_faults n)

no_loss_comes : (p : Plan) → p.faults ≡ [] → (st : State) (n : ℕ) → is_enabled p st (Lose n) ≡ true → ⊥
no_loss_comes p no_faults st n comes = true≢false (sym (and_parts (st.alive n) (is_doomed p st n) comes).1 ∙ none_doomed p no_faults st n)

none_lost_from : (p : Plan) → p.faults ≡ [] → (st : State) (es : List Event) → IsLegalFrom p st es → (n : ℕ) → IsLost es n → ⊥
none_lost_from p no_faults st [] legal n lost = absurd lost
none_lost_from p no_faults st (e ∷ es) legal n (inl is) = no_loss_comes p no_faults st n (subst (λ (e : Event). is_enabled p st e ≡ true) (sym is) legal.0)
none_lost_from p no_faults st (e ∷ es) legal n (inr lost) = none_lost_from p no_faults (step p st e) es legal.1 n lost

-- a legal journal of a plan without faults loses no node
pub none_is_lost : (p : Plan) (journal : List Event) → p.faults ≡ [] → IsLegal p journal → (n : ℕ) → IsLost journal n → ⊥
none_is_lost p journal no_faults legal n lost = none_lost_from p no_faults (start p) journal legal n lost

empty_list : (xs : List ℕ) → ((x : ℕ) → In x xs → ⊥) → xs ≡ []
empty_list [] none = refl
empty_list (x ∷ xs) none = absurd (none x (inl refl))

-- so its releases name no node
pub names_none : (p : Plan) (journal : List Event) (r : Release) → HasPlanFacts p → p.faults ≡ [] → IsLegal p journal → In r (after p journal).releases → r.lost ≡ []
names_none p journal r plan no_faults l i = empty_list r.lost (λ n j. none_is_lost p journal no_faults l n (named_is_lost p journal r n plan l i j))
