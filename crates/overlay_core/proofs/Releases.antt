-- Releases cover whole daemons, and those of streams that wait for all are final.
use Rattle.rank_set.specs.Ranks.{Ranks}
use Rattle.std.proofs.Common.{◌≡◌, ◌≢◌, inl, inr, ℕ, Bool, true, false, List, [], ◌∷◌, filter, refl, sym, subst, eqb-true}
use Rattle.std.proofs.lemmas.Bool.{cond_both, and_parts}
use Rattle.overlay_setup.specs.NodeSets.{In}
use Rattle.stat_plan.specs.Plans.{Plan, front, is_front, mode, daemons, waves_at, waves_of}
use Rattle.stat_plan.specs.Machine.Due.{due_act}
use Rattle.overlay_core.specs.Nodes.{Packet, Up, Done, Attach, Down, Node, Effects, Outcome, Release, begin, due_at, acted, act_as, act, act_each, done_work, sampled, after_tick, received_up, received_done, received_attach, received_down, received}
use Rattle.stat_plan.specs.Machine.Overlays.{to_parent}
use Rattle.stat_plan.specs.Machine.Kin.{Kin, is_parent, without_child, with_parent}
use Rattle.stat_plan.specs.Machine.Waves.{Wave, Open, Closed, Book, is_fired, ticked, unsent}
use Rattle.overlay_core.specs.Machine.{State, start, step, commit, with_link, lose, receive, is_enabled}
use Rattle.overlay_core.specs.Runs.{after, IsLegal}
use Rattle.stat_plan.proofs.PlanFacts.{HasPlanFacts}
use Rattle.overlay_core.specs.LinkInvariant.{LinkInvariant, OpenIsSound, WaveIsSound, BookIsSound, IsUnion}
use Rattle.stat_plan.specs.Machine.LossInvariant.{KinIsSound}
use Rattle.overlay_core.proofs.Acts.{PacketIsSound, IsSubsetOf, KinFits, WorkIsSound, act_sound, each_wave_set, attach_up}
use Rattle.overlay_core.specs.Whole.{IsSound}
use Rattle.overlay_core.specs.Releases.{ReleaseIsSound, ReleasesAreSound}
use Rattle.overlay_core.specs.declared.release.Kind.TheVariants.{Partial as PartialRelease, Final as FinalRelease}
use Rattle.overlay_setup.specs.declared.script.Mode.{Mode}
use Rattle.overlay_setup.specs.declared.script.Mode.TheVariants.{WaitForAll, TimeOut, DontWait}
use Rattle.stat_plan.specs.declared.machine.Timer.{Timer}
use Rattle.stat_plan.specs.declared.machine.Act.{Act}
use Rattle.stat_plan.specs.declared.machine.Act.TheVariants.{Hold, Arm, Send, Partial, Final}
use Rattle.overlay_event.specs.declared.event.Event.{Event}
use Rattle.overlay_event.specs.declared.event.Event.TheVariants.{Sample, Recv, Tick, Lose}
use Rattle.stat_plan.proofs.InLists.{in_append, in_from_member, in_from_filter}
use Rattle.overlay_core.proofs.Outcomes.{kin_fits, begin_sound, next_is_empty, next_is_named, waves_at_named, covering_sound, growing_sound, ticked_sound, received_sound, unsent_sound}
use Rattle.overlay_core.proofs.History.{partial_top, final_says, only_wave}
use Rattle.overlay_core.proofs.Whole.{step_is_sound, start_is_sound}
use Rattle.overlay_core.proofs.Steps.{first_sound}
use Rattle.stat_plan.proofs.Journals.{run_keeps}

-- a partial release is of no stream that waits for all
partial_mode : (m : Mode) (done grown top : Bool) (t : Timer) → due_act m done grown top t ≡ Partial → m ≢ WaitForAll
partial_mode m true grown true t e k = cc
partial_mode m true true false t e k = cc
partial_mode m true false false t e k = cc
partial_mode WaitForAll false grown top t e k = cc
partial_mode DontWait false grown top t e k = cc
partial_mode (TimeOut j) false grown top t e k = cc

abbrev LogIsSound : Plan → Effects → Type 0
LogIsSound p k = (r : Release) → In r k.releases → ReleaseIsSound p r

at_front : (p : Plan) (n s : ℕ) (covered : Ranks) → is_front p n ≡ true → IsUnion p s n covered → IsUnion p s (front p) covered
unfolding is_front
at_front p n s covered top h = subst (λ a. IsUnion p s a covered) (eqb-true n (front p) top) h

acted_log : (p : Plan) (n : ℕ) (kin : Kin) (s w : ℕ) (covered sent : Ranks) (timer : Timer) (k : Effects) (a : Act) → In (s, w) (waves_of p.streams) → OpenIsSound p n s covered sent → due_at p n kin.lost s covered sent timer ≡ a → LogIsSound p k → LogIsSound p (acted p kin s w covered sent timer k a)
unfolding acted due_at
acted_log p n kin s w covered sent timer k Hold i o e h = h
acted_log p n kin s w covered sent timer k Arm i o e h = h
acted_log p n kin s w covered sent timer k Send i o e h = h
acted_log p n kin s w covered sent timer k Partial i o e h = λ r j. elim (in_append r k.releases _ j) [
  | inl l ↦ h r l
  | inr l ↦ elim l [
    | inl q ↦ subst (ReleaseIsSound p) (sym q) (record {
      named = i;
      whole = at_front p n s covered (partial_top (mode p s) _ _ _ timer e) o.whole;
      waits = λ z. partial_mode (mode p s) _ _ _ timer e;
    })
    | inr q ↦ absurd q
  ]
]
acted_log p n kin s w covered sent timer k Final i o e h = λ r j. elim (in_append r k.releases _ j) [
  | inl l ↦ h r l
  | inr l ↦ elim l [
    | inl q ↦ subst (ReleaseIsSound p) (sym q) (record {
      named = i;
      whole = at_front p n s covered (final_says (mode p s) _ _ _ timer e).1 o.whole;
      waits = λ z. absurd (not_partial z);
    })
    | inr q ↦ absurd q
  ]
]
  where
    not_partial : FinalRelease ≡ PartialRelease → ⊥
    not_partial z = cc

act_as_log : (p : Plan) (n : ℕ) (kin : Kin) (s w : ℕ) (k : Effects) (v : Wave) → In (s, w) (waves_of p.streams) → WaveIsSound p n s v → LogIsSound p k → LogIsSound p (act_as p n kin s w k v)
act_as_log p n kin s w k (Open covered sent timer) i hv h = acted_log p n kin s w covered sent timer k (due_at p n kin.lost s covered sent timer) i hv refl h
act_as_log p n kin s w k Closed i hv h = h

act_each_log : (p : Plan) (n : ℕ) (kin : Kin) (vs : List (ℕ × ℕ)) (k : Effects) → IsSubsetOf vs (waves_of p.streams) → KinFits p n kin → WorkIsSound p n k → LogIsSound p k → LogIsSound p (act_each p n kin vs k)
act_each_log p n kin [] k i fits hw h = h
act_each_log p n kin (v ∷ vs) k i fits hw h =
    act_each_log p n kin vs (act p n kin v.0 v.1 k) (λ x j. i x (inr j)) fits (act_sound p n kin v.0 v.1 k (i v (inl refl)) fits hw)
    (act_as_log p n kin v.0 v.1 k (k.book v.0 v.1) (i v (inl refl)) (hw.book v.0 v.1) h)

begin_log : (p : Plan) (n : ℕ) (kin : Kin) (b : Book) (vs : List (ℕ × ℕ)) → IsSubsetOf vs (waves_of p.streams) → KinFits p n kin → BookIsSound p n b → LogIsSound p (act_each p n kin vs (begin b))
begin_log p n kin b vs i fits hb = act_each_log p n kin vs (begin b) i fits (begin_sound p n b hb) (λ r j. absurd j)

received_log : (p : Plan) (alive : ℕ → Bool) (n : ℕ) (x : Node) (m : ℕ) (q : Packet) → HasPlanFacts p → KinIsSound p alive n x.kin → KinIsSound p alive n (received p n x m q).kin → BookIsSound p n x.book → PacketIsSound p alive m n q → LogIsSound p (received p n x m q).work
unfolding received_up received_done received_attach received_down
received_log p alive n x m (Up s w set) plan hk hk' hb hq =
    begin_log p n x.kin _ ((s, w) ∷ []) (only_wave p s w hq.0.3) (kin_fits p alive n x.kin hk)
    (each_wave_set (λ a b v. WaveIsSound p n a v) x.book s w _ hb (growing_sound p m n s set (x.book s w) plan hq.0.0 hq.0.1 (hb s w)))
received_log p alive n x m (Done s w) plan hk hk' hb hq = go (x.book s w)
  where
    go : (v : Wave) → LogIsSound p (done_work p x.kin s w x.book v)
    go (Open covered sent t) = λ r j. absurd j
    go Closed = λ r j. absurd j
received_log p alive n x m Attach plan hk hk' hb hq = λ r j. absurd j
received_log p alive n x m Down plan hk hk' hb hq =
    (cond_both (is_parent x.kin.parent m) _ _ (λ (o : Outcome). KinIsSound p alive n o.kin → LogIsSound p o.work)
    (λ e h'. act_each_log p n (with_parent p n x.kin m) (waves_at p n) _ (waves_at_named p n) (kin_fits p alive n (with_parent p n x.kin m) h') (re_sent e h') (λ r j. absurd j))
    (λ e h'. begin_log p n (without_child x.kin m) x.book (waves_at p n) (waves_at_named p n) (kin_fits p alive n (without_child x.kin m) h') hb)) hk'
  where
    re_sent : is_parent x.kin.parent m ≡ true → KinIsSound p alive n (with_parent p n x.kin m) → WorkIsSound p n (record { book = λ s w. unsent (x.book s w); sends = to_parent (with_parent p n x.kin m).parent Attach; releases = [] })
    re_sent e h' = record {
      book = λ s w. unsent_sound p n s (x.book s w) (hb s w);
      sends = attach_up p n (with_parent p n x.kin m) (kin_fits p alive n (with_parent p n x.kin m) h');
    }

commit_log : (p : Plan) (st : State) (n : ℕ) (o : Outcome) → ReleasesAreSound p st → LogIsSound p o.work → ReleasesAreSound p (commit st n o)
unfolding commit
commit_log p st n o h l r i = elim (in_append r st.releases o.work.releases i) [ inl j ↦ h r j | inr j ↦ l r j ]

step_log : (p : Plan) (st : State) (e : Event) → HasPlanFacts p → LinkInvariant p st → ReleasesAreSound p st → is_enabled p st e ≡ true → ReleasesAreSound p (step p st e)
unfolding sampled after_tick lose with_link
step_log p st (Sample n s w) plan hs h e =
    let t = and_parts _ _ e in
    let u = and_parts _ _ t.0 in
    let x = st.node n in
    commit_log p st n _ h (begin_log p n x.kin _ ((s, w) ∷ []) (only_wave p s w (next_is_named p x s w t.1)) (kin_fits p st.alive n x.kin (hs.net.kin n))
    (each_wave_set (λ a b v. WaveIsSound p n a v) x.book s w _ (hs.books n) (covering_sound p n s (x.book s w) plan (in_from_member n (daemons p s) u.1) (next_is_empty p x s w t.1) (hs.books n s w))))
step_log p st (Recv n m) plan hs h e = go (st.link m n) refl
  where
    go : (qs : List Packet) → st.link m n ≡ qs → ReleasesAreSound p (receive p st n m qs)
    go [] e = h
    go (q ∷ qs) e =
        let hq = first_sound p st m n q qs hs e in
        commit_log p (with_link st m n qs) n _ h (received_log p st.alive n (st.node n) m q plan (hs.net.kin n) (received_sound p st.alive n (st.node n) m q plan (hs.net.kin n) (hs.books n) hq).kin (hs.books n) hq)
step_log p st (Tick n) plan hs h e =
    let x = st.node n in
    commit_log p st n _ h (begin_log p n x.kin _ (filter (λ v. is_fired (ticked (x.book v.0 v.1))) (waves_at p n)) (λ v i. waves_at_named p n v (in_from_filter (λ v. is_fired (ticked (x.book v.0 v.1))) v (waves_at p n) i).0) (kin_fits p st.alive n x.kin (hs.net.kin n)) (λ s w. ticked_sound p n s (x.book s w) (hs.books n s w)))
step_log p st (Lose n) plan hs h e = h

pub legal_log : (p : Plan) (journal : List Event) → HasPlanFacts p → IsLegal p journal → ReleasesAreSound p (after p journal)
unfolding start
legal_log p journal plan l =
    (run_keeps (λ st. IsSound p st × ReleasesAreSound p st) (step p) (is_enabled p) (λ st e h en. (step_is_sound p st e plan h.0 en, step_log p st e plan h.0.base h.1 en)) (start p) journal (start_is_sound p plan, λ r i. absurd i) l).1
