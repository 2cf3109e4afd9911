-- After each event nothing is due at the node.
use Rattle.rank_set.specs.Ranks.{Ranks, none, union, is_subset, is_same, is_empty, Has, IsSubset}
use Rattle.std.proofs.Common.{◌≡◌, ◌≢◌, ◌⊎◌, ◌≤◌, inl, inr, ℕ, suc, zero, Bool, true, false, not, ◌||◌, ◌&&◌, ◌==◌, List, [], ◌∷◌, filter, refl, sym, ap, subst, ◌∙◌, arith, eqb-true, eq-eqb, le_refl}
use Rattle.std.proofs.lemmas.Bool.{cond_both, and_parts, and_from, cases_Bool, true≢false, or_cases, not_from_true}
use Rattle.overlay_setup.specs.NodeSets.{In, member}
use Rattle.stat_plan.specs.Machine.Waves.{put_at, Wave, Open, Closed, Book, set_wave, ticks, is_fired, covering, growing, ticked, unsent, is_empty_open}
use Rattle.stat_plan.specs.Plans.{Plan, serves, mode, is_front, daemons, ranks, is_within, waves_at, waves_of}
use Rattle.stat_plan.specs.Machine.Due.{due_act}
use Rattle.overlay_core.specs.Nodes.{Packet, Up, Done, Attach, Down, Node, Effects, Outcome, begin, due_at, acted, act_as, act, act_each, done_work, sampled, after_tick, received_up, received_done, received_attach, received_down, received}
use Rattle.stat_plan.specs.Machine.Kin.{Kin, complete, is_parent, without_child, with_parent}
use Rattle.overlay_core.specs.Machine.{State, start, step, commit, with_link, lose, receive, is_enabled, is_active}
use Rattle.stat_plan.proofs.PlanFacts.{HasPlanFacts}
use Rattle.overlay_core.specs.LinkInvariant.{LinkInvariant, WaveIsSound, BookIsSound}
use Rattle.overlay_core.specs.Settled.{TimerIsSound, WaveIsSettled, NodeIsSettled, NodesAreSettled}
use Rattle.overlay_setup.specs.declared.script.Mode.{Mode}
use Rattle.overlay_setup.specs.declared.script.Mode.TheVariants.{WaitForAll, TimeOut, DontWait}
use Rattle.stat_plan.specs.declared.machine.Timer.{Timer}
use Rattle.stat_plan.specs.declared.machine.Timer.TheVariants.{Off, Running, Fired}
use Rattle.stat_plan.specs.declared.machine.Act.{Act}
use Rattle.stat_plan.specs.declared.machine.Act.TheVariants.{Hold, Arm, Send, Partial, Final}
use Rattle.overlay_event.specs.declared.event.Event.{Event}
use Rattle.overlay_event.specs.declared.event.Event.TheVariants.{Sample, Recv, Tick, Lose}
use Rattle.overlay_core.proofs.RankSets.{test_from_same, same_from_members, union_left, subset_from_test, none_from_subset, empty_true, same_true}
use Rattle.stat_plan.proofs.InLists.{list_all_in, in_from_filter, in_filter, in_from_any}
use Rattle.overlay_core.proofs.Acts.{each_wave_set}
use Rattle.overlay_core.proofs.Outcomes.{next_is_empty}
use Rattle.overlay_core.proofs.ParentLinks.{set_wave_here}
use Rattle.overlay_core.proofs.Commits.{next_node, commit_node}
use Rattle.stat_plan.proofs.Overlays.{was_alive}

-- what is due once an act was done
pub after_arm : (m : Mode) (done grown top : Bool) (t : Timer) (k : ℕ) → due_act m done grown top t ≡ Arm → (due_act m done grown top (Running k) ≡ Hold) × (grown ≡ true) × ((j : ℕ) × (m ≡ TimeOut j))
after_arm m true grown true t k e = absurd (cc)
after_arm m true true false t k e = absurd (cc)
after_arm m true false false t k e = absurd (cc)
after_arm WaitForAll false grown top t k e = absurd (cc)
after_arm DontWait false true true t k e = absurd (cc)
after_arm DontWait false true false t k e = absurd (cc)
after_arm DontWait false false top t k e = absurd (cc)
after_arm (TimeOut j) false true top Off k e = (refl, refl, (j, refl))
after_arm (TimeOut j) false false top Off k e = absurd (cc)
after_arm (TimeOut j) false grown top (Running i) k e = absurd (cc)
after_arm (TimeOut j) false true true Fired k e = absurd (cc)
after_arm (TimeOut j) false true false Fired k e = absurd (cc)
after_arm (TimeOut j) false false top Fired k e = absurd (cc)

abbrev IsPass : Act → Type 0
IsPass a = (a ≡ Send) ⊎ (a ≡ Partial)

after_pass : (m : Mode) (done grown top : Bool) (t : Timer) → IsPass (due_act m done grown top t) → due_act m done false top Off ≡ Hold
after_pass m true grown true t (inl e) = absurd (cc)
after_pass m true grown true t (inr e) = absurd (cc)
after_pass m true grown false t e = refl
after_pass WaitForAll false grown top t e = refl
after_pass DontWait false grown top t e = refl
after_pass (TimeOut j) false grown top t e = refl

-- a fired timer of a wave that has grown is never held
fired_held : (m : Mode) (done top : Bool) (j : ℕ) → m ≡ TimeOut j → due_act m done true top Fired ≡ Hold → ⊥
fired_held m true true j em e = cc
fired_held m true false j em e = cc
fired_held WaitForAll false top j em e = cc
fired_held DontWait false top j em e = cc
fired_held (TimeOut i) false true j em e = cc
fired_held (TimeOut i) false false j em e = cc

running_same : (m : Mode) (done grown top : Bool) (a b : ℕ) → due_act m done grown top (Running a) ≡ due_act m done grown top (Running b)
running_same m true grown true a b = refl
running_same m true grown false a b = refl
running_same WaitForAll false grown top a b = refl
running_same DontWait false grown top a b = refl
running_same (TimeOut j) false grown top a b = refl

ticks_mode : (m : Mode) → 1 ≤ ticks m → (j : ℕ) × (m ≡ TimeOut j)
ticks_mode WaitForAll h = absurd (omega arith)
ticks_mode (TimeOut t) h = (t, refl)
ticks_mode DontWait h = absurd (omega arith)

-- what a timer is before an act: it may be fired
abbrev TimerFits : Plan → ℕ → Ranks → Ranks → Timer → Type 0
TimerFits p s covered sent Off = Unit {0}
TimerFits p s covered sent (Running t) = (1 ≤ t) × (t ≤ ticks (mode p s)) × (covered ≢ sent)
TimerFits p s covered sent Fired = (1 ≤ ticks (mode p s)) × (covered ≢ sent)

abbrev WaveFits : Plan → ℕ → Wave → Type 0
WaveFits p s (Open covered sent timer) = TimerFits p s covered sent timer
WaveFits p s Closed = Unit {0}

fits_from_sound : (p : Plan) (s : ℕ) (covered sent : Ranks) (t : Timer) → TimerIsSound p s covered sent t → TimerFits p s covered sent t
fits_from_sound p s covered sent Off h = tt
fits_from_sound p s covered sent (Running t) h = h
fits_from_sound p s covered sent Fired h = absurd h

fits_from_settled : (p : Plan) (n : ℕ) (lost : List ℕ) (s : ℕ) (v : Wave) → WaveIsSettled p n lost s v → WaveFits p s v
fits_from_settled p n lost s (Open covered sent timer) h = fits_from_sound p s covered sent timer h.1
fits_from_settled p n lost s Closed h = tt

grown_test : (covered sent : Ranks) → covered ≢ sent → not (is_same covered sent) ≡ true
grown_test covered sent ne = elim (cases_Bool (is_same covered sent)) [ inl e ↦ absurd (ne (same_true covered sent e)) | inr e ↦ subst (λ b. not b ≡ true) (sym e) refl ]

pub ne_from_grown : (covered sent : Ranks) → not (is_same covered sent) ≡ true → covered ≢ sent
ne_from_grown covered sent e k = let t : is_same covered sent ≡ true = subst (λ z. is_same covered z ≡ true) k (test_from_same covered) in true≢false (sym e ∙ not_from_true _ t)

-- nothing is due for the wave that was acted on
acted_settled : (p : Plan) (n : ℕ) (kin : Kin) (s w : ℕ) (covered sent : Ranks) (timer : Timer) (k : Effects) (a : Act) → HasPlanFacts p → k.book s w ≡ Open covered sent timer → TimerFits p s covered sent timer → due_at p n kin.lost s covered sent timer ≡ a → WaveIsSettled p n kin.lost s ((acted p kin s w covered sent timer k a).book s w)
unfolding acted due_at
acted_settled p n kin s w covered sent timer k Hold plan ev fit e = subst (WaveIsSettled p n kin.lost s) (sym ev) (e, held timer fit e)
  where
    held : (t : Timer) → TimerFits p s covered sent t → due_act (mode p s) (complete p n kin.lost s covered) (not (is_same covered sent)) (is_front p n) t ≡ Hold → TimerIsSound p s covered sent t
    held Off f h = tt
    held (Running t) f h = f
    held Fired f h = let j = ticks_mode (mode p s) f.0 in fired_held (mode p s) (complete p n kin.lost s covered) (is_front p n) j.0 j.1 (subst (λ b. due_act (mode p s) (complete p n kin.lost s covered) b (is_front p n) Fired ≡ Hold) (grown_test covered sent f.1) h)
acted_settled p n kin s w covered sent timer k Arm plan ev fit e =
    let t = after_arm (mode p s) (complete p n kin.lost s covered) (not (is_same covered sent)) (is_front p n) timer (ticks (mode p s)) e in
    subst (WaveIsSettled p n kin.lost s) (sym (set_wave_here k.book s w _)) (t.0, (some t.2.0 t.2.1, le_refl _, ne_from_grown covered sent t.1))
  where
    some : (j : ℕ) → mode p s ≡ TimeOut j → 1 ≤ ticks (mode p s)
    some j em = subst (λ m. 1 ≤ ticks m) (sym em) (plan.ticks_some s j em)
acted_settled p n kin s w covered sent timer k Send plan ev fit e =
    subst (WaveIsSettled p n kin.lost s) (sym (set_wave_here k.book s w _))
    (subst (λ b. due_act (mode p s) (complete p n kin.lost s covered) (not b) (is_front p n) Off ≡ Hold) (sym (test_from_same covered)) (after_pass (mode p s) (complete p n kin.lost s covered) (not (is_same covered sent)) (is_front p n) timer (inl e)), tt)
acted_settled p n kin s w covered sent timer k Partial plan ev fit e =
    subst (WaveIsSettled p n kin.lost s) (sym (set_wave_here k.book s w _))
    (subst (λ b. due_act (mode p s) (complete p n kin.lost s covered) (not b) (is_front p n) Off ≡ Hold) (sym (test_from_same covered)) (after_pass (mode p s) (complete p n kin.lost s covered) (not (is_same covered sent)) (is_front p n) timer (inr e)), tt)
acted_settled p n kin s w covered sent timer k Final plan ev fit e = subst (WaveIsSettled p n kin.lost s) (sym (set_wave_here k.book s w _)) tt

act_as_settled : (p : Plan) (n : ℕ) (kin : Kin) (s w : ℕ) (k : Effects) (v : Wave) → HasPlanFacts p → k.book s w ≡ v → WaveFits p s v → WaveIsSettled p n kin.lost s ((act_as p n kin s w k v).book s w)
act_as_settled p n kin s w k (Open covered sent timer) plan ev fit = acted_settled p n kin s w covered sent timer k (due_at p n kin.lost s covered sent timer) plan ev fit refl
act_as_settled p n kin s w k Closed plan ev fit = subst (WaveIsSettled p n kin.lost s) (sym ev) tt

pub act_settled : (p : Plan) (n : ℕ) (kin : Kin) (s w : ℕ) (k : Effects) → HasPlanFacts p → WaveFits p s (k.book s w) → WaveIsSettled p n kin.lost s ((act p n kin s w k).book s w)
act_settled p n kin s w k plan fit = act_as_settled p n kin s w k (k.book s w) plan refl fit

-- an act leaves the other waves
pub set_wave_else : (x : Book) (s w : ℕ) (v : Wave) (a b : ℕ) → ((a == s) && (b == w)) ≡ false → set_wave x s w v a b ≡ x a b
set_wave_else x s w v a b e =
    cond_both (a == s) (put_at (x s) w v) (x a) (λ f. f b ≡ x a b)
    (λ t. cond_both (b == w) v (x s b) (λ y. y ≡ x a b)
    (λ u. absurd (true≢false (sym (and_from _ _ t u) ∙ e)))
    (λ u. ap (λ i. x i b) (sym (eqb-true a s t))))
    (λ t. refl)

pub acted_else : (p : Plan) (kin : Kin) (s w : ℕ) (covered sent : Ranks) (timer : Timer) (k : Effects) (act' : Act) (a b : ℕ) → ((a == s) && (b == w)) ≡ false → (acted p kin s w covered sent timer k act').book a b ≡ k.book a b
unfolding acted
acted_else p kin s w covered sent timer k Hold a b e = refl
acted_else p kin s w covered sent timer k Arm a b e = set_wave_else k.book s w _ a b e
acted_else p kin s w covered sent timer k Send a b e = set_wave_else k.book s w _ a b e
acted_else p kin s w covered sent timer k Partial a b e = set_wave_else k.book s w _ a b e
acted_else p kin s w covered sent timer k Final a b e = set_wave_else k.book s w _ a b e

act_as_else : (p : Plan) (n : ℕ) (kin : Kin) (s w : ℕ) (k : Effects) (v : Wave) (a b : ℕ) → ((a == s) && (b == w)) ≡ false → (act_as p n kin s w k v).book a b ≡ k.book a b
act_as_else p n kin s w k (Open covered sent timer) a b e = acted_else p kin s w covered sent timer k (due_at p n kin.lost s covered sent timer) a b e
act_as_else p n kin s w k Closed a b e = refl

pub act_else : (p : Plan) (n : ℕ) (kin : Kin) (s w : ℕ) (k : Effects) (a b : ℕ) → ((a == s) && (b == w)) ≡ false → (act p n kin s w k).book a b ≡ k.book a b
act_else p n kin s w k a b e = act_as_else p n kin s w k (k.book s w) a b e

-- after acts nothing is due for their waves, and the others are unchanged
pub act_each_settled : (p : Plan) (n : ℕ) (kin : Kin) (vs : List (ℕ × ℕ)) (k : Effects) (s w : ℕ) → HasPlanFacts p → WaveFits p s (k.book s w) → In (s, w) vs ⊎ WaveIsSettled p n kin.lost s (k.book s w) → WaveIsSettled p n kin.lost s ((act_each p n kin vs k).book s w)
act_each_settled p n kin [] k s w plan fit (inl i) = absurd i
act_each_settled p n kin [] k s w plan fit (inr h) = h
act_each_settled p n kin (v ∷ vs) k s w plan fit h =
    act_each_settled p n kin vs (act p n kin v.0 v.1 k) s w plan (here.0) (here.1)
  where
    k' : Effects
    k' = act p n kin v.0 v.1 k

    done : v.0 ≡ s → v.1 ≡ w → WaveIsSettled p n kin.lost s (k'.book s w)
    done ea eb = subst (λ a. WaveIsSettled p n kin.lost s ((act p n kin a v.1 k).book s w)) (sym ea) (subst (λ b. WaveIsSettled p n kin.lost s ((act p n kin s b k).book s w)) (sym eb) (act_settled p n kin s w k plan fit))

    here : WaveFits p s (k'.book s w) × (In (s, w) vs ⊎ WaveIsSettled p n kin.lost s (k'.book s w))
    here = elim (cases_Bool ((s == v.0) && (w == v.1))) [
      | inl t ↦
          let u = and_parts (s == v.0) (w == v.1) t in
          let c = done (sym (eqb-true s v.0 u.0)) (sym (eqb-true w v.1 u.1)) in
          (fits_from_settled p n kin.lost s _ c, inr c)
      | inr f ↦
          let e = act_else p n kin v.0 v.1 k s w f in (
            subst (WaveFits p s) (sym e) fit,
            elim h [
              | inl i ↦ elim i [ inl j ↦ absurd (true≢false (sym (and_from _ _ (eq-eqb s v.0 (ap (λ y. y.0) j)) (eq-eqb w v.1 (ap (λ y. y.1) j))) ∙ f)) | inr j ↦ inl j ]
              | inr c ↦ inr (subst (WaveIsSettled p n kin.lost s) (sym e) c)
            ],
          )
    ]

-- a coverage that has grown stays so
grown_stays : (covered sent set : Ranks) → IsSubset sent covered → covered ≢ sent → union covered set ≢ sent
grown_stays covered sent set sub ne e = ne (same_from_members covered sent (λ r i. subst (λ l. Has r l) e (union_left r covered set i)) sub)

growing_fits : (p : Plan) (n s : ℕ) (set : Ranks) (v : Wave) → WaveIsSound p n s v → WaveFits p s v → WaveFits p s (growing set v)
growing_fits p n s set (Open covered sent Off) h f = tt
growing_fits p n s set (Open covered sent (Running t)) h f = (f.0, f.1, grown_stays covered sent set h.within f.2)
growing_fits p n s set (Open covered sent Fired) h f = (f.0, grown_stays covered sent set h.within f.1)
growing_fits p n s set Closed h f = tt

both_empty : (covered sent : Ranks) → is_empty covered ≡ true → IsSubset sent covered → covered ≡ sent
both_empty covered sent e h = empty_true covered e ∙ sym (none_from_subset sent (subst (IsSubset sent) (empty_true covered e) h))

covering_fits : (p : Plan) (n s : ℕ) (set : Ranks) (v : Wave) → is_empty_open v ≡ true → WaveIsSound p n s v → WaveFits p s v → WaveFits p s (covering set v)
covering_fits p n s set (Open covered sent Off) e h f = tt
covering_fits p n s set (Open covered sent (Running t)) e h f = absurd (f.2 (both_empty covered sent e h.within))
covering_fits p n s set (Open covered sent Fired) e h f = absurd (f.1 (both_empty covered sent e h.within))
covering_fits p n s set Closed e h f = tt

-- one wave is changed and acted on
one_settled : (p : Plan) (n : ℕ) (kin : Kin) (book : Book) (s w : ℕ) (v : Wave) → HasPlanFacts p → ((a b : ℕ) → In (a, b) (waves_at p n) → WaveIsSettled p n kin.lost a (book a b)) → (In (s, w) (waves_at p n) → WaveFits p s v) → (a b : ℕ) → In (a, b) (waves_at p n) → WaveIsSettled p n kin.lost a ((act p n kin s w (begin (set_wave book s w v))).book a b)
one_settled p n kin book s w v plan h fit a b i = elim (cases_Bool ((a == s) && (b == w))) [
  | inl t ↦
      let u = and_parts (a == s) (b == w) t in
      let ea : a ≡ s = eqb-true a s u.0 in
      let eb : b ≡ w = eqb-true b w u.1 in
      let i' : In (s, w) (waves_at p n) = subst (λ y. In (y, w) (waves_at p n)) ea (subst (λ y. In (a, y) (waves_at p n)) eb i) in
      subst (λ y. WaveIsSettled p n kin.lost y ((act p n kin s w (begin (set_wave book s w v))).book y b)) (sym ea) (subst (λ y. WaveIsSettled p n kin.lost s ((act p n kin s w (begin (set_wave book s w v))).book s y)) (sym eb)
      (act_settled p n kin s w (begin (set_wave book s w v)) plan (subst (WaveFits p s) (sym (set_wave_here book s w v)) (fit i'))))
  | inr f ↦ subst (WaveIsSettled p n kin.lost a) (sym (act_else p n kin s w (begin (set_wave book s w v)) a b f ∙ set_wave_else book s w v a b f)) (h a b i)
]

sampled_settled : (p : Plan) (n : ℕ) (x : Node) (s w : ℕ) → HasPlanFacts p → BookIsSound p n x.book → NodeIsSettled p n x → is_empty_open (x.book s w) ≡ true → NodeIsSettled p n (next_node x (sampled p n x s w))
unfolding sampled
sampled_settled p n x s w plan hb h e = one_settled p n x.kin x.book s w _ plan h (λ i. covering_fits p n s (ranks p n) (x.book s w) e (hb s w) (fits_from_settled p n x.kin.lost s (x.book s w) (h s w i)))

up_settled : (p : Plan) (n : ℕ) (x : Node) (s w : ℕ) (set : Ranks) → HasPlanFacts p → BookIsSound p n x.book → NodeIsSettled p n x → NodeIsSettled p n (next_node x (received_up p n x s w set))
unfolding received_up
up_settled p n x s w set plan hb h = one_settled p n x.kin x.book s w _ plan h (λ i. growing_fits p n s set (x.book s w) (hb s w) (fits_from_settled p n x.kin.lost s (x.book s w) (h s w i)))

done_settled : (p : Plan) (n : ℕ) (x : Node) (s w : ℕ) → NodeIsSettled p n x → NodeIsSettled p n (next_node x (received_done p n x s w))
unfolding received_done
done_settled p n x s w h a b i = go (x.book s w)
  where
    go : (v : Wave) → WaveIsSettled p n x.kin.lost a ((done_work p x.kin s w x.book v).book a b)
    go Closed = h a b i
    go (Open covered sent timer) = each_wave_set (λ a b y. In (a, b) (waves_at p n) → WaveIsSettled p n x.kin.lost a y) x.book s w Closed h (λ j. tt) a b i

attach_settled : (p : Plan) (n : ℕ) (x : Node) (m : ℕ) → NodeIsSettled p n x → NodeIsSettled p n (next_node x (received_attach p n x m))
unfolding received_attach
attach_settled p n x m h = h

unsent_fits : (p : Plan) (s : ℕ) (v : Wave) → WaveFits p s (unsent v)
unsent_fits p s (Open covered sent timer) = tt
unsent_fits p s Closed = tt

down_settled : (p : Plan) (n : ℕ) (x : Node) (m : ℕ) → HasPlanFacts p → NodeIsSettled p n x → NodeIsSettled p n (next_node x (received_down p n x m))
unfolding received_down
down_settled p n x m plan h =
    cond_both (is_parent x.kin.parent m) _ _ (λ o. NodeIsSettled p n (next_node x o))
    (λ e s w i. act_each_settled p n (with_parent p n x.kin m) (waves_at p n) _ s w plan (unsent_fits p s (x.book s w)) (inl i))
    (λ e s w i. act_each_settled p n (without_child x.kin m) (waves_at p n) (begin x.book) s w plan (fits_from_settled p n x.kin.lost s (x.book s w) (h s w i)) (inl i))

ticked_fits : (p : Plan) (n : ℕ) (lost : List ℕ) (s : ℕ) (v : Wave) → WaveIsSettled p n lost s v → WaveFits p s (ticked v)
ticked_fits p n lost s (Open covered sent Off) h = tt
ticked_fits p n lost s (Open covered sent (Running zero)) h = (let a = h.1.0 in let b = h.1.1 in omega arith, h.1.2)
ticked_fits p n lost s (Open covered sent (Running (suc zero))) h = (h.1.1, h.1.2)
ticked_fits p n lost s (Open covered sent (Running (suc (suc t)))) h = (omega arith, (let b = h.1.1 in omega arith), h.1.2)
ticked_fits p n lost s (Open covered sent Fired) h = absurd h.1
ticked_fits p n lost s Closed h = tt

ticked_settled : (p : Plan) (n : ℕ) (lost : List ℕ) (s : ℕ) (v : Wave) → WaveIsSettled p n lost s v → is_fired (ticked v) ≡ false → WaveIsSettled p n lost s (ticked v)
unfolding due_at
ticked_settled p n lost s (Open covered sent Off) h e = h
ticked_settled p n lost s (Open covered sent (Running zero)) h e = absurd (true≢false e)
ticked_settled p n lost s (Open covered sent (Running (suc zero))) h e = absurd (true≢false e)
ticked_settled p n lost s (Open covered sent (Running (suc (suc t)))) h e = (running_same (mode p s) _ _ _ (suc t) (suc (suc t)) ∙ h.0, (omega arith, (let b = h.1.1 in omega arith), h.1.2))
ticked_settled p n lost s (Open covered sent Fired) h e = absurd h.1
ticked_settled p n lost s Closed h e = tt

tick_settled : (p : Plan) (n : ℕ) (x : Node) → HasPlanFacts p → NodeIsSettled p n x → NodeIsSettled p n (next_node x (after_tick p n x))
unfolding after_tick
tick_settled p n x plan h s w i =
    act_each_settled p n x.kin (filter (λ v. is_fired (ticked (x.book v.0 v.1))) (waves_at p n)) (begin (λ s w. ticked (x.book s w))) s w plan (ticked_fits p n x.kin.lost s (x.book s w) (h s w i))
    (elim (cases_Bool (is_fired (ticked (x.book s w)))) [
      | inl t ↦ inl (in_filter (λ v. is_fired (ticked (x.book v.0 v.1))) (s, w) (waves_at p n) i t)
      | inr f ↦ inr (ticked_settled p n x.kin.lost s (x.book s w) (h s w i) f)
    ])

received_settled : (p : Plan) (n : ℕ) (x : Node) (m : ℕ) (q : Packet) → HasPlanFacts p → BookIsSound p n x.book → NodeIsSettled p n x → NodeIsSettled p n (next_node x (received p n x m q))
received_settled p n x m (Up s w set) plan hb h = up_settled p n x s w set plan hb h
received_settled p n x m (Done s w) plan hb h = done_settled p n x s w h
received_settled p n x m Attach plan hb h = attach_settled p n x m h
received_settled p n x m Down plan hb h = down_settled p n x m plan h

commit_settled : (p : Plan) (st : State) (n : ℕ) (o : Outcome) → NodesAreSettled p st → NodeIsSettled p n (next_node (st.node n) o) → NodesAreSettled p (commit st n o)
unfolding commit
commit_settled p st n o h here = commit_node (λ a x. st.alive a ≡ true → NodeIsSettled p a x) st n o (λ u. here) h

receive_settled : (p : Plan) (st : State) (n m : ℕ) (qs : List Packet) → HasPlanFacts p → LinkInvariant p st → NodesAreSettled p st → st.alive n ≡ true → NodesAreSettled p (receive p st n m qs)
unfolding with_link
receive_settled p st n m [] plan hs h u = h
receive_settled p st n m (q ∷ qs) plan hs h u = commit_settled p (with_link st m n qs) n _ h (received_settled p n (st.node n) m q plan (hs.books n) (h n u))

pub step_settled : (p : Plan) (st : State) (e : Event) → HasPlanFacts p → LinkInvariant p st → NodesAreSettled p st → is_enabled p st e ≡ true → NodesAreSettled p (step p st e)
unfolding is_active lose
step_settled p st (Sample n s w) plan hs h e =
    let t = and_parts _ _ e in
    let u = (and_parts _ _ (and_parts _ _ t.0).0).0 in
    commit_settled p st n _ h (sampled_settled p n (st.node n) s w plan (hs.books n) (h n u) (next_is_empty p (st.node n) s w t.1))
step_settled p st (Recv n m) plan hs h e = receive_settled p st n m (st.link m n) plan hs h (and_parts _ _ (and_parts _ _ e).0).0
step_settled p st (Tick n) plan hs h e = commit_settled p st n _ h (tick_settled p n (st.node n) plan (h n (and_parts _ _ (and_parts _ _ e).0).0))
step_settled p st (Lose n) plan hs h e = λ a u. h a (was_alive st.alive n a u).0

-- at the start
held_at_start : (m : Mode) (done top : Bool) → (done ≡ true → top ≡ true → ⊥) → due_act m done false top Off ≡ Hold
held_at_start m true true h = absurd (h refl refl)
held_at_start m true false h = refl
held_at_start WaitForAll false top h = refl
held_at_start DontWait false top h = refl
held_at_start (TimeOut j) false top h = refl

pub start_settled : (p : Plan) → HasPlanFacts p → NodesAreSettled p (start p)
unfolding start due_at waves_at serves complete
start_settled p plan n u s w i = (held_at_start (mode p s) (complete p n [] s none) (is_front p n) (λ e f. nothing e), tt)
  where
    nothing : complete p n [] s none ≡ true → ⊥
    nothing e =
        let v = in_from_filter (λ v. serves p n v.0) (s, w) (waves_of p.streams) i in
        let r = in_from_any (λ d. is_within p d n) (daemons p s) v.1 in
        let t = list_all_in (λ d. not (is_within p d n) || is_subset (ranks p d) none || member d []) (daemons p s) r.0 e r.1.0 in
        elim (or_cases (not (is_within p r.0 n) || is_subset (ranks p r.0) none) (member r.0 []) t) [
          | inl a ↦ elim (or_cases (not (is_within p r.0 n)) (is_subset (ranks p r.0) none) a) [
            | inl b ↦ true≢false (sym b ∙ not_from_true _ r.1.1)
            | inr b ↦ plan.daemon_ranks r.0 s r.1.0 (none_from_subset (ranks p r.0) (subset_from_test (ranks p r.0) none b))
          ]
          | inr a ↦ true≢false (sym a)
        ]
