-- Releases over each event.
use Rattle.rank_set.specs.Ranks.{Ranks, none, is_subset}
use Rattle.std.proofs.Common.{◌≡◌, ◌≢◌, ◌⊎◌, inl, inr, ℕ, Bool, true, false, not, ◌||◌, ◌&&◌, ◌==◌, List, [], ◌∷◌, ◌++◌, filter, refl, sym, ap, subst, ◌∙◌, eqb-true, eq-eqb, Option, Some, None, append-nil, append_assoc}
use Rattle.std.proofs.lemmas.Bool.{cond_both, cond-true, cond-false, and_parts, and_from, cases_Bool, eqb-false, true≢false, or_cases, not_from_true}
use Rattle.std.proofs.lemmas.List.Elements.{filter-append}
use Rattle.overlay_setup.specs.NodeSets.{In, member}
use Rattle.stat_plan.specs.Machine.Waves.{put_at, Wave, Open, Closed, Book, set_wave, is_open, is_closed, is_fired, sent_of, covering, growing, ticked, unsent, is_empty_open}
use Rattle.stat_plan.specs.Plans.{Plan, IsUnder, ancestors, serves, mode, is_front, front, daemons, ranks, is_within, waves_at, waves_of}
use Rattle.stat_plan.specs.Machine.Due.{due_act}
use Rattle.overlay_core.specs.Nodes.{Packet, Up, Done, Attach, Down, Node, Effects, Outcome, Release, begin, due_at, dones, acted, act_as, act, act_each, done_work, sampled, after_tick, received_up, received_done, received_attach, received_down, received}
use Rattle.stat_plan.specs.Machine.Overlays.{to_parent}
use Rattle.stat_plan.specs.Machine.Kin.{Kin, complete, is_parent, without_child, with_parent}
use Rattle.overlay_core.specs.Machine.{State, start, step, commit, with_link, lose, receive, is_enabled, net_of}
use Rattle.stat_plan.proofs.PlanFacts.{HasPlanFacts}
use Rattle.overlay_core.specs.LinkInvariant.{LinkInvariant, WaveIsSound, BookIsSound, OpenIsSound}
use Rattle.stat_plan.specs.Machine.LossInvariant.{KinIsSound}
use Rattle.overlay_core.proofs.Acts.{PacketIsSound, IsSubsetOf, each_wave_set, WorkIsSound, act_sound}
use Rattle.overlay_core.specs.History.{of_wave, ByKind, MissesOnlyLost, IsHistory, HistoryIsSound}
use Rattle.overlay_core.specs.declared.release.Kind.{Kind}
use Rattle.overlay_core.specs.declared.release.Kind.TheVariants.{Partial as PartialRelease, Final as FinalRelease}
use Rattle.overlay_setup.specs.declared.script.Mode.{Mode}
use Rattle.overlay_setup.specs.declared.script.Mode.TheVariants.{WaitForAll, TimeOut, DontWait}
use Rattle.stat_plan.specs.declared.machine.Timer.{Timer}
use Rattle.stat_plan.specs.declared.machine.Timer.TheVariants.{Off, Running, Fired}
use Rattle.stat_plan.specs.declared.machine.Act.{Act}
use Rattle.stat_plan.specs.declared.machine.Act.TheVariants.{Hold, Arm, Send, Partial, Final}
use Rattle.overlay_event.specs.declared.event.Event.{Event}
use Rattle.overlay_event.specs.declared.event.Event.TheVariants.{Sample, Recv, Tick, Lose}
use Rattle.stat_plan.proofs.InLists.{in_from_filter, list_all_in, in_from_member, in_append, in_map_filter}
use Rattle.overlay_core.proofs.RankSets.{subset_from_test}
use Rattle.overlay_core.proofs.Outcomes.{next_is_named, waves_at_named, kin_fits, begin_sound, next_is_empty, covering_sound, growing_sound, ticked_sound, received_sound}
use Rattle.overlay_core.proofs.Steps.{first_sound}
use Rattle.overlay_core.proofs.ParentLinks.{set_wave_here, test_from_within, BookGrows, covering_grows, growing_grows, ticking_grows, OutcomeLinks, sampled_links, tick_links, received_links, front_top_of}
use Rattle.overlay_core.proofs.Settled.{set_wave_else, ne_from_grown}
use Rattle.overlay_core.proofs.Commits.{commit_link}
use Rattle.stat_plan.proofs.Overlays.{still_dead, lost_in, popped_in}
use Rattle.overlay_core.proofs.ParentChild.{node_here, node_else}

-- a history looks at its wave for what was sent and for whether it is open
history_like : (p : Plan) (alive : ℕ → Bool) (s : ℕ) (last : Ranks) (rs : List Release) (v v' : Wave) → is_open v' ≡ is_open v → sent_of v' ≡ sent_of v → IsHistory p alive s last rs v → IsHistory p alive s last rs v'
history_like p alive s last [] (Open covered sent timer) (Open covered' sent' timer') eo es h = es ∙ h
history_like p alive s last [] (Open covered sent timer) Closed eo es h = absurd (true≢false (sym eo))
history_like p alive s last [] Closed v' eo es h = absurd h
history_like p alive s last (r ∷ rs) v v' eo es h = (h.0, go r.kind (history_like p alive s r.covered rs v v' eo es) h.1)
  where
    go : (k : Kind) → (IsHistory p alive s r.covered rs v → IsHistory p alive s r.covered rs v')
        → ByKind k ((last ≢ r.covered) × IsHistory p alive s r.covered rs v) (MissesOnlyLost p alive s r.covered r.lost × (rs ≡ []) × (is_open v ≡ false))
        → ByKind k ((last ≢ r.covered) × IsHistory p alive s r.covered rs v') (MissesOnlyLost p alive s r.covered r.lost × (rs ≡ []) × (is_open v' ≡ false))
    go PartialRelease ih x = (x.0, ih x.1)
    go FinalRelease ih x = (x.0, x.1, eo ∙ x.2)

history_later : (p : Plan) (alive later : ℕ → Bool) (s : ℕ) (last : Ranks) (rs : List Release) (v : Wave) → ((a : ℕ) → alive a ≡ false → later a ≡ false) → IsHistory p alive s last rs v → IsHistory p later s last rs v
history_later p alive later s last [] (Open covered sent timer) f h = h
history_later p alive later s last [] Closed f h = h
history_later p alive later s last (r ∷ rs) v f h = (h.0, go r.kind (history_later p alive later s r.covered rs v f) h.1)
  where
    go : (k : Kind) → (IsHistory p alive s r.covered rs v → IsHistory p later s r.covered rs v)
        → ByKind k ((last ≢ r.covered) × IsHistory p alive s r.covered rs v) (MissesOnlyLost p alive s r.covered r.lost × (rs ≡ []) × (is_open v ≡ false))
        → ByKind k ((last ≢ r.covered) × IsHistory p later s r.covered rs v) (MissesOnlyLost p later s r.covered r.lost × (rs ≡ []) × (is_open v ≡ false))
    go PartialRelease ih x = (x.0, ih x.1)
    go FinalRelease ih x = (record { each = x.0.each; dead = λ m i. f m (x.0.dead m i) }, x.1, x.2)

-- one release more, of a wave that is open
history_more : (p : Plan) (alive : ℕ → Bool) (s : ℕ) (last : Ranks) (rs : List Release) (covered sent : Ranks) (t : Timer) (y : Release) (v : Wave) → IsHistory p alive s last rs (Open covered sent t) → IsHistory p alive s sent (y ∷ []) v → IsHistory p alive s last (rs ++ y ∷ []) v
history_more p alive s last [] covered sent t y v h hy = subst (λ l. IsHistory p alive s l (y ∷ []) v) h hy
history_more p alive s last (r ∷ rs) covered sent t y v h hy = (h.0, go r.kind (λ k. history_more p alive s r.covered rs covered sent t y v k hy) h.1)
  where
    go : (k : Kind) → (IsHistory p alive s r.covered rs (Open covered sent t) → IsHistory p alive s r.covered (rs ++ y ∷ []) v)
        → ByKind k ((last ≢ r.covered) × IsHistory p alive s r.covered rs (Open covered sent t)) (MissesOnlyLost p alive s r.covered r.lost × (rs ≡ []) × (is_open (Open covered sent t) ≡ false))
        → ByKind k ((last ≢ r.covered) × IsHistory p alive s r.covered (rs ++ y ∷ []) v) (MissesOnlyLost p alive s r.covered r.lost × ((rs ++ y ∷ []) ≡ []) × (is_open v ≡ false))
    go PartialRelease ih x = (x.0, ih x.1)
    go FinalRelease ih x = absurd (true≢false x.2)

abbrev WorkIsLogged : Plan → (ℕ → Bool) → List Release → Effects → Type 0
WorkIsLogged p alive old k = (s w : ℕ) → IsHistory p alive s none (of_wave s w (old ++ k.releases)) (k.book s w)

of_wave_here : (s w : ℕ) (rs : List Release) (r : Release) → r.stream ≡ s → r.wave ≡ w → of_wave s w (rs ++ r ∷ []) ≡ of_wave s w rs ++ r ∷ []
of_wave_here s w rs r es ew =
    filter-append (λ r. (r.stream == s) && (r.wave == w)) rs (r ∷ []) ∙ ap (λ l. of_wave s w rs ++ l) (cond-true ((r.stream == s) && (r.wave == w)) (r ∷ []) [] (and_from _ _ (eq-eqb r.stream s es) (eq-eqb r.wave w ew)))

of_wave_else : (a b : ℕ) (rs : List Release) (r : Release) → ((r.stream == a) && (r.wave == b)) ≡ false → of_wave a b (rs ++ r ∷ []) ≡ of_wave a b rs
of_wave_else a b rs r e =
    filter-append (λ r. (r.stream == a) && (r.wave == b)) rs (r ∷ []) ∙ ap (λ l. of_wave a b rs ++ l) (cond-false ((r.stream == a) && (r.wave == b)) (r ∷ []) [] e) ∙ append-nil (of_wave a b rs)

swap_test : (a b s w : ℕ) → ((a == s) && (b == w)) ≡ false → ((s == a) && (w == b)) ≡ false
swap_test a b s w e = elim (cases_Bool ((s == a) && (w == b))) [
  | inl t ↦ let u = and_parts (s == a) (w == b) t in absurd (true≢false (sym (and_from _ _ (eq-eqb a s (sym (eqb-true s a u.0))) (eq-eqb b w (sym (eqb-true w b u.1)))) ∙ e))
  | inr f ↦ f
]

-- a release of one wave, after which it stands as v
one_logged : (p : Plan) (alive : ℕ → Bool) (old : List Release) (k : Effects) (s w : ℕ) (covered sent : Ranks) (t : Timer) (r : Release) (v : Wave) → WorkIsLogged p alive old k → k.book s w ≡ Open covered sent t → r.stream ≡ s → r.wave ≡ w → IsHistory p alive s sent (r ∷ []) v → (a b : ℕ) → IsHistory p alive a none (of_wave a b (old ++ (k.releases ++ r ∷ []))) (set_wave k.book s w v a b)
one_logged p alive old k s w covered sent t r v h ev es ew hr a b =
    subst (λ l. IsHistory p alive a none (of_wave a b l) (set_wave k.book s w v a b)) (append_assoc old k.releases (r ∷ []))
    (elim (cases_Bool ((a == s) && (b == w))) [
      | inl u ↦
          let ea : a ≡ s = eqb-true a s (and_parts (a == s) (b == w) u).0 in
          let eb : b ≡ w = eqb-true b w (and_parts (a == s) (b == w) u).1 in
          subst (λ x. IsHistory p alive x none (of_wave x b ((old ++ k.releases) ++ r ∷ [])) (set_wave k.book s w v x b)) (sym ea)
          (subst (λ y. IsHistory p alive s none (of_wave s y ((old ++ k.releases) ++ r ∷ [])) (set_wave k.book s w v s y)) (sym eb)
          (subst (λ l. IsHistory p alive s none l (set_wave k.book s w v s w)) (sym (of_wave_here s w (old ++ k.releases) r es ew))
          (subst (IsHistory p alive s none (of_wave s w (old ++ k.releases) ++ r ∷ [])) (sym (set_wave_here k.book s w v))
          (history_more p alive s none (of_wave s w (old ++ k.releases)) covered sent t r v (subst (IsHistory p alive s none (of_wave s w (old ++ k.releases))) ev (h s w)) hr))))
      | inr f ↦
          subst (IsHistory p alive a none (of_wave a b ((old ++ k.releases) ++ r ∷ []))) (sym (set_wave_else k.book s w v a b f))
          (subst (λ l. IsHistory p alive a none l (k.book a b)) (sym (of_wave_else a b (old ++ k.releases) r (subst (λ x. ((x == a) && (r.wave == b)) ≡ false) (sym es) (subst (λ y. ((s == a) && (y == b)) ≡ false) (sym ew) (swap_test a b s w f))))) (h a b))
    ])

-- what the acts of the front end say
partial_grown : (m : Mode) (done grown top : Bool) (t : Timer) → due_act m done grown top t ≡ Partial → grown ≡ true
partial_grown m done true top t e = refl
partial_grown m true false true t e = absurd (cc)
partial_grown m true false false t e = absurd (cc)
partial_grown WaitForAll false false top t e = absurd (cc)
partial_grown DontWait false false top t e = absurd (cc)
partial_grown (TimeOut k) false false top Off e = absurd (cc)
partial_grown (TimeOut k) false false top (Running j) e = absurd (cc)
partial_grown (TimeOut k) false false top Fired e = absurd (cc)

send_below : (m : Mode) (done grown top : Bool) (t : Timer) → due_act m done grown top t ≡ Send → top ≡ false
send_below m done grown false t e = refl
send_below m true grown true t e = absurd (cc)
send_below WaitForAll false grown true t e = absurd (cc)
send_below DontWait false true true t e = absurd (cc)
send_below DontWait false false true t e = absurd (cc)
send_below (TimeOut k) false true true Off e = absurd (cc)
send_below (TimeOut k) false true true (Running j) e = absurd (cc)
send_below (TimeOut k) false true true Fired e = absurd (cc)
send_below (TimeOut k) false false true Off e = absurd (cc)
send_below (TimeOut k) false false true (Running j) e = absurd (cc)
send_below (TimeOut k) false false true Fired e = absurd (cc)

pub final_says : (m : Mode) (done grown top : Bool) (t : Timer) → due_act m done grown top t ≡ Final → (done ≡ true) × (top ≡ true)
final_says m true grown true t e = (refl, refl)
final_says m true true false t e = absurd (cc)
final_says m true false false t e = absurd (cc)
final_says WaitForAll false grown top t e = absurd (cc)
final_says DontWait false true true t e = absurd (cc)
final_says DontWait false true false t e = absurd (cc)
final_says DontWait false false top t e = absurd (cc)
final_says (TimeOut k) false true top Off e = absurd (cc)
final_says (TimeOut k) false false top Off e = absurd (cc)
final_says (TimeOut k) false grown top (Running j) e = absurd (cc)
final_says (TimeOut k) false true true Fired e = absurd (cc)
final_says (TimeOut k) false true false Fired e = absurd (cc)
final_says (TimeOut k) false false top Fired e = absurd (cc)

misses_only_lost : (p : Plan) (alive : ℕ → Bool) (n : ℕ) (kin : Kin) (s : ℕ) (covered : Ranks) → HasPlanFacts p → is_front p n ≡ true → KinIsSound p alive n kin → complete p n kin.lost s covered ≡ true → MissesOnlyLost p alive s covered kin.lost
unfolding complete is_front
misses_only_lost p alive n kin s covered plan top hk e = record {
  each = λ d i.
      let t = list_all_in (λ d. not (is_within p d n) || is_subset (ranks p d) covered || member d kin.lost) (daemons p s) d e i in
      let en : n ≡ front p = eqb-true n (front p) top in
      let u : is_within p d n ≡ true = test_from_within p d n (subst (λ a. (d ≡ a) ⊎ IsUnder p d a) (sym en) (plan.daemon_place d s i)) in
      elim (or_cases (not (is_within p d n) || is_subset (ranks p d) covered) (member d kin.lost) t) [
        | inl a ↦ elim (or_cases (not (is_within p d n)) (is_subset (ranks p d) covered) a) [ inl b ↦ absurd (true≢false (sym b ∙ not_from_true _ u)) | inr b ↦ inl (subset_from_test (ranks p d) covered b) ]
        | inr a ↦ inr (in_from_member d kin.lost a)
      ];
  dead = hk.lost;
}

acted_logged : (p : Plan) (alive : ℕ → Bool) (n : ℕ) (kin : Kin) (old : List Release) (s w : ℕ) (covered sent : Ranks) (timer : Timer) (k : Effects) (a : Act) → HasPlanFacts p → is_front p n ≡ true → KinIsSound p alive n kin → OpenIsSound p n s covered sent → k.book s w ≡ Open covered sent timer → WorkIsLogged p alive old k → due_at p n kin.lost s covered sent timer ≡ a → WorkIsLogged p alive old (acted p kin s w covered sent timer k a)
unfolding acted due_at
acted_logged p alive n kin old s w covered sent timer k Hold plan top hk ho ev h e = h
acted_logged p alive n kin old s w covered sent timer k Arm plan top hk ho ev h e =
    each_wave_set (λ a b v. IsHistory p alive a none (of_wave a b (old ++ k.releases)) v) k.book s w _ h
    (history_like p alive s none (of_wave s w (old ++ k.releases)) (Open covered sent timer) _ refl refl (subst (IsHistory p alive s none (of_wave s w (old ++ k.releases))) ev (h s w)))
acted_logged p alive n kin old s w covered sent timer k Send plan top hk ho ev h e = absurd (true≢false (sym top ∙ send_below (mode p s) _ _ _ timer e))
acted_logged p alive n kin old s w covered sent timer k Partial plan top hk ho ev h e =
    one_logged p alive old k s w covered sent timer _ _ h ev refl refl (ho.within, (λ i. ne_from_grown covered sent (partial_grown (mode p s) _ _ _ timer e) (sym i), refl))
acted_logged p alive n kin old s w covered sent timer k Final plan top hk ho ev h e =
    one_logged p alive old k s w covered sent timer _ _ h ev refl refl (ho.within, (misses_only_lost p alive n kin s covered plan top hk (final_says (mode p s) _ _ _ timer e).0, refl, refl))

act_as_logged : (p : Plan) (alive : ℕ → Bool) (n : ℕ) (kin : Kin) (old : List Release) (s w : ℕ) (k : Effects) (v : Wave) → HasPlanFacts p → is_front p n ≡ true → KinIsSound p alive n kin → WaveIsSound p n s v → k.book s w ≡ v → WorkIsLogged p alive old k → WorkIsLogged p alive old (act_as p n kin s w k v)
act_as_logged p alive n kin old s w k (Open covered sent timer) plan top hk hv ev h = acted_logged p alive n kin old s w covered sent timer k (due_at p n kin.lost s covered sent timer) plan top hk hv ev h refl
act_as_logged p alive n kin old s w k Closed plan top hk hv ev h = h

act_each_logged : (p : Plan) (alive : ℕ → Bool) (n : ℕ) (kin : Kin) (old : List Release) (vs : List (ℕ × ℕ)) (k : Effects) → IsSubsetOf vs (waves_of p.streams) → HasPlanFacts p → is_front p n ≡ true → KinIsSound p alive n kin → WorkIsSound p n k → WorkIsLogged p alive old k → WorkIsLogged p alive old (act_each p n kin vs k)
act_each_logged p alive n kin old [] k named plan top hk hw h = h
act_each_logged p alive n kin old (v ∷ vs) k named plan top hk hw h =
    act_each_logged p alive n kin old vs (act p n kin v.0 v.1 k) (λ x i. named x (inr i)) plan top hk (act_sound p n kin v.0 v.1 k (named v (inl refl)) (kin_fits p alive n kin hk) hw)
    (act_as_logged p alive n kin old v.0 v.1 k (k.book v.0 v.1) plan top hk (hw.book v.0 v.1) refl h)

-- acts elsewhere release nothing and close nothing
acted_below : (p : Plan) (kin : Kin) (s w : ℕ) (covered sent : Ranks) (timer : Timer) (k : Effects) (a : Act) → k.book s w ≡ Open covered sent timer → (a ≡ Partial → ⊥) → (a ≡ Final → ⊥) → ((acted p kin s w covered sent timer k a).releases ≡ k.releases) × ((x y : ℕ) → is_open ((acted p kin s w covered sent timer k a).book x y) ≡ is_open (k.book x y))
unfolding acted
acted_below p kin s w covered sent timer k Hold ev f g = (refl, λ x y. refl)
acted_below p kin s w covered sent timer k Arm ev f g = (refl, each_wave_set (λ x y v. is_open v ≡ is_open (k.book x y)) k.book s w _ (λ x y. refl) (sym (ap is_open ev)))
acted_below p kin s w covered sent timer k Send ev f g = (refl, each_wave_set (λ x y v. is_open v ≡ is_open (k.book x y)) k.book s w _ (λ x y. refl) (sym (ap is_open ev)))
acted_below p kin s w covered sent timer k Partial ev f g = absurd (f refl)
acted_below p kin s w covered sent timer k Final ev f g = absurd (g refl)

pub partial_top : (m : Mode) (done grown top : Bool) (t : Timer) → due_act m done grown top t ≡ Partial → top ≡ true
partial_top m done grown true t e = refl
partial_top m true true false t e = absurd (cc)
partial_top m true false false t e = absurd (cc)
partial_top WaitForAll false grown false t e = absurd (cc)
partial_top DontWait false true false t e = absurd (cc)
partial_top DontWait false false false t e = absurd (cc)
partial_top (TimeOut k) false true false Off e = absurd (cc)
partial_top (TimeOut k) false true false (Running j) e = absurd (cc)
partial_top (TimeOut k) false true false Fired e = absurd (cc)
partial_top (TimeOut k) false false false Off e = absurd (cc)
partial_top (TimeOut k) false false false (Running j) e = absurd (cc)
partial_top (TimeOut k) false false false Fired e = absurd (cc)

abbrev KeepsOpen : Effects → Effects → Type 0
KeepsOpen k k' = (k'.releases ≡ k.releases) × ((x y : ℕ) → is_open (k'.book x y) ≡ is_open (k.book x y))

act_as_below : (p : Plan) (n : ℕ) (kin : Kin) (s w : ℕ) (k : Effects) (v : Wave) → is_front p n ≡ false → k.book s w ≡ v → KeepsOpen k (act_as p n kin s w k v)
unfolding due_at
act_as_below p n kin s w k (Open covered sent timer) low ev =
    acted_below p kin s w covered sent timer k (due_at p n kin.lost s covered sent timer) ev
    (λ e. true≢false (sym (partial_top (mode p s) _ _ _ timer e) ∙ low))
    (λ e. true≢false (sym (final_says (mode p s) _ _ _ timer e).1 ∙ low))
act_as_below p n kin s w k Closed low ev = (refl, λ x y. refl)

pub act_each_below : (p : Plan) (n : ℕ) (kin : Kin) (vs : List (ℕ × ℕ)) (k : Effects) → is_front p n ≡ false → KeepsOpen k (act_each p n kin vs k)
act_each_below p n kin [] k low = (refl, λ x y. refl)
act_each_below p n kin (v ∷ vs) k low =
    let a = act_as_below p n kin v.0 v.1 k (k.book v.0 v.1) low refl in
    let b = act_each_below p n kin vs (act p n kin v.0 v.1 k) low in
    (b.0 ∙ a.0, λ x y. b.1 x y ∙ a.1 x y)

-- each Done that is sent is of a closed wave
abbrev DonesAreClosed : Effects → Type 0
DonesAreClosed k = (c s w : ℕ) → In (c, Done s w) k.sends → is_open (k.book s w) ≡ false

stays_closed : (book : Book) (s w : ℕ) (v : Wave) → is_open (book s w) ≡ true → (x y : ℕ) → is_open (book x y) ≡ false → is_open (set_wave book s w v x y) ≡ false
stays_closed book s w v o = each_wave_set (λ x y u. is_open (book x y) ≡ false → is_open u ≡ false) book s w v (λ x y e. e) (λ e. absurd (true≢false (sym o ∙ e)))

closed_here : (book : Book) (s w a b : ℕ) → a ≡ s → b ≡ w → is_open (set_wave book s w Closed a b) ≡ false
closed_here book s w a b ea eb = subst (λ x. is_open (set_wave book s w Closed x b) ≡ false) (sym ea) (subst (λ y. is_open (set_wave book s w Closed s y) ≡ false) (sym eb) (ap is_open (set_wave_here book s w Closed)))

dones_say : (p : Plan) (kin : Kin) (s w c a b : ℕ) → In (c, Done a b) (dones p kin s w) → (a ≡ s) × (b ≡ w)
unfolding dones
dones_say p kin s w c a b i =
    let r = in_map_filter (λ c. (c, Done s w)) (λ c. serves p c s) kin.children (c, Done a b) i in
    let e : Done a b ≡ Done s w = ap (λ v. v.1) r.3 in
    (cc, cc)

acted_dones : (p : Plan) (kin : Kin) (s w : ℕ) (covered sent : Ranks) (timer : Timer) (k : Effects) (a : Act) → k.book s w ≡ Open covered sent timer → DonesAreClosed k → DonesAreClosed (acted p kin s w covered sent timer k a)
unfolding acted
acted_dones p kin s w covered sent timer k Hold ev h = h
acted_dones p kin s w covered sent timer k Arm ev h = λ c x y i. stays_closed k.book s w _ (ap is_open ev) x y (h c x y i)
acted_dones p kin s w covered sent timer k Send ev h = λ c x y i. elim (in_append {X = ℕ × Packet} (c, Done x y) k.sends _ i) [
  | inl j ↦ stays_closed k.book s w _ (ap is_open ev) x y (h c x y j)
  | inr j ↦ absurd (no_done kin.parent c x y j)
]
  where
    no_done : (o : Option ℕ) (c x y : ℕ) → In (c, Done x y) (to_parent o (Up s w covered)) → ⊥
    no_done None c x y j = j
    no_done (Some m) c x y (inl e) = let q : Done x y ≡ Up s w covered = ap (λ v. v.1) e in cc
    no_done (Some m) c x y (inr j) = j
acted_dones p kin s w covered sent timer k Partial ev h = λ c x y i. stays_closed k.book s w _ (ap is_open ev) x y (h c x y i)
acted_dones p kin s w covered sent timer k Final ev h = λ c x y i. elim (in_append {X = ℕ × Packet} (c, Done x y) k.sends _ i) [
  | inl j ↦ stays_closed k.book s w _ (ap is_open ev) x y (h c x y j)
  | inr j ↦ let t = dones_say p kin s w c x y j in closed_here k.book s w x y t.0 t.1
]

act_as_dones : (p : Plan) (n : ℕ) (kin : Kin) (s w : ℕ) (k : Effects) (v : Wave) → k.book s w ≡ v → DonesAreClosed k → DonesAreClosed (act_as p n kin s w k v)
act_as_dones p n kin s w k (Open covered sent timer) ev h = acted_dones p kin s w covered sent timer k (due_at p n kin.lost s covered sent timer) ev h
act_as_dones p n kin s w k Closed ev h = h

act_each_dones : (p : Plan) (n : ℕ) (kin : Kin) (vs : List (ℕ × ℕ)) (k : Effects) → DonesAreClosed k → DonesAreClosed (act_each p n kin vs k)
act_each_dones p n kin [] k h = h
act_each_dones p n kin (v ∷ vs) k h = act_each_dones p n kin vs (act p n kin v.0 v.1 k) (act_as_dones p n kin v.0 v.1 k (k.book v.0 v.1) refl h)

-- what an event of n does to releases
pub record OutcomeIsLogged (p : Plan) (alive : ℕ → Bool) (n : ℕ) (x : Node) (taken : List (ℕ × Packet)) (o : Outcome) : Type 0 where
  pub quiet : is_front p n ≡ false → o.work.releases ≡ []
  pub closes : is_front p n ≡ false → (s w : ℕ) → is_open (o.work.book s w) ≡ false → is_open (x.book s w) ≡ false ⊎ ((m : ℕ) × In (m, Done s w) taken)
  pub dones : (c s w : ℕ) → In (c, Done s w) o.work.sends → is_open (o.work.book s w) ≡ false
  pub logged : is_front p n ≡ true → (old : List Release) → ((s w : ℕ) → IsHistory p alive s none (of_wave s w old) (x.book s w)) → WorkIsLogged p alive old o.work

begin_logged : (p : Plan) (alive : ℕ → Bool) (old : List Release) (x b : Book) → BookGrows x b → ((s w : ℕ) → IsHistory p alive s none (of_wave s w old) (x s w)) → WorkIsLogged p alive old (begin b)
begin_logged p alive old x b g h s w = subst (λ l. IsHistory p alive s none (of_wave s w l) (b s w)) (sym (append-nil old)) (history_like p alive s none (of_wave s w old) (x s w) (b s w) (g.opens s w) (g.sent s w) (h s w))

-- acts from a book that has grown
acts_logged : (p : Plan) (alive : ℕ → Bool) (n : ℕ) (x : Node) (taken : List (ℕ × Packet)) (kin : Kin) (b : Book) (vs : List (ℕ × ℕ)) → IsSubsetOf vs (waves_of p.streams) → HasPlanFacts p → KinIsSound p alive n kin → BookIsSound p n b → BookGrows x.book b → OutcomeIsLogged p alive n x taken (record { kin = kin; work = act_each p n kin vs (begin b) })
acts_logged p alive n x taken kin b vs named plan hk hb g = record {
  quiet = λ low. (act_each_below p n kin vs (begin b) low).0;
  closes = λ low s w e. inl (sym (g.opens s w) ∙ sym ((act_each_below p n kin vs (begin b) low).1 s w) ∙ e);
  dones = act_each_dones p n kin vs (begin b) (λ c s w i. absurd i);
  logged = λ top old h. act_each_logged p alive n kin old vs (begin b) named plan top hk (begin_sound p n b hb) (begin_logged p alive old x.book b g h);
}

same_book : (x : Book) → BookGrows x x
same_book x = record { opens = λ s w. refl; covered = λ s w r i. i; sent = λ s w. refl }

pub only_wave : (p : Plan) (s w : ℕ) → In (s, w) (waves_of p.streams) → IsSubsetOf ((s, w) ∷ []) (waves_of p.streams)
only_wave p s w named v (inl e) = subst (λ a. In a (waves_of p.streams)) (sym e) named
only_wave p s w named v (inr i) = absurd i

pub sampled_logged : (p : Plan) (alive : ℕ → Bool) (n : ℕ) (x : Node) (s w : ℕ) → In (s, w) (waves_of p.streams) → HasPlanFacts p → KinIsSound p alive n x.kin → BookIsSound p n (set_wave x.book s w (covering (ranks p n) (x.book s w))) → is_empty_open (x.book s w) ≡ true → OutcomeIsLogged p alive n x [] (sampled p n x s w)
unfolding sampled
sampled_logged p alive n x s w named plan hk hb e = acts_logged p alive n x [] x.kin _ ((s, w) ∷ []) (only_wave p s w named) plan hk hb (covering_grows x.book s w (ranks p n) e)

pub tick_logged : (p : Plan) (alive : ℕ → Bool) (n : ℕ) (x : Node) → HasPlanFacts p → KinIsSound p alive n x.kin → BookIsSound p n (λ s w. ticked (x.book s w)) → OutcomeIsLogged p alive n x [] (after_tick p n x)
unfolding after_tick
tick_logged p alive n x plan hk hb = acts_logged p alive n x [] x.kin _ (filter (λ v. is_fired (ticked (x.book v.0 v.1))) (waves_at p n)) (λ v i. waves_at_named p n v (in_from_filter (λ v. is_fired (ticked (x.book v.0 v.1))) v (waves_at p n) i).0) plan hk hb (ticking_grows x.book)

up_logged : (p : Plan) (alive : ℕ → Bool) (n : ℕ) (x : Node) (taken : List (ℕ × Packet)) (s w : ℕ) (set : Ranks) → In (s, w) (waves_of p.streams) → HasPlanFacts p → KinIsSound p alive n x.kin → BookIsSound p n (set_wave x.book s w (growing set (x.book s w))) → OutcomeIsLogged p alive n x taken (received_up p n x s w set)
unfolding received_up
up_logged p alive n x taken s w set named plan hk hb = acts_logged p alive n x taken x.kin _ ((s, w) ∷ []) (only_wave p s w named) plan hk hb (growing_grows x.book s w set)

done_logged : (p : Plan) (alive : ℕ → Bool) (n : ℕ) (x : Node) (m s w : ℕ) → is_front p n ≡ false → OutcomeIsLogged p alive n x ((m, Done s w) ∷ []) (received_done p n x s w)
unfolding received_done
done_logged p alive n x m s w low = record {
  quiet = λ e. silent (x.book s w);
  closes = λ e a b. closes (x.book s w) refl a b;
  dones = λ c a b. dones' (x.book s w) refl c a b;
  logged = λ top. absurd (true≢false (sym top ∙ low));
}
  where
    silent : (v : Wave) → (done_work p x.kin s w x.book v).releases ≡ []
    silent Closed = refl
    silent (Open covered sent t) = refl

    closes : (v : Wave) → x.book s w ≡ v → (a b : ℕ) → is_open ((done_work p x.kin s w x.book v).book a b) ≡ false → is_open (x.book a b) ≡ false ⊎ ((k : ℕ) × In {X = ℕ × Packet} (k, Done a b) ((m, Done s w) ∷ []))
    closes Closed ev = λ a b e. inl e
    closes (Open covered sent t) ev = each_wave_set (λ a b v. is_open v ≡ false → is_open (x.book a b) ≡ false ⊎ ((k : ℕ) × In {X = ℕ × Packet} (k, Done a b) ((m, Done s w) ∷ []))) x.book s w Closed (λ a b e. inl e) (λ e. inr (m, inl refl))

    dones' : (v : Wave) → x.book s w ≡ v → (c a b : ℕ) → In (c, Done a b) (done_work p x.kin s w x.book v).sends → is_open ((done_work p x.kin s w x.book v).book a b) ≡ false
    dones' Closed ev c a b i = absurd i
    dones' (Open covered sent t) ev c a b i = let t = dones_say p x.kin s w c a b i in closed_here x.book s w a b t.0 t.1

attach_logged : (p : Plan) (alive : ℕ → Bool) (n : ℕ) (x : Node) (taken : List (ℕ × Packet)) (m : ℕ) → OutcomeIsLogged p alive n x taken (received_attach p n x m)
unfolding received_attach
attach_logged p alive n x taken m = record {
  quiet = λ e. refl;
  closes = λ e s w f. inl f;
  dones = λ c s w i.
      let r = in_map_filter (λ v. (m, Done v.0 v.1)) (λ v. is_closed (x.book v.0 v.1) && serves p m v.0) (waves_at p n) (c, Done s w) i in
      let e : Done s w ≡ Done (r.0).0 (r.0).1 = ap (λ v. v.1) r.3 in
      let es : s ≡ (r.0).0 = cc in
      let ew : w ≡ (r.0).1 = cc in
      subst (λ a. is_open (x.book a w) ≡ false) (sym es) (subst (λ b. is_open (x.book (r.0).0 b) ≡ false) (sym ew) (closed_open (x.book (r.0).0 (r.0).1) (and_parts _ _ r.2).0));
  logged = λ top old h. begin_logged p alive old x.book x.book (same_book x.book) h;
}
  where
    closed_open : (v : Wave) → is_closed v ≡ true → is_open v ≡ false
    closed_open (Open covered sent t) e = absurd (true≢false (sym e))
    closed_open Closed e = refl

top_parent : (p : Plan) (alive : ℕ → Bool) (n : ℕ) (x : Node) (m : ℕ) → HasPlanFacts p → KinIsSound p alive n x.kin → is_front p n ≡ true → is_parent x.kin.parent m ≡ false
top_parent p alive n x m plan hk top = rw (front_top_of p alive n x.kin plan hk top) refl

unsent_open' : (v : Wave) → is_open (unsent v) ≡ is_open v
unsent_open' (Open covered sent t) = refl
unsent_open' Closed = refl

down_logged : (p : Plan) (alive : ℕ → Bool) (n : ℕ) (x : Node) (taken : List (ℕ × Packet)) (m : ℕ) → HasPlanFacts p → KinIsSound p alive n x.kin → KinIsSound p alive n (received_down p n x m).kin → BookIsSound p n x.book → OutcomeIsLogged p alive n x taken (received_down p n x m)
unfolding received_down
down_logged p alive n x taken m plan hk hk' hb =
    (cond_both (is_parent x.kin.parent m) _ _ (λ o. KinIsSound p alive n o.kin → OutcomeIsLogged p alive n x taken o)
    (λ e h'. record {
      quiet = λ low. (act_each_below p n (with_parent p n x.kin m) (waves_at p n) _ low).0;
      closes = λ low s w f. inl (sym (unsent_open' (x.book s w)) ∙ sym ((act_each_below p n (with_parent p n x.kin m) (waves_at p n) _ low).1 s w) ∙ f);
      dones = act_each_dones p n (with_parent p n x.kin m) (waves_at p n) _ (λ c s w i. absurd (no_done (with_parent p n x.kin m).parent c s w i));
      logged = λ top. absurd (true≢false (sym e ∙ top_parent p alive n x m plan hk top));
    })
    (λ e h'. acts_logged p alive n x taken (without_child x.kin m) x.book (waves_at p n) (waves_at_named p n) plan h' hb (same_book x.book))) hk'
  where
    no_done : (o : Option ℕ) (c s w : ℕ) → In (c, Done s w) (to_parent o Attach) → ⊥
    no_done None c s w j = j
    no_done (Some m) c s w (inl e) = let q : Done s w ≡ Attach = ap (λ v. v.1) e in cc
    no_done (Some m) c s w (inr j) = j

received_logged : (p : Plan) (alive : ℕ → Bool) (n : ℕ) (x : Node) (m : ℕ) (q : Packet) → HasPlanFacts p → KinIsSound p alive n x.kin → KinIsSound p alive n (received p n x m q).kin → BookIsSound p n x.book → PacketIsSound p alive m n q → OutcomeIsLogged p alive n x ((m, q) ∷ []) (received p n x m q)
unfolding is_front
received_logged p alive n x m (Up s w set) plan hk hk' hb hq =
    up_logged p alive n x ((m, Up s w set) ∷ []) s w set hq.0.3 plan hk (each_wave_set (λ a b v. WaveIsSound p n a v) x.book s w _ hb (growing_sound p m n s set (x.book s w) plan hq.0.0 hq.0.1 (hb s w)))
received_logged p alive n x m (Done s w) plan hk hk' hb hq = done_logged p alive n x m s w (elim (cases_Bool (n == front p)) [
  | inl t ↦ absurd (let en : n ≡ front p = eqb-true n (front p) t in subst (λ l. In m l) (ap (ancestors p) en ∙ plan.front_top) hq.0.0)
  | inr f ↦ f
])
received_logged p alive n x m Attach plan hk hk' hb hq = attach_logged p alive n x ((m, Attach) ∷ []) m
received_logged p alive n x m Down plan hk hk' hb hq = down_logged p alive n x ((m, Down) ∷ []) m plan hk hk' hb

-- what was closed at the front end stays so
front_keeps : (p : Plan) (alive : ℕ → Bool) (st : State) (n : ℕ) (taken : List (ℕ × Packet)) (o : Outcome) (s w : ℕ) → OutcomeLinks p alive n (st.node n) taken o → is_open ((st.node (front p)).book s w) ≡ false → is_open (((commit st n o).node (front p)).book s w) ≡ false
front_keeps p alive st n taken o s w g e = elim (cases_Bool (front p == n)) [
  | inl t ↦
      let en : front p ≡ n = eqb-true (front p) n t in
      subst (λ v. is_open (v.book s w) ≡ false) (sym (node_here st n o (front p) en)) (not_open (o.work.book s w) (st.node n) (g.opens s w) (subst (λ a. is_open ((st.node a).book s w) ≡ false) en e))
  | inr f ↦ subst (λ v. is_open (v.book s w) ≡ false) (sym (node_else st n o (front p) f)) e
]
  where
    not_open : (v : Wave) (x : Node) → (is_open v ≡ true → is_open (x.book s w) ≡ true) → is_open (x.book s w) ≡ false → is_open v ≡ false
    not_open v x h k = elim (cases_Bool (is_open v)) [ inl t ↦ absurd (true≢false (sym (h t) ∙ k)) | inr f ↦ f ]

-- what an event of n closes is closed at the front end
closed_after : (p : Plan) (old : ℕ → ℕ → List Packet) (st : State) (n : ℕ) (taken : List (ℕ × Packet)) (o : Outcome) (s w : ℕ)
    → OutcomeLinks p st.alive n (st.node n) taken o → OutcomeIsLogged p st.alive n (st.node n) taken o
    → ((m : ℕ) (q : Packet) → In (m, q) taken → In q (old m n))
    → ((n s w : ℕ) → is_open ((st.node n).book s w) ≡ false → is_open ((st.node (front p)).book s w) ≡ false)
    → ((m n s w : ℕ) → In (Done s w) (old m n) → is_open ((st.node (front p)).book s w) ≡ false)
    → is_open (o.work.book s w) ≡ false → is_open (((commit st n o).node (front p)).book s w) ≡ false
unfolding is_front
closed_after p old st n taken o s w g l from closed named e = elim (cases_Bool (n == front p)) [
  | inl t ↦ subst (λ v. is_open (v.book s w) ≡ false) (sym (node_here st n o (front p) (sym (eqb-true n (front p) t)))) e
  | inr f ↦ front_keeps p st.alive st n taken o s w g (elim (l.closes f s w e) [
    | inl k ↦ closed n s w k
    | inr k ↦ named k.0 n s w (from k.0 (Done s w) k.1)
  ])
]

commit_history : (p : Plan) (old : ℕ → ℕ → List Packet) (st : State) (n : ℕ) (taken : List (ℕ × Packet)) (o : Outcome)
    → OutcomeLinks p st.alive n (st.node n) taken o → OutcomeIsLogged p st.alive n (st.node n) taken o
    → ((m : ℕ) (q : Packet) → In (m, q) taken → In q (old m n))
    → ((a b : ℕ) (q : Packet) → In q (st.link a b) → In q (old a b))
    → ((s w : ℕ) → IsHistory p st.alive s none (of_wave s w st.releases) ((st.node (front p)).book s w))
    → ((n s w : ℕ) → is_open ((st.node n).book s w) ≡ false → is_open ((st.node (front p)).book s w) ≡ false)
    → ((m n s w : ℕ) → In (Done s w) (old m n) → is_open ((st.node (front p)).book s w) ≡ false)
    → HistoryIsSound p (commit st n o)
unfolding commit is_front
commit_history p old st n taken o g l from still rel closed named = record {
  releases = λ s w. elim (cases_Bool (front p == n)) [
    | inl t ↦
        let en : front p ≡ n = eqb-true (front p) n t in
        subst (λ v. IsHistory p st.alive s none (of_wave s w (st.releases ++ o.work.releases)) (v.book s w)) (sym (node_here st n o (front p) en))
        (l.logged (eq-eqb n (front p) (sym en)) st.releases (λ s w. subst (λ a. IsHistory p st.alive s none (of_wave s w st.releases) ((st.node a).book s w)) en (rel s w)) s w)
    | inr f ↦
        let low : (n == front p) ≡ false = (swap f) in
        subst (λ v. IsHistory p st.alive s none (of_wave s w (st.releases ++ o.work.releases)) (v.book s w)) (sym (node_else st n o (front p) f))
        (subst (λ r. IsHistory p st.alive s none (of_wave s w r) ((st.node (front p)).book s w)) (sym (ap (λ r. st.releases ++ r) (l.quiet low) ∙ append-nil st.releases)) (rel s w))
  ];
  closed = λ a s w e. elim (cases_Bool (a == n)) [
    | inl t ↦ closed_after p old st n taken o s w g l from closed named (subst (λ v. is_open (v.book s w) ≡ false) (node_here st n o a (eqb-true a n t)) e)
    | inr f ↦ front_keeps p st.alive st n taken o s w g (closed a s w (subst (λ v. is_open (v.book s w) ≡ false) (node_else st n o a f) e))
  ];
  named = λ a b s w i. elim (commit_link st n o a b (Done s w) i) [
    | inl j ↦ front_keeps p st.alive st n taken o s w g (named a b s w (still a b (Done s w) j))
    | inr j ↦ closed_after p old st n taken o s w g l from closed named (l.dones b s w j.2)
  ];
}
  where
    swap : (front p == n) ≡ false → (n == front p) ≡ false
    swap f = elim (cases_Bool (n == front p)) [ inl t ↦ absurd (eqb-false (front p) n f (sym (eqb-true n (front p) t))) | inr k ↦ k ]

receive_history : (p : Plan) (st : State) (n m : ℕ) (qs : List Packet) → HasPlanFacts p → LinkInvariant p st → HistoryIsSound p st → st.link m n ≡ qs → HistoryIsSound p (receive p st n m qs)
unfolding with_link
receive_history p st n m [] plan hs h e = h
receive_history p st n m (q ∷ qs) plan hs h e =
    let hq = first_sound p st m n q qs hs e in
    commit_history p st.link (with_link st m n qs) n ((m, q) ∷ []) (received p n (st.node n) m q)
    (received_links p st.alive n (st.node n) m q plan (hs.net.kin n) hq)
    (received_logged p st.alive n (st.node n) m q plan (hs.net.kin n) (received_sound p st.alive n (st.node n) m q plan (hs.net.kin n) (hs.books n) hq).kin (hs.books n) hq)
    (λ a v. elim [ inl k ↦ let ea : a ≡ m = ap (λ y. y.0) k in let ev : v ≡ q = ap (λ y. y.1) k in subst (λ x. In v (st.link x n)) (sym ea) (subst (λ x. In x (st.link m n)) (sym ev) (subst (λ l. In q l) (sym e) (inl refl))) | inr k ↦ absurd k ])
    (popped_in (net_of st) m n q qs e)
    h.releases h.closed h.named

lose_in : (p : Plan) (st : State) (n a b s w : ℕ) → In (Done s w) ((lose p st n).link a b) → In (Done s w) (st.link a b)
unfolding lose
lose_in p st n a b s w i = elim (lost_in Down p (net_of st) n a b (Done s w) i) [ inl j ↦ j | inr k ↦ absurd (let e : Done s w ≡ Down = k.0 in cc) ]

lose_history : (p : Plan) (st : State) (n : ℕ) → HistoryIsSound p st → HistoryIsSound p (lose p st n)
unfolding lose
lose_history p st n h = record {
  releases = λ s w. history_later p st.alive (put_at st.alive n false) s none (of_wave s w st.releases) ((st.node (front p)).book s w) (still_dead st.alive n) (h.releases s w);
  closed = h.closed;
  named = λ a b s w i. h.named a b s w (lose_in p st n a b s w i);
}

pub step_history : (p : Plan) (st : State) (e : Event) → HasPlanFacts p → LinkInvariant p st → HistoryIsSound p st → is_enabled p st e ≡ true → HistoryIsSound p (step p st e)
step_history p st (Sample n s w) plan hs h e =
    let t = and_parts _ _ e in
    let u = and_parts _ _ t.0 in
    let z = next_is_empty p (st.node n) s w t.1 in
    commit_history p st.link st n [] _
    (sampled_links p st.alive n (st.node n) s w (front_top_of p st.alive n (st.node n).kin plan (hs.net.kin n)) z)
    (sampled_logged p st.alive n (st.node n) s w (next_is_named p (st.node n) s w t.1) plan (hs.net.kin n) (each_wave_set (λ a b v. WaveIsSound p n a v) (st.node n).book s w _ (hs.books n) (covering_sound p n s ((st.node n).book s w) plan (in_from_member n (daemons p s) u.1) z (hs.books n s w))) z)
    (λ m q i. absurd i) (λ a b q i. i) h.releases h.closed h.named
step_history p st (Recv n m) plan hs h e = receive_history p st n m (st.link m n) plan hs h refl
step_history p st (Tick n) plan hs h e =
    commit_history p st.link st n [] _
    (tick_links p st.alive n (st.node n) (front_top_of p st.alive n (st.node n).kin plan (hs.net.kin n)))
    (tick_logged p st.alive n (st.node n) plan (hs.net.kin n) (λ s w. ticked_sound p n s ((st.node n).book s w) (hs.books n s w)))
    (λ m q i. absurd i) (λ a b q i. i) h.releases h.closed h.named
step_history p st (Lose n) plan hs h e = lose_history p st n h

pub start_history : (p : Plan) → HistoryIsSound p (start p)
unfolding start
start_history p = record { releases = λ s w. refl; closed = λ n s w e. absurd (true≢false e); named = λ m n s w i. absurd i }
