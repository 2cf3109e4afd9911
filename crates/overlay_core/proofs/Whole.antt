-- Every legal journal leaves a sound state, and every whole one has ended each wave.
use Rattle.rank_set.specs.Ranks.{Ranks, none, is_subset, is_same, is_empty, Has, IsSubset}
use Rattle.std.proofs.Common.{◌≡◌, ◌≢◌, ◌⊎◌, ◌≤◌, ◌<◌, ◌+◌, inl, inr, ℕ, suc, zero, Bool, true, false, cond, not, ◌||◌, ◌&&◌, ◌==◌, List, [], ◌∷◌, ◌++◌, find, length, refl, sym, ap, subst, ◌∙◌, arith, eqb-true, eq-eqb, Option, Some, None, length-append, le_refl}
use Rattle.std.proofs.lemmas.Bool.{and_from, cases_Bool, true≢false, or_left, or_right, not-false, ltb-true}
use Rattle.overlay_setup.specs.NodeSets.{In, member, up_to}
use Rattle.stat_plan.specs.Plans.{Plan, IsUnder, ancestors, serves, mode, is_front, front, nodes, daemons, ranks, is_within, waves_at, waves_of, AreRelated}
use Rattle.stat_plan.specs.Machine.Due.{due_act}
use Rattle.overlay_core.specs.Nodes.{Packet, Up, Done, Attach, Down, Release, due_at}
use Rattle.stat_plan.specs.Machine.Waves.{Wave, Open, Closed, is_open, coverage_of, sent_of, is_empty_open}
use Rattle.stat_plan.specs.Machine.Kin.{complete, nearest}
use Rattle.overlay_core.specs.Machine.{State, start, step, is_enabled, is_active, is_doomed, next_sample, is_wave, commit, lose, with_link, receive}
use Rattle.stat_plan.specs.Machine.Overlays.{is_pending}
use Rattle.overlay_core.specs.Runs.{run, after, IsLegal, IsQuiet, IsWhole}
use Rattle.stat_plan.proofs.PlanFacts.{HasPlanFacts}
use Rattle.overlay_core.specs.LinkInvariant.{WaveIsSound, OpenIsSound}
use Rattle.overlay_core.specs.ParentChild.{ParentChildInvariant}
use Rattle.overlay_core.specs.Settled.{WaveIsSettled}
use Rattle.overlay_core.specs.History.{of_wave, ByKind, MissesOnlyLost, IsHistory}
use Rattle.overlay_core.specs.Whole.{IsSound}
use Rattle.overlay_core.specs.declared.release.Kind.{Kind}
use Rattle.overlay_core.specs.declared.release.Kind.TheVariants.{Partial as PartialRelease, Final as FinalRelease}
use Rattle.overlay_setup.specs.declared.script.Mode.{Mode}
use Rattle.stat_plan.specs.declared.machine.Timer.{Timer}
use Rattle.stat_plan.specs.declared.machine.Act.TheVariants.{Hold}
use Rattle.stat_plan.proofs.KinLemmas.{nearest_in, nearest_some, nearest_split}
use Rattle.overlay_event.specs.declared.event.Event.{Event}
use Rattle.overlay_event.specs.declared.event.Event.TheVariants.{Sample, Recv, Tick, Lose}
use Rattle.stat_plan.proofs.InLists.{in_append, in_member, in_from_member, list_all_from, up_to_in, in_filter, in_from_filter, any_from_in}
use Rattle.overlay_core.proofs.RankSets.{test_from_subset, no_rank, some_rank, same_true}
use Rattle.overlay_core.proofs.Steps.{step_sound, start_sound}
use Rattle.overlay_core.proofs.ParentLinks.{within_from_test, test_from_within, waves_above}
use Rattle.overlay_core.proofs.ParentChild.{step_pairs}
use Rattle.stat_plan.proofs.Overlays.{was_alive, now_dead, none_pending}
use Rattle.overlay_core.specs.Losses.{IsLost}
use Rattle.overlay_core.proofs.Settled.{step_settled, start_settled}
use Rattle.overlay_core.proofs.History.{step_history, start_history}
use Rattle.stat_plan.proofs.Journals.{run_keeps}

start_pairs : (p : Plan) → HasPlanFacts p → ParentChildInvariant p (start p)
unfolding start
start_pairs p plan c q uc uq par = record {
  child = inl (in_filter (λ c. elim (nearest (ancestors p c) []) [ None ↦ false | Some m ↦ m == q ]) c (up_to (nodes p)) (up_to_in (nodes p) c (ltb-true c (nodes p) uc)) (named (nearest (ancestors p c) []) par));
  sent = λ s w r e i. absurd (no_rank r i);
  closed = λ s w i e. absurd (true≢false e);
}
  where
    named : (o : Option ℕ) → o ≡ Some q → (elim o [ None ↦ false | Some m ↦ m == q ]) ≡ true
    named None e = absurd (cc)
    named (Some m) e = let k : m ≡ q = cc in eq-eqb m q k

pub start_is_sound : (p : Plan) → HasPlanFacts p → IsSound p (start p)
start_is_sound p plan = record { base = start_sound p plan; pairs = start_pairs p plan; settled = start_settled p plan; history = start_history p }

pub step_is_sound : (p : Plan) (st : State) (e : Event) → HasPlanFacts p → IsSound p st → is_enabled p st e ≡ true → IsSound p (step p st e)
step_is_sound p st e plan h en = record {
  base = step_sound p st e plan h.base en;
  pairs = step_pairs p st e plan h.base h.pairs en;
  settled = step_settled p st e plan h.base h.settled en;
  history = step_history p st e plan h.base h.history en;
}

pub legal_is_sound : (p : Plan) (journal : List Event) → HasPlanFacts p → IsLegal p journal → IsSound p (after p journal)
legal_is_sound p journal plan l = run_keeps (IsSound p) (step p) (is_enabled p) (λ st e h en. step_is_sound p st e plan h en) (start p) journal (start_is_sound p plan) l

-- what quiet says of a living node
quiet_active : (p : Plan) (st : State) (n : ℕ) → IsQuiet p st → st.alive n ≡ true → is_active p st n ≡ true
unfolding is_active
quiet_active p st n quiet up = elim (cases_Bool (is_doomed p st n)) [
  | inl t ↦ absurd (true≢false (sym (and_from _ _ up t) ∙ quiet (Lose n)))
  | inr f ↦ and_from _ _ up (subst (λ b. not b ≡ true) (sym f) refl)
]

quiet_links : (p : Plan) (st : State) (m n : ℕ) → IsQuiet p st → st.alive n ≡ true → st.link m n ≡ []
quiet_links p st m n quiet up = elim (cases_Bool (is_pending (st.link m n))) [
  | inl t ↦ absurd (true≢false (sym (and_from _ _ (quiet_active p st n quiet up) t) ∙ quiet (Recv n m)))
  | inr f ↦ none_pending (st.link m n) f
]

find_some : {X : Type 0} (test : X → Bool) (xs : List X) (x : X) → In x xs → test x ≡ true → (v : X) × (find test xs ≡ Some v) × (test v ≡ true)
find_some test [] x i e = absurd i
find_some {X} test (y ∷ ys) x i e = go (test y) refl (find_some test ys x)
  where
    go : (b : Bool) → test y ≡ b → (In x ys → test x ≡ true → (v : X) × (find test ys ≡ Some v) × (test v ≡ true)) → (v : X) × (cond b (Some y) (find test ys) ≡ Some v) × (test v ≡ true)
    go true k ih = (y, refl, k)
    go false k ih = ih (elim i [ inl j ↦ absurd (let t : test y ≡ true = subst (λ a. test a ≡ true) j e in true≢false (sym t ∙ k)) | inr j ↦ j ]) e

quiet_sampled : (p : Plan) (st : State) (n s w : ℕ) → IsQuiet p st → st.alive n ≡ true → In n (daemons p s) → In (s, w) (waves_of p.streams) → is_empty_open ((st.node n).book s w) ≡ true → ⊥
quiet_sampled p st n s w quiet up hd hw e =
    let test : ℕ × ℕ → Bool = λ v. (v.0 == s) && is_empty_open ((st.node n).book v.0 v.1) in
    let r = find_some test (waves_of p.streams) (s, w) hw (and_from _ _ (eq-eqb s s refl) e) in
    let named : is_wave (next_sample p (st.node n) s) r.0.1 ≡ true = subst (λ o. is_wave o r.0.1 ≡ true) (sym r.1) (eq-eqb r.0.1 r.0.1 refl) in
    true≢false (sym (and_from _ _ (and_from _ _ (quiet_active p st n quiet up) (in_member n (daemons p s) hd)) named) ∙ quiet (Sample n s r.0.1))

-- a living node and its parent, in a quiet sound state
record Parent (p : Plan) (st : State) (d q : ℕ) : Type 0 where
  named : (st.node d).kin.parent ≡ Some q
  alive : st.alive q ≡ true
  under : IsUnder p d q
  nearer : length (ancestors p q) < length (ancestors p d)
  above : (n : ℕ) → st.alive n ≡ true → IsUnder p d n → (n ≡ q) ⊎ IsUnder p q n

dead_is_known : (p : Plan) (st : State) (n m : ℕ) → IsSound p st → IsQuiet p st → st.alive n ≡ true → st.alive m ≡ false → AreRelated p n m → In m (st.node n).kin.lost
dead_is_known p st n m h quiet up down rel = elim ((h.base.net.losses n m).named up down rel) [
  | inl i ↦ i
  | inr i ↦ absurd (subst (λ l. In Down l) (quiet_links p st m n quiet up) i)
]

parent_of : (p : Plan) (st : State) (d q : ℕ) → HasPlanFacts p → IsSound p st → IsQuiet p st → st.alive d ≡ true → (st.node d).kin.parent ≡ Some q → Parent p st d q
parent_of p st d q plan h quiet up e =
    let en : nearest (ancestors p d) (st.node d).kin.lost ≡ Some q = sym (h.base.net.kin d).parent ∙ e in
    let r = nearest_split (ancestors p d) (st.node d).kin.lost q en in
    let u : IsUnder p d q = nearest_in (ancestors p d) (st.node d).kin.lost q en in
    let rest : ancestors p q ≡ r.1 = plan.rest d q r.0 r.1 r.2 in
    record {
      named = e;
      alive = elim (cases_Bool (st.alive q)) [ inl t ↦ t | inr f ↦ absurd (true≢false (sym (in_member q _ (dead_is_known p st d q h quiet up f (inl u))) ∙ r.3)) ];
      under = u;
      nearer = let a : length (ancestors p d) ≡ length (r.0 ++ q ∷ r.1) = ap length r.2 in let b : length (ancestors p q) ≡ length r.1 = ap length rest in let c : length (r.0 ++ q ∷ r.1) ≡ length r.0 + length (q ∷ r.1) = length-append r.0 (q ∷ r.1) in omega arith;
      above = λ n un i. elim (in_append n r.0 (q ∷ r.1) (subst (λ l. In n l) r.2 i)) [
        | inl j ↦ absurd (true≢false (sym un ∙ (h.base.net.kin d).lost n (r.4 n j)))
        | inr j ↦ elim j [ inl k ↦ inl k | inr k ↦ inr (subst (λ l. In n l) (sym rest) k) ]
      ];
    }

-- a living node under a living n has a parent
has_parent : (p : Plan) (st : State) (d n : ℕ) → HasPlanFacts p → IsSound p st → IsQuiet p st → st.alive d ≡ true → st.alive n ≡ true → IsUnder p d n → (q : ℕ) × Parent p st d q
has_parent p st d n plan h quiet ud un u =
    let r = nearest_some (ancestors p d) (st.node d).kin.lost n u (elim (cases_Bool (member n (st.node d).kin.lost)) [ inl t ↦ absurd (true≢false (sym un ∙ (h.base.net.kin d).lost n (in_from_member n _ t))) | inr f ↦ f ]) in
    (r.0, parent_of p st d r.0 plan h quiet ud ((h.base.net.kin d).parent ∙ r.1))

-- the child of n that is on the way to d
record OnTheWay (p : Plan) (st : State) (d n x : ℕ) : Type 0 where
  alive : st.alive x ≡ true
  parent : Parent p st x n
  within : (d ≡ x) ⊎ IsUnder p d x

on_the_way : (p : Plan) (st : State) (fuel d n : ℕ) → HasPlanFacts p → IsSound p st → IsQuiet p st → st.alive d ≡ true → st.alive n ≡ true → IsUnder p d n → length (ancestors p d) ≤ fuel → (x : ℕ) × OnTheWay p st d n x
on_the_way p st zero d n plan h quiet ud un u le = let r = has_parent p st d n plan h quiet ud un u in absurd (let k = r.1.nearer in omega arith)
on_the_way p st (suc fuel) d n plan h quiet ud un u le =
    let r = has_parent p st d n plan h quiet ud un u in
    elim (r.1.above n un u) [
      | inl e ↦ (d, record { alive = ud; parent = subst (Parent p st d) (sym e) r.1; within = inl refl })
      | inr v ↦
          let i = on_the_way p st fuel r.0 n plan h quiet r.1.alive un v (let k = r.1.nearer in omega arith) in
          (i.0, record { alive = i.1.alive; parent = i.1.parent; within = inr (elim i.1.within [ inl e ↦ subst (IsUnder p d) e r.1.under | inr w ↦ plan.under_trans d r.0 i.0 r.1.under w ]) })
    ]

-- a wave that is complete, held and not at the front end hasn't grown
held_same : (m : Mode) (grown : Bool) (t : Timer) → due_act m true grown false t ≡ Hold → grown ≡ false
held_same m true t e = absurd (cc)
held_same m false t e = refl

waves_within : (p : Plan) (d x n s w : ℕ) → In d (daemons p s) → (d ≡ x) ⊎ IsUnder p d x → In (s, w) (waves_at p n) → In (s, w) (waves_at p x)
unfolding waves_at serves
waves_within p d x n s w hd u i =
    let r = in_from_filter (λ v. serves p n v.0) (s, w) (waves_of p.streams) i in
    in_filter (λ v. serves p x v.0) (s, w) (waves_of p.streams) r.0 (any_from_in (λ d. is_within p d x) d (daemons p s) hd (test_from_within p d x u))

wave_named : (p : Plan) (n s w : ℕ) → In (s, w) (waves_at p n) → In (s, w) (waves_of p.streams)
unfolding waves_at
wave_named p n s w i = (in_from_filter (λ v. serves p n v.0) (s, w) (waves_of p.streams) i).0

abbrev Covers : Plan → State → ℕ → ℕ → ℕ → Type 0
Covers p st n s w = (d : ℕ) → In d (daemons p s) → st.alive d ≡ true → (d ≡ n) ⊎ IsUnder p d n → IsSubset (ranks p d) (coverage_of ((st.node n).book s w))

complete_from : (p : Plan) (st : State) (n s w : ℕ) → IsSound p st → IsQuiet p st → st.alive n ≡ true → Covers p st n s w → complete p n (st.node n).kin.lost s (coverage_of ((st.node n).book s w)) ≡ true
unfolding complete
complete_from p st n s w h quiet up covered = list_all_from (λ d. not (is_within p d n) || is_subset (ranks p d) (coverage_of ((st.node n).book s w)) || member d (st.node n).kin.lost) (daemons p s)
    (λ d i. elim (cases_Bool (is_within p d n)) [
      | inr f ↦ or_left _ _ (or_left _ _ (subst (λ b. not b ≡ true) (sym f) refl))
      | inl t ↦
          let u = within_from_test p d n t in
          elim (cases_Bool (st.alive d)) [
            | inl ud ↦ or_left _ _ (or_right _ _ (test_from_subset (ranks p d) _ (covered d i ud u)))
            | inr dd ↦ or_right _ _ (in_member d _ (dead_is_known p st n d h quiet up dd (inr (elim u [ inl e ↦ absurd (true≢false (sym (subst (λ a. st.alive a ≡ true) (sym e) up) ∙ dd)) | inr v ↦ v ]))))
          ]
    ])

-- an open wave, by its parts
record IsOpenAs (p : Plan) (n s : ℕ) (lost : List ℕ) (v : Wave) : Type 0 where
  covered : Ranks
  sent : Ranks
  timer : Timer
  is : v ≡ Open covered sent timer
  sound : OpenIsSound p n s covered sent
  held : due_at p n lost s covered sent timer ≡ Hold

open_as : (p : Plan) (n s : ℕ) (lost : List ℕ) (v : Wave) → is_open v ≡ true → WaveIsSound p n s v → WaveIsSettled p n lost s v → IsOpenAs p n s lost v
open_as p n s lost (Open covered sent timer) e h c = record { covered = covered; sent = sent; timer = timer; is = refl; sound = h; held = c.0 }
open_as p n s lost Closed e h c = absurd (true≢false (sym e))

open_at : (p : Plan) (st : State) (n s w : ℕ) → IsSound p st → st.alive n ≡ true → In (s, w) (waves_at p n) → is_open ((st.node n).book s w) ≡ true → IsOpenAs p n s (st.node n).kin.lost ((st.node n).book s w)
open_at p st n s w h up i e = open_as p n s (st.node n).kin.lost ((st.node n).book s w) e (h.base.books n s w) (h.settled n up s w i)

open_everywhere : (p : Plan) (st : State) (n s w : ℕ) → IsSound p st → is_open ((st.node (front p)).book s w) ≡ true → is_open ((st.node n).book s w) ≡ true
open_everywhere p st n s w h e = elim (cases_Bool (is_open ((st.node n).book s w))) [ inl t ↦ t | inr f ↦ absurd (true≢false (sym e ∙ h.history.closed n s w f)) ]

sampled_there : (p : Plan) (st : State) (n s w : ℕ) → HasPlanFacts p → IsSound p st → IsQuiet p st → st.alive n ≡ true → In n (daemons p s) → In (s, w) (waves_at p n) → is_open ((st.node n).book s w) ≡ true → IsSubset (ranks p n) (coverage_of ((st.node n).book s w))
sampled_there p st n s w plan h quiet up hd hw e = go ((st.node n).book s w) refl (h.base.books n s w)
  where
    go : (v : Wave) → (st.node n).book s w ≡ v → WaveIsSound p n s v → IsSubset (ranks p n) (coverage_of v)
    go (Open covered sent t) ev hv = elim (cases_Bool (is_empty covered)) [
      | inl e ↦ absurd (quiet_sampled p st n s w quiet up hd (wave_named p n s w hw) (subst (λ v. is_empty_open v ≡ true) (sym ev) e))
      | inr f ↦
          let r = some_rank covered (λ k. true≢false (sym (subst (λ z. is_empty z ≡ true) (sym k) refl) ∙ f)) in
          let c = hv.whole r.0 r.1 in
          elim c.place.within [
            | inl k ↦ subst (λ a. IsSubset (ranks p a) covered) k c.all
            | inr u ↦ absurd (plan.daemon_leaf n s c.daemon hd u)
          ]
    ]
    go Closed ev hv = absurd (true≢false (sym e ∙ ap is_open ev))

-- coverage up the tree
covers : (p : Plan) (st : State) (fuel n s w : ℕ) → HasPlanFacts p → IsSound p st → IsQuiet p st → is_open ((st.node (front p)).book s w) ≡ true → st.alive n ≡ true → In (s, w) (waves_at p n) → nodes p ≤ length (ancestors p n) + fuel → Covers p st n s w
unfolding due_at is_front
covers p st fuel n s w plan h quiet open' up hw le d hd ud (inl e) =
    subst (λ a. IsSubset (ranks p a) (coverage_of ((st.node n).book s w))) (sym e)
    (sampled_there p st n s w plan h quiet up (subst (λ a. In a (daemons p s)) e hd) hw (open_everywhere p st n s w h open'))
covers p st zero n s w plan h quiet open' up hw le d hd ud (inr u) =
    let x = on_the_way p st (length (ancestors p d)) d n plan h quiet ud up u (le_refl _) in
    absurd (let a = x.1.parent.nearer in let b = plan.depth x.0 in omega arith)
covers p st (suc fuel) n s w plan h quiet open' up hw le d hd ud (inr u) =
    let x = on_the_way p st (length (ancestors p d)) d n plan h quiet ud up u (le_refl _) in
    let c = x.0 in
    let hc : In (s, w) (waves_at p c) = waves_within p d c n s w hd x.1.within hw in
    let oc = open_everywhere p st c s w h open' in
    let covered : Covers p st c s w = covers p st fuel c s w plan h quiet open' x.1.alive hc (let a = x.1.parent.nearer in omega arith) in
    let o = open_at p st c s w h x.1.alive hc oc in
    let ec : coverage_of ((st.node c).book s w) ≡ o.covered = ap coverage_of {y = Open o.covered o.sent o.timer} o.is in
    let es : sent_of ((st.node c).book s w) ≡ o.sent = ap sent_of {y = Open o.covered o.sent o.timer} o.is in
    let full : complete p c (st.node c).kin.lost s o.covered ≡ true = subst (λ l. complete p c (st.node c).kin.lost s l ≡ true) ec (complete_from p st c s w h quiet x.1.alive covered) in
    let low : is_front p c ≡ false = not_front c x.1.parent in
    let same : not (is_same o.covered o.sent) ≡ false = held_same (mode p s) (not (is_same o.covered o.sent)) o.timer (subst (λ b. due_act (mode p s) true (not (is_same o.covered o.sent)) b o.timer ≡ Hold) low (subst (λ b. due_act (mode p s) b (not (is_same o.covered o.sent)) (is_front p c) o.timer ≡ Hold) full o.held)) in
    let e : o.covered ≡ o.sent = same_true o.covered o.sent (not-false (is_same o.covered o.sent) same) in
    λ r i.
    let j : Has r (sent_of ((st.node c).book s w)) = subst (λ l. Has r l) (ec ∙ e ∙ sym es) (covered d hd ud x.1.within r i) in
    elim ((h.pairs c n x.1.alive up x.1.parent.named).sent s w r (open_everywhere p st n s w h open') j) [
      | inl k ↦ k
      | inr k ↦ absurd (subst (λ l. In (Up s w k.set) l) (quiet_links p st c n quiet up) k.there)
    ]
  where
    not_front : (c : ℕ) → Parent p st c n → (c == front p) ≡ false
    not_front c par = elim (cases_Bool (c == front p)) [
      | inl t ↦ absurd (let ec : c ≡ front p = eqb-true c (front p) t in subst (λ l. In n l) (ap (ancestors p) ec ∙ plan.front_top) par.under)
      | inr f ↦ f
    ]

final_due : (m : Mode) (grown : Bool) (t : Timer) → due_act m true grown true t ≡ Hold → ⊥
final_due m grown t e = cc

-- so the front end has closed every wave
front_closed : (p : Plan) (st : State) (s w : ℕ) → HasPlanFacts p → IsSound p st → IsQuiet p st → In (s, w) (waves_at p (front p)) → is_open ((st.node (front p)).book s w) ≡ false
unfolding due_at is_front
front_closed p st s w plan h quiet hw = elim (cases_Bool (is_open ((st.node (front p)).book s w))) [
  | inr f ↦ f
  | inl e ↦
      let covered = covers p st (nodes p) (front p) s w plan h quiet e h.base.net.front hw (omega arith) in
      let o = open_at p st (front p) s w h h.base.net.front hw e in
      let ec : coverage_of ((st.node (front p)).book s w) ≡ o.covered = ap coverage_of {y = Open o.covered o.sent o.timer} o.is in
      let full : complete p (front p) (st.node (front p)).kin.lost s o.covered ≡ true = subst (λ l. complete p (front p) (st.node (front p)).kin.lost s l ≡ true) ec (complete_from p st (front p) s w h quiet h.base.net.front covered) in
      absurd (final_due (mode p s) (not (is_same o.covered o.sent)) o.timer (subst (λ b. due_act (mode p s) true (not (is_same o.covered o.sent)) b o.timer ≡ Hold) (eq-eqb (front p) (front p) refl) (subst (λ b. due_act (mode p s) b (not (is_same o.covered o.sent)) (is_front p (front p)) o.timer ≡ Hold) full o.held)))
]

-- Done down the tree
at_front : (p : Plan) (st : State) (n s w : ℕ) → HasPlanFacts p → IsSound p st → IsQuiet p st → In (s, w) (waves_at p n) → n ≡ front p → is_open ((st.node n).book s w) ≡ false
at_front p st n s w plan h quiet hw e = subst (λ a. is_open ((st.node a).book s w) ≡ false) (sym e) (front_closed p st s w plan h quiet (subst (λ a. In (s, w) (waves_at p a)) e hw))

closed_below : (p : Plan) (st : State) (fuel n s w : ℕ) → HasPlanFacts p → IsSound p st → IsQuiet p st → st.alive n ≡ true → In (s, w) (waves_at p n) → (n ≡ front p) ⊎ IsUnder p n (front p) → length (ancestors p n) ≤ fuel → is_open ((st.node n).book s w) ≡ false
closed_below p st fuel n s w plan h quiet up hw (inl e) le = at_front p st n s w plan h quiet hw e
closed_below p st zero n s w plan h quiet up hw (inr u) le = let r = has_parent p st n (front p) plan h quiet up h.base.net.front u in absurd (let k = r.1.nearer in omega arith)
closed_below p st (suc fuel) n s w plan h quiet up hw (inr u) le =
    let r = has_parent p st n (front p) plan h quiet up h.base.net.front u in
    let q = r.0 in
    let hq : In (s, w) (waves_at p q) = (waves_above p n q s w plan r.1.under hw).0 in
    let place : (q ≡ front p) ⊎ IsUnder p q (front p) = plan.all_under q (plan.under_nodes n q r.1.under).1 in
    let cq : is_open ((st.node q).book s w) ≡ false = closed_below p st fuel q s w plan h quiet r.1.alive hq place (let k = r.1.nearer in omega arith) in
    elim (cases_Bool (is_open ((st.node n).book s w))) [
      | inr f ↦ f
      | inl t ↦ elim ((h.pairs n q up r.1.alive r.1.named).closed s w hw cq t) [
        | inl j ↦ absurd (subst (λ l. In (Done s w) l) (quiet_links p st q n quiet up) j)
        | inr j ↦ absurd (subst (λ l. In Attach l) (quiet_links p st n q quiet r.1.alive) j)
      ]
    ]

-- a wave's one final release is its last, and misses only lost daemons, which it names
pub record EndsWith (p : Plan) (alive : ℕ → Bool) (s : ℕ) (rs : List Release) : Type 0 where
  pub before : List Release
  pub final : Release
  pub all : rs ≡ before ++ final ∷ []
  pub partial : (r : Release) → In r before → r.kind ≡ PartialRelease
  pub kind : final.kind ≡ FinalRelease
  pub misses : MissesOnlyLost p alive s final.covered final.lost

-- each wave has ended, at the front end and at each living node that serves it
pub record IsOver (p : Plan) (st : State) : Type 0 where
  pub final : (s w : ℕ) → In (s, w) (waves_of p.streams) → EndsWith p st.alive s (of_wave s w st.releases)
  pub closed : (n s w : ℕ) → st.alive n ≡ true → In (s, w) (waves_at p n) → is_open ((st.node n).book s w) ≡ false

-- a history of a closed wave ends in its final release
ends_finally : (p : Plan) (alive : ℕ → Bool) (s : ℕ) (last : Ranks) (rs : List Release) (v : Wave) → is_open v ≡ false → IsHistory p alive s last rs v → EndsWith p alive s rs
ends_finally p alive s last [] (Open covered sent t) e h = absurd (true≢false e)
ends_finally p alive s last [] Closed e h = absurd h
ends_finally p alive s last (r ∷ rs) v e h = go r.kind refl h.1 (ends_finally p alive s r.covered rs v e)
  where
    go : (k : Kind) → r.kind ≡ k → ByKind k ((last ≢ r.covered) × IsHistory p alive s r.covered rs v) (MissesOnlyLost p alive s r.covered r.lost × (rs ≡ []) × (is_open v ≡ false)) → (IsHistory p alive s r.covered rs v → EndsWith p alive s rs) → EndsWith p alive s (r ∷ rs)
    go PartialRelease ek x ih = let f = ih x.1 in record {
      before = r ∷ f.before;
      final = f.final;
      all = ap (λ l. r ∷ l) f.all;
      partial = λ y. elim [ inl i ↦ subst (λ z. z.kind ≡ PartialRelease) (sym i) ek | inr i ↦ f.partial y i ];
      kind = f.kind;
      misses = f.misses;
    }
    go FinalRelease ek x ih = record { before = []; final = r; all = ap (λ l. r ∷ l) x.1; partial = λ y i. absurd i; kind = ek; misses = x.0 }

front_waves : (p : Plan) (s w : ℕ) → HasPlanFacts p → In (s, w) (waves_of p.streams) → In (s, w) (waves_at p (front p))
unfolding waves_at serves
front_waves p s w plan i =
    let d = plan.stream_daemon s w i in
    in_filter (λ v. serves p (front p) v.0) (s, w) (waves_of p.streams) i (any_from_in (λ x. is_within p x (front p)) d.0 (daemons p s) d.1 (test_from_within p d.0 (front p) (plan.daemon_place d.0 s d.1)))

-- a quiet state is over
quiet_is_over : (p : Plan) (st : State) → HasPlanFacts p → IsSound p st → IsQuiet p st → IsOver p st
quiet_is_over p st plan h quiet = record {
  final = λ s w i. ends_finally p st.alive s none (of_wave s w st.releases) ((st.node (front p)).book s w) (front_closed p st s w plan h quiet (front_waves p s w plan i)) (h.history.releases s w);
  closed = λ n s w up i. closed_below p st (length (ancestors p n)) n s w plan h quiet up i (plan.all_under n (h.base.net.nodes n up)) (le_refl _);
}

pub start_below : (p : Plan) (n : ℕ) → (start p).alive n ≡ true → n < nodes p
unfolding start
start_below p n u = ltb-true n (nodes p) u

-- who lives after an event lived before
pub step_alive : (p : Plan) (st : State) (e : Event) (n : ℕ) → (step p st e).alive n ≡ true → st.alive n ≡ true
unfolding commit lose with_link
step_alive p st (Sample a s w) n u = u
step_alive p st (Recv a m) n u = go (st.link m a) u
  where
    go : (qs : List Packet) → (receive p st a m qs).alive n ≡ true → st.alive n ≡ true
    go [] u = u
    go (q ∷ qs) u = u
step_alive p st (Tick a) n u = u
step_alive p st (Lose a) n u = (was_alive st.alive a n u).0

-- who lives is a node of the plan
pub lives_below : (p : Plan) (st : State) (es : List Event) → ((n : ℕ) → st.alive n ≡ true → n < nodes p) → (n : ℕ) → (run p st es).alive n ≡ true → n < nodes p
lives_below p st [] h = h
lives_below p st (e ∷ es) h = lives_below p (step p st e) es (λ n u. h n (step_alive p st e n u))

pub whole_is_over : (p : Plan) (journal : List Event) → HasPlanFacts p → IsWhole p journal → IsOver p (after p journal)
whole_is_over p journal plan l = quiet_is_over p (after p journal) plan (legal_is_sound p journal plan l.0) l.1

-- who dies at an event is the node that it loses
dies : (p : Plan) (st : State) (e : Event) (n : ℕ) → st.alive n ≡ true → (step p st e).alive n ≡ false → Lose n ≡ e
unfolding commit lose with_link
dies p st (Sample a s w) n u f = absurd (true≢false (sym u ∙ f))
dies p st (Recv a m) n u f = absurd (go (st.link m a) f)
  where
    go : (qs : List Packet) → (receive p st a m qs).alive n ≡ false → ⊥
    go [] f = true≢false (sym u ∙ f)
    go (q ∷ qs) f = true≢false (sym u ∙ f)
dies p st (Tick a) n u f = absurd (true≢false (sym u ∙ f))
dies p st (Lose a) n u f = elim (now_dead st.alive a n f) [ inl e ↦ ap Lose e | inr g ↦ absurd (true≢false (sym u ∙ g)) ]

-- who is dead in the end is lost by the journal
pub dead_is_lost : (p : Plan) (st : State) (es : List Event) (n : ℕ) → st.alive n ≡ true → (run p st es).alive n ≡ false → IsLost es n
dead_is_lost p st [] n u d = absurd (true≢false (sym u ∙ d))
dead_is_lost p st (e ∷ es) n u d = elim (cases_Bool ((step p st e).alive n)) [
  | inl t ↦ inr (dead_is_lost p (step p st e) es n t d)
  | inr f ↦ inl (dies p st e n u f)
]
