-- A net that does picked events, one after another.
use Rattle.std.proofs.Common.{◌≡◌, ◌∙◌, ◌+◌, ◌/◌, ◌%◌, ◌^◌, ◌<◌, ◌≤◌, ℕ, Bool, true, ◌==◌, List, [], ◌∷◌, ◌++◌, length, slice_get, Some, None, refl, sym, ap, subst, arith, append_assoc, eqb-true, eq-eqb}
use Rattle.std.specs.Prelude.{◌↔◌}
use Rattle.stat_plan.specs.Invariants.{IsPlan}
use Rattle.stat_plan.specs.Plans.{Plan}
use Rattle.overlay_event.specs.declared.event.Event.{Event}
use Rattle.overlay_core.specs.Machine.{State, enabled_events, is_enabled, start, step}
use Rattle.overlay_core.specs.Pick.{PicksFrom, picked, picked_event}
use Rattle.stat_plan.specs.Machine.Journals.{next_number}
use Rattle.overlay_core.specs.Runs.{IsQuiet, after, run}
use Rattle.overlay_core.proofs.Journals.{quiet_where_empty}
use Rattle.overlay_core.specs.Whole.{IsSound}
use Rattle.stat_plan.proofs.PlanFacts.{plan_facts}
use Rattle.overlay_core.proofs.Picks.{picked_enabled, picked_is_one, picks_more}
use Rattle.stat_plan.proofs.Journals.{none_listed, run_more}
use Rattle.overlay_core.proofs.Potential.{step_decreases, weight}
use Rattle.overlay_core.proofs.Whole.{legal_is_sound}
use Rattle.overlay_net.specs.Nets.{NetView, IsReachedBy, state_of}
use Rattle.overlay_net.specs.Events.{IsNet}
use Rattle.overlay_net.specs.Handled.{ExtendsBy}
use Rattle.overlay_net.specs.Picks.{HasPicked}

-- the state that picked events lead to, from a net on
pub record HasCome (old : NetView) (seed : ℕ) (journal : List Event) (number : ℕ) (new : NetView) : Type 0 where
  pub plan : new.plan ≡ old.plan
  pub picks : PicksFrom old.plan seed (state_of old) journal number
  pub state : ◌≡◌ {A = State} (state_of new) (run old.plan (state_of old) journal)
  pub reached : (earlier : List Event) → IsReachedBy old earlier → IsReachedBy new (earlier ++ journal)

-- where no event may come next, none is picked
pub nothing_to_pick : (p : Plan) (st : State) (number : ℕ) → length (enabled_events p st) ≡ 0 → picked_event p st number ≡ None
unfolding picked_event
nothing_to_pick p st number none = go (enabled_events p st) none
  where
    go : (es : List Event) → length es ≡ 0 → slice_get es (number / 2 ^ 33 % length es) ≡ None
    go [] e = refl
    go (x ∷ xs) e = absurd (omega (arith, e))

-- what a number picks, by its definition
pub picks_of_all : (p : Plan) (st : State) (number : ℕ) → slice_get (enabled_events p st) (number / 2 ^ 33 % length (enabled_events p st)) ≡ picked_event p st number
unfolding picked_event
picks_of_all p st number = refl

-- an event of a net that was picked may come next
pub may_be_picked : (v : NetView) (number : ℕ) (e : Event) → Some e ≡ picked_event v.plan (state_of v) number → is_enabled v.plan (state_of v) e ≡ true
may_be_picked v number e is = picked_enabled v.plan (state_of v) number e (sym is)

-- an event that extends a net's journals does the machine's step
stepped_by : (old new : NetView) (e : Event) → new.plan ≡ old.plan → IsNet old → ExtendsBy e old new → ◌≡◌ {A = State} (state_of new) (step old.plan (state_of old) e)
stepped_by old new e same net extends =
    let more = extends net.journal net.reached in
    more.state ∙ ap (λ p. after p (net.journal ++ e ∷ [])) same ∙ run_more (step old.plan) (start old.plan) net.journal e ∙ ap (λ st. step old.plan st e) (sym net.reached.state)

-- one event more
pub one_more : (old mid new : NetView) (seed number : ℕ) (journal : List Event) (e : Event) → IsNet mid → HasCome old seed journal number mid → Some e ≡ picked_event mid.plan (state_of mid) (next_number number) → new.plan ≡ mid.plan → ExtendsBy e mid new → HasCome old seed (journal ++ e ∷ []) (next_number number) new
one_more old mid new seed number journal e net come pick same extends =
    let found : picked_event old.plan (run old.plan (state_of old) journal) (next_number number) ≡ Some e = (λ i. picked_event (sym come.plan i) (sym come.state i) (next_number number)) ∙ sym pick in
    record {
      plan = same ∙ come.plan;
      picks = picks_more old.plan seed (state_of old) journal number e come.picks found;
      state = stepped_by mid new e same net extends ∙ (λ i. step (come.plan i) (come.state i) e) ∙ sym (run_more (step old.plan) (state_of old) journal e);
      reached = λ earlier h. subst (IsReachedBy new) (append_assoc earlier journal (e ∷ [])) (extends (earlier ++ journal) (come.reached earlier h));
    }

-- an event makes the state's weight smaller
pub weighs_less : (v new : NetView) (e : Event) → IsPlan v.plan → IsNet v → new.plan ≡ v.plan → is_enabled v.plan (state_of v) e ≡ true → ExtendsBy e v new → weight v.plan (state_of new) < weight v.plan (state_of v)
weighs_less v new e plan net same en extends =
    let sound = subst (IsSound v.plan) (sym net.reached.state) (legal_is_sound v.plan net.journal (plan_facts v.plan plan) net.reached.legal) in
    let less : weight v.plan (step v.plan (state_of v) e) + 1 ≤ weight v.plan (state_of v) = step_decreases v.plan (state_of v) e (plan_facts v.plan plan) sound en in
    let is : weight v.plan (state_of new) ≡ weight v.plan (step v.plan (state_of v) e) = ap (weight v.plan) (stepped_by v new e same net extends) in
    omega (arith, less, is)

-- where nothing is picked, nothing may come next
none_next : (p : Plan) (st : State) (number : ℕ) → None ≡ picked_event p st number → enabled_events p st ≡ []
unfolding picked_event
none_next p st number is = none_listed (enabled_events p st) (number / 2 ^ 33) (sym is)

-- then all is done
pub all_picked : (old new : NetView) (seed number : ℕ) (journal : List Event) → HasCome old seed journal number new → None ≡ picked_event new.plan (state_of new) (next_number number) → HasPicked old seed journal new
all_picked old new seed number journal come none = record {
  plan = come.plan;
  last = number;
  picks = come.picks;
  reached = come.reached;
  ends = ap (λ p. enabled_events p (state_of new)) (sym come.plan) ∙ none_next new.plan (state_of new) (next_number number) none;
}

-- a new net does what the seed picks
pub picked_at_start : (old new : NetView) (seed : ℕ) (journal : List Event) → IsPlan old.plan → HasPicked old seed journal new → IsReachedBy old [] → (journal ≡ picked old.plan seed) × IsReachedBy new journal
picked_at_start old new seed journal plan done start =
    let reached = done.reached [] start in (
      picked_is_one old.plan seed journal (plan_facts old.plan plan) (record {
        last = done.last;
        picks = subst (λ st. PicksFrom old.plan seed st journal done.last) start.state done.picks;
        ends = ap (enabled_events old.plan) (sym (reached.state ∙ ap (λ p. after p journal) done.plan)) ∙ done.ends;
      }),
      reached,
    )

-- no event may come next exactly if none is counted
pub none_where_zero : (es : List Event) (count : ℕ) (b : Bool) → b ≡ (count == 0) → count ≡ length es → (b ≡ true) ↔ (es ≡ [])
none_where_zero [] count b is len = ((λ t. refl), (λ e. is ∙ eq-eqb count 0 len))
none_where_zero (e ∷ es) count b is len = ((λ t. absurd (let z : count ≡ 0 = eqb-true count 0 (sym is ∙ t) in omega (arith, z, len))), (λ none. absurd (cc)))

-- no event may come next exactly if the state is quiet
pub quiet_where_none : (v : NetView) (b : Bool) → IsPlan v.plan → IsNet v → (b ≡ true) ↔ (enabled_events v.plan (state_of v) ≡ []) → (b ≡ true) ↔ IsQuiet v.plan (state_of v)
quiet_where_none v b plan net none =
    let same = quiet_where_empty v.plan net.journal (plan_facts v.plan plan) net.reached.legal in (
      (λ t. subst (IsQuiet v.plan) (sym net.reached.state) (same.1 (subst (λ (s : State). enabled_events v.plan s ≡ []) net.reached.state (none.0 t)))),
      (λ q. none.1 (subst (λ (s : State). enabled_events v.plan s ≡ []) (sym net.reached.state) (same.0 (subst (IsQuiet v.plan) net.reached.state q)))),
    )
