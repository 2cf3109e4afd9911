-- The journal that a seed picks: it is whole, and no other is picked.
use Rattle.std.proofs.Common.{◌≡◌, ◌≤◌, ◌+◌, ◌/◌, ◌%◌, ◌^◌, inl, inr, ℕ, true, false, ◌==◌, List, [], ◌∷◌, ◌++◌, length, refl, sym, subst, ◌∙◌, arith, Some}
use Rattle.std.proofs.lemmas.Bool.{cond_both, true≢false, cases_Bool, eqb-false}
use Rattle.stat_plan.specs.Plans.{Plan}
use Rattle.stat_plan.specs.Machine.Journals.{next_number}
use Rattle.stat_plan.proofs.Journals.{get_in}
use Rattle.stat_plan.proofs.Journals as journals
use Rattle.stat_plan.proofs.PlanFacts.{HasPlanFacts}
use Rattle.overlay_event.specs.declared.event.Event.{Event}
use Rattle.overlay_core.specs.Machine.{State, start, step, lose, is_enabled, enabled_events}
use Rattle.overlay_core.specs.Runs.{run, after, IsLegal, IsQuiet, IsWhole}
use Rattle.overlay_core.specs.Whole.{IsSound}
use Rattle.overlay_core.specs.Bound.{bound}
use Rattle.overlay_core.specs.Losses.{IsLost}
use Rattle.overlay_core.specs.Pick.{picked_event, picked, PicksFrom, Picks, IsPickedFrom}
use Rattle.overlay_core.proofs.Whole.{step_is_sound, start_is_sound, legal_is_sound, step_alive}
use Rattle.overlay_core.proofs.Potential.{weight, step_decreases, start_weight, legal_is_short}
use Rattle.overlay_core.proofs.Enabled.{listed_enabled, lists, lists_no_other}

-- a quiet state has no event in its list
pub list_from_quiet : (p : Plan) (st : State) → IsQuiet p st → enabled_events p st ≡ []
list_from_quiet p st quiet = journals.list_from_quiet (λ st. ⊥) (is_enabled p) (enabled_events p) (lists_no_other p) st quiet

-- an event that is picked may come next
pub picked_enabled : (p : Plan) (st : State) (x : ℕ) (e : Event) → picked_event p st x ≡ Some e → is_enabled p st e ≡ true
unfolding picked_event
picked_enabled p st x e k = listed_enabled p st e (get_in (enabled_events p st) (x / 2 ^ 33 % length (enabled_events p st)) e k)

-- what is picked is legal
pub picks_are_legal : (p : Plan) (seed : ℕ) (journal : List Event) (y : ℕ) → Picks p seed journal y → IsLegal p journal
picks_are_legal p seed journal y h = journals.picks_legal (λ st. ⊥) (step p) (is_enabled p) (enabled_events p) (lists_no_other p) seed (start p) journal y h

-- picks from a state on, and one event more
pub picks_more : (p : Plan) (x : ℕ) (st : State) (es : List Event) (y : ℕ) (e : Event) → PicksFrom p x st es y → picked_event p (run p st es) (next_number y) ≡ Some e → PicksFrom p x st (es ++ e ∷ []) (next_number y)
unfolding picked_event
picks_more p x st es y e h k = journals.picks_more (step p) (enabled_events p) x st es y e h k

-- and one event more
pub picks_go_on : (p : Plan) (seed : ℕ) (journal : List Event) (y : ℕ) (e : Event) → Picks p seed journal y → picked_event p (after p journal) (next_number y) ≡ Some e → Picks p seed (journal ++ e ∷ []) (next_number y)
picks_go_on p seed journal y e h k = picks_more p seed (start p) journal y e h k

-- the picks of a seed are picked to the end
pub picked_is_picked : (p : Plan) (seed : ℕ) → HasPlanFacts p → IsPickedFrom p seed (picked p seed)
picked_is_picked p seed plan =
    let few : weight p (start p) ≤ bound p = start_weight p plan in
    journals.picked_ends (IsSound p) (step p) (is_enabled p) (enabled_events p) (weight p) (lists p plan)
    (λ st e h en. step_is_sound p st e plan h en) (λ st e h en. step_decreases p st e plan h en)
    (bound p + 1) seed (start p) (start_is_sound p plan) (omega arith)

pub picked_is_whole : (p : Plan) (seed : ℕ) → HasPlanFacts p → IsWhole p (picked p seed)
picked_is_whole p seed plan =
    let r = picked_is_picked p seed plan in
    let legal = picks_are_legal p seed (picked p seed) r.last r.picks in
    (legal, journals.quiet_from_list (IsSound p) (is_enabled p) (enabled_events p) (lists p plan) (after p (picked p seed)) (legal_is_sound p (picked p seed) plan legal) r.ends)

-- and nothing else is
pub picked_is_one : (p : Plan) (seed : ℕ) (journal : List Event) → HasPlanFacts p → IsPickedFrom p seed journal → journal ≡ picked p seed
picked_is_one p seed journal plan h =
    let short : length journal ≤ bound p = legal_is_short p journal plan (picks_are_legal p seed journal h.last h.picks) in
    journals.picked_is_one (step p) (enabled_events p) (bound p + 1) seed (start p) journal h.last h.picks h.ends (omega arith)

-- a node that a journal loses is dead in the end
stays_dead : (p : Plan) (st : State) (es : List Event) (n : ℕ) → st.alive n ≡ false → (run p st es).alive n ≡ false
stays_dead p st [] n d = d
stays_dead p st (e ∷ es) n d = stays_dead p (step p st e) es n (elim (cases_Bool ((step p st e).alive n)) [ inl t ↦ absurd (true≢false (sym (step_alive p st e n t) ∙ d)) | inr f ↦ f ])

lost_now : (p : Plan) (st : State) (n : ℕ) → (lose p st n).alive n ≡ false
unfolding lose
lost_now p st n = cond_both (n == n) false (st.alive n) (λ b. b ≡ false) (λ e. refl) (λ e. absurd (eqb-false n n e refl))

pub lost_is_dead : (p : Plan) (st : State) (es : List Event) (n : ℕ) → IsLost es n → (run p st es).alive n ≡ false
lost_is_dead p st [] n i = absurd i
lost_is_dead p st (e ∷ es) n (inl k) = stays_dead p (step p st e) es n (subst (λ y. (step p st y).alive n ≡ false) k (lost_now p st n))
lost_is_dead p st (e ∷ es) n (inr i) = lost_is_dead p (step p st e) es n i
