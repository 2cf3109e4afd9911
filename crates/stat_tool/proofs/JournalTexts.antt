-- The events of a legal journal are of the plan, and the journal's text is replayed.
use Rattle.std.proofs.Common.{◌≡◌, ◌≤◌, ◌<◌, ◌+◌, inl, inr, ℕ, zero, suc, Bool, true, false, List, [], ◌∷◌, ◌++◌, Option, Some, None, map, length, take, drop, refl, sym, ap, subst, ◌∙◌, arith}
use Rattle.std.specs.Prelude.{if◌then◌else◌, option_map, slice_get}
use Rattle.std.proofs.lemmas.List.{drop_more, length-take-le, take-append-drop}
use Rattle.std.proofs.lemmas.Option.{get_or_from_slice_get, slice_get_within}
use Rattle.std.specs.List.{AllByRecursion}
use Rattle.overlay_setup.specs.NodeSets.{In, up_to}
use Rattle.stat_plan.specs.Invariants.{IsPlan}
use Rattle.stat_plan.specs.Plans.{Plan, nodes, waves_of}
use Rattle.stat_plan.proofs.InLists.{in_append, in_from_map, up_to_below, in_from_filter}
use Rattle.overlay_event.specs.declared.event.Event.{Event}
use Rattle.overlay_event.specs.declared.event.Event.TheVariants.{Recv, Tick}
use Rattle.overlay_core.specs.Machine.{State, start, step, is_enabled, enabled_events, events_below, events_of, samples_of}
use Rattle.overlay_core.specs.Runs.{run, after, IsLegal, IsLegalFrom}
use Rattle.overlay_core.proofs.Journals.{after_more, legal_more, listed_where_enabled}
use Rattle.stat_plan.proofs.PlanFacts.{HasPlanFacts, plan_facts}
use Rattle.journal_text.specs.Events.{AreEventsOf, IsEventOf}
use Rattle.job_files.specs.NextStep.{first_refused}

-- ---- the events that can be named are of the plan

sample_is_of : (p : Plan) (n : ℕ) (vs : List (ℕ × ℕ)) (e : Event) → n < nodes p → ((v : ℕ × ℕ) → In v vs → In v (waves_of p.streams)) → In e (samples_of n vs) → IsEventOf p e
sample_is_of p n [] e lt waves i = absurd i
sample_is_of p n (v ∷ vs) e lt waves (inl is) = subst (IsEventOf p) (sym is) (lt, waves v (inl refl))
sample_is_of p n (v ∷ vs) e lt waves (inr i) = sample_is_of p n vs e lt (λ u j. waves u (inr j)) i

node_event_is_of : (p : Plan) (n : ℕ) (e : Event) → n < nodes p → In e (events_of p n) → IsEventOf p e
node_event_is_of p n e lt (inl is) = subst (IsEventOf p) (sym is) lt
node_event_is_of p n e lt (inr i) = elim (in_append e (samples_of n (waves_of p.streams) ++ map (λ m. Recv n m) (up_to (nodes p))) (Tick n ∷ []) i) [
  | inl j ↦ elim (in_append e (samples_of n (waves_of p.streams)) (map (λ m. Recv n m) (up_to (nodes p))) j) [
    | inl k ↦ sample_is_of p n (waves_of p.streams) e lt (λ v there. there) k
    | inr k ↦ let from = in_from_map (λ (m : ℕ). Recv n m) (up_to (nodes p)) e k in subst (IsEventOf p) (sym from.1.1) (lt, up_to_below (nodes p) from.0 from.1.0)
  ]
  | inr (inl is) ↦ subst (IsEventOf p) (sym is) lt
  | inr (inr none) ↦ absurd none
]

below_is_of : (p : Plan) (k : ℕ) (e : Event) → k ≤ nodes p → In e (events_below p k) → IsEventOf p e
below_is_of p zero e le i = absurd i
below_is_of p (suc k) e le i = elim (in_append e (events_below p k) (events_of p k) i) [
  | inl j ↦ below_is_of p k e (omega (arith, le)) j
  | inr j ↦ node_event_is_of p k e (omega (arith, le)) j
]

enabled_is_of : (p : Plan) (journal : List Event) (e : Event) → HasPlanFacts p → IsLegal p journal → is_enabled p (after p journal) e ≡ true → IsEventOf p e
unfolding enabled_events
enabled_is_of p journal e facts legal can =
    below_is_of p (nodes p) e (omega arith) (in_from_filter (is_enabled p (after p journal)) e (events_below p (nodes p)) ((listed_where_enabled p journal e facts legal).0 can)).0

rest_are_of : (p : Plan) (done es : List Event) → HasPlanFacts p → IsLegal p done → IsLegalFrom p (after p done) es → AllByRecursion (IsEventOf p) es
rest_are_of p done [] facts legal more = tt
rest_are_of p done (e ∷ es) facts legal more = (
  enabled_is_of p done e facts legal more.0,
  rest_are_of p (done ++ e ∷ []) es facts (legal_more p done e legal more.0) (subst (λ (st : State). IsLegalFrom p st es) (sym (after_more p done e)) more.1),
)

-- the events of a legal journal are of the plan
pub legal_are_of : (p : Plan) (journal : List Event) → IsPlan p → IsLegal p journal → AreEventsOf p journal
legal_are_of p journal plan legal = rest_are_of p [] journal (plan_facts p plan) tt legal

-- ---- the first event that is refused

accepted_from : (p : Plan) (st : State) (es : List Event) → IsLegalFrom p st es → first_refused p st es ≡ None
accepted_from p st [] legal = refl
accepted_from p st (e ∷ es) legal =
    ap (λ (b : Bool). if b then option_map suc (first_refused p (step p st e) es) else Some 0) legal.0
    ∙ ap (λ (o : Option ℕ). option_map suc o) (accepted_from p (step p st e) es legal.1)

-- none of a legal journal is
pub accepted : (p : Plan) (journal : List Event) → IsLegal p journal → first_refused p (start p) journal ≡ None
accepted p journal legal = accepted_from p (start p) journal legal

refused_from : (p : Plan) (st : State) (es : List Event) (e : Event) (rest : List Event) → IsLegalFrom p st es → is_enabled p (run p st es) e ≡ false → first_refused p st (es ++ e ∷ rest) ≡ Some (length es)
refused_from p st [] e rest legal not = ap (λ (b : Bool). if b then option_map suc (first_refused p (step p st e) rest) else Some 0) not
refused_from p st (f ∷ es) e rest legal not =
    ap (λ (b : Bool). if b then option_map suc (first_refused p (step p st f) (es ++ e ∷ rest)) else Some 0) legal.0
    ∙ ap (λ (o : Option ℕ). option_map suc o) (refused_from p (step p st f) es e rest legal.1 not)

-- the event after a legal journal that it may not follow
pub refused_after : (p : Plan) (es : List Event) (e : Event) (rest : List Event) → IsLegal p es → is_enabled p (after p es) e ≡ false → first_refused p (start p) (es ++ e ∷ rest) ≡ Some (length es)
refused_after p es e rest legal not = refused_from p (start p) es e rest legal not

-- the event of a journal that may not come after those before it
pub refused_at : (p : Plan) (journal : List Event) (n : ℕ) (e : Event) → IsLegal p (take n journal) → slice_get journal n ≡ Some e → is_enabled p (after p (take n journal)) e ≡ false → first_refused p (start p) journal ≡ Some n
refused_at p journal n e legal at not =
    let within : n < length journal = slice_get_within journal n e at in
    let parts : take n journal ++ e ∷ drop (n + 1) journal ≡ journal
    = ap (λ es. take n journal ++ es) (ap (λ x. x ∷ drop (n + 1) journal) (sym (get_or_from_slice_get journal n e e at)) ∙ sym (drop_more journal n e within)) ∙ take-append-drop n journal in
    ap (first_refused p (start p)) (sym parts)
    ∙ refused_after p (take n journal) e (drop (n + 1) journal) legal not
    ∙ ap (λ (k : ℕ). Some k) (length-take-le n journal (omega arith))
