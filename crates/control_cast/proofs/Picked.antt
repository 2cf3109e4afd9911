-- The list of events has exactly those that may come, and the journal that a seed picks is whole.
use Rattle.std.proofs.Common.{◌≡◌, ◌≤◌, ◌<◌, ◌+◌, inl, inr, ℕ, true, cond, ◌==◌, List, [], ◌∷◌, map, length, refl, sym, subst, arith, eq-eqb}
use Rattle.std.proofs.lemmas.Bool.{and_parts}
use Rattle.overlay_setup.specs.NodeSets.{In, up_to}
use Rattle.stat_plan.specs.Plans.{Plan, nodes, front, is_front}
use Rattle.stat_plan.proofs.PlanFacts.{HasPlanFacts}
use Rattle.stat_plan.proofs.InLists.{in_map, append_left, append_right, in_from_filter, in_filter, up_to_in}
use Rattle.control_cast.specs.declared.event.CastEvent.{CastEvent}
use Rattle.control_cast.specs.declared.event.CastEvent.TheVariants.{Issue, Recv, Lose}
use Rattle.control_cast.specs.Machine.{State, start, step, is_enabled, events_of, events_below, enabled_events, after, IsLegal, IsQuiet}
use Rattle.control_cast.specs.CastInvariant.{CastInvariant}
use Rattle.control_cast.specs.Bound.{bound}
use Rattle.stat_plan.specs.Machine.Journals.{IsLegalFrom}
use Rattle.control_cast.specs.Casts.{AreEventsOf, IsEventOf}
use Rattle.control_cast.specs.Picked.{picked, IsPicked}
use Rattle.stat_plan.proofs.Journals.{ListsEnabled, quiet_from_list, picks_legal, picked_ends, picked_is_one, in_below}
use Rattle.stat_plan.proofs.Overlays.{first_in}
use Rattle.control_cast.proofs.Sound.{active_parts, step_keeps, start_cast, legal_is_sound}
use Rattle.control_cast.proofs.Short.{sender_below, step_falls, start_is_light, legal_is_short, cast_weight}

can_be_named : (p : Plan) (commands : ℕ) (st : State) (e : CastEvent) → HasPlanFacts p → CastInvariant p commands st → is_enabled p commands st e ≡ true → In e (events_below p (nodes p))
unfolding is_front
can_be_named p commands st Issue plan h en =
    in_below (events_below p) (events_of p) (λ k. refl) (nodes p) (front p) Issue plan.front_below (inr (append_left Issue (cond (front p == front p) (Issue ∷ []) []) _ (subst (λ b. In Issue (cond b (Issue ∷ []) [])) (sym (eq-eqb (front p) (front p) refl)) (inl refl))))
can_be_named p commands st (Recv n m) plan h en =
    let t = and_parts _ _ en in
    let q = first_in (st.net.link m n) t.1 in
    let lt : m < nodes p = sender_below p m n q.0 plan ((h.base.links m n).packets q.0 q.1) in
    in_below (events_below p) (events_of p) (λ k. refl) (nodes p) n (Recv n m) (h.base.nodes n (active_parts p st.net n t.0).0) (inr (append_right (Recv n m) (cond (n == front p) (Issue ∷ []) []) (map (λ m. Recv n m) (up_to (nodes p))) (in_map (λ m. Recv n m) m (up_to (nodes p)) (up_to_in (nodes p) m lt))))
can_be_named p commands st (Lose n) plan h en = in_below (events_below p) (events_of p) (λ k. refl) (nodes p) n (Lose n) (h.base.nodes n (and_parts _ _ en).0) (inl refl)

pub lists_enabled : (p : Plan) (commands : ℕ) → HasPlanFacts p → ListsEnabled (CastInvariant p commands) (is_enabled p commands) (enabled_events p commands)
lists_enabled p commands plan = record {
  may_come = λ st e i. (in_from_filter (is_enabled p commands st) e (events_below p (nodes p)) i).1;
  listed = λ st e h en. in_filter (is_enabled p commands st) e (events_below p (nodes p)) (can_be_named p commands st e plan h en) en;
}

pub picked_is_picked : (p : Plan) (commands seed : ℕ) → HasPlanFacts p → IsPicked p commands seed (picked p commands seed)
picked_is_picked p commands seed plan =
    picked_ends (CastInvariant p commands) (step p) (is_enabled p commands) (enabled_events p commands) (cast_weight p commands) (lists_enabled p commands plan) (step_keeps p commands plan) (step_falls p commands plan) (bound p commands + 1) seed (start p) (start_cast p commands plan) (let k = start_is_light p commands plan in omega arith)

pub picked_is_legal : (p : Plan) (commands seed : ℕ) (journal : List CastEvent) → HasPlanFacts p → IsPicked p commands seed journal → IsLegal p commands journal
picked_is_legal p commands seed journal plan h = picks_legal (CastInvariant p commands) (step p) (is_enabled p commands) (enabled_events p commands) (lists_enabled p commands plan) seed (start p) journal h.last h.picks

pub picked_is_quiet : (p : Plan) (commands seed : ℕ) (journal : List CastEvent) → HasPlanFacts p → IsPicked p commands seed journal → IsQuiet p commands (after p journal)
picked_is_quiet p commands seed journal plan h = quiet_from_list (CastInvariant p commands) (is_enabled p commands) (enabled_events p commands) (lists_enabled p commands plan) (after p journal) (legal_is_sound p commands journal plan (picked_is_legal p commands seed journal plan h)) h.ends

pub one_is_picked : (p : Plan) (commands seed : ℕ) (journal : List CastEvent) → HasPlanFacts p → IsPicked p commands seed journal → journal ≡ picked p commands seed
one_is_picked p commands seed journal plan h =
    let short : length journal ≤ bound p commands = legal_is_short p commands journal plan (picked_is_legal p commands seed journal plan h) in
    picked_is_one (step p) (enabled_events p commands) (bound p commands + 1) seed (start p) journal h.last h.picks h.ends (omega arith)

-- ---- an event that may come is of nodes of the plan

event_named : (p : Plan) (commands : ℕ) (st : State) (e : CastEvent) → HasPlanFacts p → CastInvariant p commands st → is_enabled p commands st e ≡ true → IsEventOf p e
event_named p commands st Issue plan h en = tt
event_named p commands st (Recv n m) plan h en =
    let t = and_parts _ _ en in
    let q = first_in (st.net.link m n) t.1 in
    (h.base.nodes n (active_parts p st.net n t.0).0, sender_below p m n q.0 plan ((h.base.links m n).packets q.0 q.1))
event_named p commands st (Lose n) plan h en = h.base.nodes n (and_parts _ _ en).0

events_named : (p : Plan) (commands : ℕ) (st : State) (es : List CastEvent) → HasPlanFacts p → CastInvariant p commands st → IsLegalFrom (step p) (is_enabled p commands) st es → AreEventsOf p es
events_named p commands st [] plan h l = tt
events_named p commands st (e ∷ es) plan h l = (event_named p commands st e plan h l.0, events_named p commands (step p st e) es plan (step_keeps p commands plan st e h l.0) l.1)

pub legal_is_named : (p : Plan) (commands : ℕ) (journal : List CastEvent) → HasPlanFacts p → IsLegal p commands journal → AreEventsOf p journal
legal_is_named p commands journal plan l = events_named p commands (start p) journal plan (start_cast p commands plan) l
