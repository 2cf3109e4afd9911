-- Journals with an event more, and what stands in the list of enabled events.
use Rattle.std.proofs.Common.{◌≡◌, ◌≤◌, ◌<◌, ◌+◌, ℕ, true, false, List, [], ◌∷◌, ◌++◌, length, arith, length-append, lt-ltb}
use Rattle.std.specs.Prelude.{◌↔◌}
use Rattle.overlay_setup.specs.NodeSets.{In}
use Rattle.stat_plan.specs.Plans.{Plan, nodes}
use Rattle.overlay_event.specs.declared.event.Event.{Event}
use Rattle.overlay_core.specs.Bound.{bound}
use Rattle.overlay_core.specs.Losses.{IsLost}
use Rattle.overlay_core.specs.Machine.{start, step, is_enabled, enabled_events}
use Rattle.overlay_core.specs.Runs.{after, IsLegal, IsQuiet}
use Rattle.stat_plan.proofs.PlanFacts.{HasPlanFacts}
use Rattle.overlay_core.proofs.Whole.{legal_is_sound, dead_is_lost}
use Rattle.overlay_core.proofs.Potential.{legal_is_short}
use Rattle.overlay_core.proofs.Enabled.{enabled_listed, lists, listed_enabled}
use Rattle.overlay_core.proofs.Picks.{lost_is_dead, list_from_quiet}
use Rattle.overlay_core.specs.Whole.{IsSound}
use Rattle.stat_plan.proofs.Journals as journals

pub after_more : (p : Plan) (journal : List Event) (e : Event) → after p (journal ++ e ∷ []) ≡ step p (after p journal) e
after_more p journal e = journals.run_more (step p) (start p) journal e

pub legal_more : (p : Plan) (journal : List Event) (e : Event) → IsLegal p journal → is_enabled p (after p journal) e ≡ true → IsLegal p (journal ++ e ∷ [])
legal_more p journal e l en = journals.legal_more (step p) (is_enabled p) (start p) journal e l en

pub legal_less : (p : Plan) (journal : List Event) (e : Event) → IsLegal p (journal ++ e ∷ []) → IsLegal p journal × (is_enabled p (after p journal) e ≡ true)
legal_less p journal e l = journals.legal_less (step p) (is_enabled p) (start p) journal e l

-- there is room for an event that may come
pub legal_has_room : (p : Plan) (journal : List Event) (e : Event) → HasPlanFacts p → IsLegal p journal → is_enabled p (after p journal) e ≡ true → length journal < bound p
legal_has_room p journal e plan l en =
    let short : length (journal ++ e ∷ []) ≤ bound p = legal_is_short p (journal ++ e ∷ []) plan (legal_more p journal e l en) in
    let more : length (journal ++ e ∷ []) ≡ length journal + 1 = length-append journal (e ∷ []) in
    omega arith

pub listed_where_enabled : (p : Plan) (journal : List Event) (e : Event) → HasPlanFacts p → IsLegal p journal → (is_enabled p (after p journal) e ≡ true) ↔ In e (enabled_events p (after p journal))
listed_where_enabled p journal e plan l = (
  (λ en. enabled_listed p (after p journal) e plan (legal_is_sound p journal plan l).base en),
  (λ i. listed_enabled p (after p journal) e i),
)

pub quiet_where_empty : (p : Plan) (journal : List Event) → HasPlanFacts p → IsLegal p journal → IsQuiet p (after p journal) ↔ (enabled_events p (after p journal) ≡ [])
quiet_where_empty p journal plan l = (
  (λ quiet. list_from_quiet p (after p journal) quiet),
  (λ none. journals.quiet_from_list (IsSound p) (is_enabled p) (enabled_events p) (lists p plan) (after p journal) (legal_is_sound p journal plan l) none),
)

alive_at_start : (p : Plan) (n : ℕ) → n < nodes p → (start p).alive n ≡ true
unfolding start
alive_at_start p n lt = lt-ltb n (nodes p) lt

pub lost_where_dead : (p : Plan) (journal : List Event) (n : ℕ) → n < nodes p → IsLost journal n ↔ ((after p journal).alive n ≡ false)
lost_where_dead p journal n lt = ((λ i. lost_is_dead p (start p) journal n i), (λ d. dead_is_lost p (start p) journal n (alive_at_start p n lt) d))
