-- A net that does picked events, one after another.
use Rattle.std.proofs.Common.{◌≡◌, ◌≤◌, ◌<◌, ◌+◌, ◌/◌, ◌%◌, ◌^◌, ℕ, Bool, true, List, [], ◌∷◌, ◌++◌, length, sym, ap, subst, ◌∙◌, arith, Some, None}
use Rattle.stat_plan.specs.Plans.{Plan}
use Rattle.stat_plan.specs.Invariants.{IsPlan}
use Rattle.stat_plan.specs.Machine.Journals.{next_number}
use Rattle.stat_plan.proofs.PlanFacts.{plan_facts}
use Rattle.node_inbox.specs.Inboxes.{InboxView}
use Rattle.control_cast.specs.declared.event.CastEvent.{CastEvent}
use Rattle.stat_plan.specs.Machine.Journals.{run, event_by, ArePickedFrom}
use Rattle.control_cast.specs.Machine.{Packet, State, start, step, after, is_enabled, enabled_events}
use Rattle.control_cast.specs.Picked.{picked}
use Rattle.control_cast.specs.CastNodes.{NodeView}
use Rattle.control_cast.specs.CastNets.{state_with, IsNet}
use Rattle.control_cast.specs.CastPicks.{HasCome, HasPicked}
use Rattle.stat_plan.proofs.Journals.{get_in, run_more, picks_more, none_listed}
use Rattle.control_cast.proofs.Picked.{lists_enabled, one_is_picked}
use Rattle.control_cast.proofs.Reached.{net_is_sound}
use Rattle.control_cast.proofs.Short.{cast_weight, step_falls}

pub event_enabled : (p : Plan) (commands : ℕ) (st : State) (x : ℕ) (e : CastEvent) → IsPlan p → Some e ≡ event_by (enabled_events p commands st) x → is_enabled p commands st e ≡ true
event_enabled p commands st x e plan is = (lists_enabled p commands (plan_facts p plan)).may_come st e (get_in (enabled_events p commands st) (x / 2 ^ 33 % length (enabled_events p commands st)) e (sym is))

pub weighs_less : (p : Plan) (commands : ℕ) (alive : List Bool) (xs : List NodeView) (boxes : List (InboxView Packet)) (e : CastEvent) (new : State) → IsPlan p → IsNet p commands alive xs boxes → is_enabled p commands (state_with p alive xs boxes) e ≡ true → new ≡ step p (state_with p alive xs boxes) e → cast_weight p commands new < cast_weight p commands (state_with p alive xs boxes)
weighs_less p commands alive xs boxes e new plan h en is =
    let a : cast_weight p commands (step p (state_with p alive xs boxes) e) + 1 ≤ cast_weight p commands (state_with p alive xs boxes) = step_falls p commands (plan_facts p plan) (state_with p alive xs boxes) e (net_is_sound p commands alive xs boxes plan h) en in
    let b : cast_weight p commands new ≡ cast_weight p commands (step p (state_with p alive xs boxes) e) = ap (cast_weight p commands) is in
    omega arith

pub come_more : (p : Plan) (commands : ℕ) (old mid new : State) (seed y z : ℕ) (journal more : List CastEvent) (e : CastEvent) → HasCome p commands old seed journal y mid → Some e ≡ event_by (enabled_events p commands mid) z → z ≡ next_number y → new ≡ step p mid e → more ≡ journal ++ e ∷ [] → HasCome p commands old seed more z new
come_more p commands old mid new seed y z journal more e h is ez en em =
    let k : event_by (enabled_events p commands (run (step p) old journal)) (next_number y) ≡ Some e = (λ i. event_by (enabled_events p commands (sym h.state i)) (sym ez i)) ∙ sym is in
    subst (λ es. HasCome p commands old seed es z new) (sym em)
    (subst (λ x. HasCome p commands old seed (journal ++ e ∷ []) x new) (sym ez) (record {
      picks = picks_more (step p) (enabled_events p commands) seed old journal y e h.picks k;
      state = en ∙ ap (λ s. step p s e) h.state ∙ sym (run_more (step p) old journal e);
    }))

pub all_come : (p : Plan) (commands : ℕ) (old new : State) (seed y z : ℕ) (journal : List CastEvent) → HasCome p commands old seed journal y new → None ≡ event_by (enabled_events p commands new) z → HasPicked p commands old seed journal new
all_come p commands old new seed y z journal h none = record {
  picked = record {
    last = y;
    picks = h.picks;
    ends = ap (enabled_events p commands) (sym h.state) ∙ none_listed (enabled_events p commands new) (z / 2 ^ 33) (sym none);
  };
  state = h.state;
}

-- a new net does what the seed picks
pub picked_at_start : (p : Plan) (commands : ℕ) (old new : State) (seed : ℕ) (journal : List CastEvent) → IsPlan p → HasPicked p commands old seed journal new → old ≡ start p → (journal ≡ picked p commands seed) × (new ≡ after p journal)
picked_at_start p commands old new seed journal plan h is = (
  one_is_picked p commands seed journal (plan_facts p plan) (subst (λ s. ArePickedFrom (step p) (enabled_events p commands) seed s journal) is h.picked),
  h.state ∙ ap (λ s. run (step p) s journal) is,
)
