-- The list of enabled events has each of them.
use Rattle.std.proofs.Common.{◌≡◌, inl, inr, ℕ, true, List, [], ◌∷◌, ◌++◌, map, refl, ap}
use Rattle.std.proofs.lemmas.Bool.{and_parts}
use Rattle.overlay_setup.specs.NodeSets.{In, up_to}
use Rattle.stat_plan.specs.Plans.{Plan, nodes, waves_of}
use Rattle.overlay_core.specs.Machine.{State, is_enabled, samples_of, events_of, events_below, enabled_events}
use Rattle.stat_plan.proofs.PlanFacts.{HasPlanFacts}
use Rattle.overlay_core.specs.LinkInvariant.{LinkInvariant}
use Rattle.overlay_event.specs.declared.event.Event.{Event}
use Rattle.overlay_event.specs.declared.event.Event.TheVariants.{Sample, Recv, Tick, Lose}
use Rattle.stat_plan.proofs.InLists.{append_left, append_right, in_from_filter, up_to_in, in_filter, in_map}
use Rattle.overlay_core.proofs.Outcomes.{next_is_named}
use Rattle.overlay_core.proofs.Steps.{active_parts}
use Rattle.overlay_core.proofs.Potential.{sender_below}
use Rattle.stat_plan.proofs.Journals.{ListsEnabled, in_below}
use Rattle.stat_plan.proofs.Overlays.{first_in}
use Rattle.overlay_core.specs.Whole.{IsSound}

in_samples : (n : ℕ) (vs : List (ℕ × ℕ)) (s w : ℕ) → In (s, w) vs → In (Sample n s w) (samples_of n vs)
in_samples n [] s w i = absurd i
in_samples n (v ∷ vs) s w (inl e) = let es : s ≡ v.0 = ap (λ y. y.0) e in let ew : w ≡ v.1 = ap (λ y. y.1) e in inl (cc)
in_samples n (v ∷ vs) s w (inr i) = inr (in_samples n vs s w i)

can_be_named : (p : Plan) (st : State) (e : Event) → HasPlanFacts p → LinkInvariant p st → is_enabled p st e ≡ true → In e (events_below p (nodes p))
can_be_named p st (Sample n s w) plan h e =
    let t = and_parts _ _ e in
    let u = and_parts _ _ t.0 in
    in_below (events_below p) (events_of p) (λ k. refl) (nodes p) n (Sample n s w) (h.net.nodes n (active_parts p st n u.0).0) (inr (append_left (Sample n s w) (samples_of n (waves_of p.streams) ++ map (λ m. Recv n m) (up_to (nodes p))) (Tick n ∷ []) (append_left (Sample n s w) (samples_of n (waves_of p.streams)) (map (λ m. Recv n m) (up_to (nodes p))) (in_samples n (waves_of p.streams) s w (next_is_named p (st.node n) s w t.1)))))
can_be_named p st (Recv n m) plan h e =
    let t = and_parts _ _ e in
    let q = first_in (st.link m n) t.1 in
    let lt = sender_below p m n q.0 plan ((h.net.links m n).packets q.0 q.1) in
    in_below (events_below p) (events_of p) (λ k. refl) (nodes p) n (Recv n m) (h.net.nodes n (active_parts p st n t.0).0) (inr (append_left (Recv n m) (samples_of n (waves_of p.streams) ++ map (λ m. Recv n m) (up_to (nodes p))) (Tick n ∷ []) (append_right (Recv n m) (samples_of n (waves_of p.streams)) (map (λ m. Recv n m) (up_to (nodes p))) (in_map (λ m. Recv n m) m (up_to (nodes p)) (up_to_in (nodes p) m lt)))))
can_be_named p st (Tick n) plan h e =
    in_below (events_below p) (events_of p) (λ k. refl) (nodes p) n (Tick n) (h.net.nodes n (active_parts p st n (and_parts _ _ e).0).0) (inr (append_right (Tick n) (samples_of n (waves_of p.streams) ++ map (λ m. Recv n m) (up_to (nodes p))) (Tick n ∷ []) (inl refl)))
can_be_named p st (Lose n) plan h e = in_below (events_below p) (events_of p) (λ k. refl) (nodes p) n (Lose n) (h.net.nodes n (and_parts _ _ e).0) (inl refl)

pub enabled_listed : (p : Plan) (st : State) (e : Event) → HasPlanFacts p → LinkInvariant p st → is_enabled p st e ≡ true → In e (enabled_events p st)
unfolding enabled_events
enabled_listed p st e plan h en = in_filter (is_enabled p st) e (events_below p (nodes p)) (can_be_named p st e plan h en) en

pub listed_enabled : (p : Plan) (st : State) (e : Event) → In e (enabled_events p st) → is_enabled p st e ≡ true
unfolding enabled_events
listed_enabled p st e i = (in_from_filter (is_enabled p st) e (events_below p (nodes p)) i).1

-- the list of a sound state has exactly the events that may come
pub lists : (p : Plan) → HasPlanFacts p → ListsEnabled (IsSound p) (is_enabled p) (enabled_events p)
lists p plan = record { may_come = listed_enabled p; listed = λ st e h en. enabled_listed p st e plan h.base en }

-- of any state it has none that may not come
pub lists_no_other : (p : Plan) → ListsEnabled (λ st. ⊥) (is_enabled p) (enabled_events p)
lists_no_other p = record { may_come = listed_enabled p; listed = λ st e h en. absurd h }
