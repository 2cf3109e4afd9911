-- What a node covers of a wave only grows, and a wave that has ended doesn't begin again.
use Rattle.std.proofs.Common.{◌≡◌, ℕ, Bool, true, ◌==◌, List, [], ◌∷◌, ◌++◌, inl, inr, refl, sym, subst, eqb-true}
use Rattle.std.proofs.lemmas.Bool.{and_parts, cases_Bool, eqb-false}
use Rattle.stat_plan.specs.Plans.{Plan}
use Rattle.stat_plan.specs.Machine.Waves.{Wave}
use Rattle.overlay_event.specs.declared.event.Event.{Event}
use Rattle.overlay_event.specs.declared.event.Event.TheVariants.{Sample, Recv, Tick, Lose}
use Rattle.overlay_core.specs.Nodes.{Packet, Node, Outcome, sampled, after_tick, received}
use Rattle.overlay_core.specs.Machine.{State, step, commit, with_link, lose, receive, is_enabled}
use Rattle.overlay_core.specs.Runs.{after, IsLegal}
use Rattle.overlay_event.specs.Events.{event_node}
use Rattle.overlay_core.specs.Counts.{OnlyGrows}
use Rattle.overlay_core.specs.LinkInvariant.{LinkInvariant}
use Rattle.stat_plan.proofs.PlanFacts.{HasPlanFacts}
use Rattle.overlay_core.proofs.Outcomes.{next_is_empty}
use Rattle.overlay_core.proofs.ParentLinks.{OutcomeLinks, sampled_links, tick_links, received_links, front_top_of}
use Rattle.overlay_core.proofs.Whole.{legal_is_sound}
use Rattle.overlay_core.proofs.Independent.{node_else}
use Rattle.overlay_core.proofs.Journals.{after_more, legal_less}
use Rattle.overlay_core.proofs.Sends.{commit_here}
use Rattle.overlay_core.proofs.Steps.{first_sound}

same_grows : (v : Wave) → OnlyGrows v v
same_grows v = record { opens = λ e. e; covers = λ e r i. i }

commit_grows : (p : Plan) (alive : ℕ → Bool) (st : State) (n : ℕ) (taken : List (ℕ × Packet)) (o : Outcome) (s w : ℕ) → OutcomeLinks p alive n (st.node n) taken o → OnlyGrows ((st.node n).book s w) (((commit st n o).node n).book s w)
commit_grows p alive st n taken o s w h = subst (λ (y : Node). OnlyGrows ((st.node n).book s w) (y.book s w)) (sym (commit_here st n o)) (record { opens = h.opens s w; covers = h.covered s w })

own_grows : (p : Plan) (st : State) (e : Event) (s w : ℕ) → HasPlanFacts p → LinkInvariant p st → is_enabled p st e ≡ true → OnlyGrows ((st.node (event_node e)).book s w) (((step p st e).node (event_node e)).book s w)
unfolding lose with_link
own_grows p st (Sample n a b) s w plan h en =
    let t = and_parts _ _ en in
    commit_grows p st.alive st n [] (sampled p n (st.node n) a b) s w (sampled_links p st.alive n (st.node n) a b (front_top_of p st.alive n (st.node n).kin plan (h.net.kin n)) (next_is_empty p (st.node n) a b t.1))
own_grows p st (Recv n m) s w plan h en = go (st.link m n) refl
  where
    go : (qs : List Packet) → st.link m n ≡ qs → OnlyGrows ((st.node n).book s w) (((receive p st n m qs).node n).book s w)
    go [] e = same_grows ((st.node n).book s w)
    go (q ∷ qs) e = commit_grows p st.alive (with_link st m n qs) n ((m, q) ∷ []) (received p n (st.node n) m q) s w (received_links p st.alive n (st.node n) m q plan (h.net.kin n) (first_sound p st m n q qs h e))
own_grows p st (Tick n) s w plan h en = commit_grows p st.alive st n [] (after_tick p n (st.node n)) s w (tick_links p st.alive n (st.node n) (front_top_of p st.alive n (st.node n).kin plan (h.net.kin n)))
own_grows p st (Lose n) s w plan h en = same_grows ((st.node n).book s w)

step_grows : (p : Plan) (st : State) (e : Event) (n s w : ℕ) → HasPlanFacts p → LinkInvariant p st → is_enabled p st e ≡ true → OnlyGrows ((st.node n).book s w) (((step p st e).node n).book s w)
step_grows p st e n s w plan h en = elim (cases_Bool (event_node e == n)) [
  | inl t ↦ subst (λ a. OnlyGrows ((st.node a).book s w) (((step p st e).node a).book s w)) (eqb-true (event_node e) n t) (own_grows p st e s w plan h en)
  | inr f ↦ subst (λ (y : Node). OnlyGrows ((st.node n).book s w) (y.book s w)) (sym (node_else p st e n (eqb-false (event_node e) n f))) (same_grows ((st.node n).book s w))
]

pub coverage_grows : (p : Plan) (journal : List Event) (e : Event) (n s w : ℕ) → HasPlanFacts p → IsLegal p (journal ++ e ∷ []) → OnlyGrows (((after p journal).node n).book s w) (((after p (journal ++ e ∷ [])).node n).book s w)
coverage_grows p journal e n s w plan l =
    let k = legal_less p journal e l in
    subst (λ (st : State). OnlyGrows (((after p journal).node n).book s w) ((st.node n).book s w)) (sym (after_more p journal e)) (step_grows p (after p journal) e n s w plan (legal_is_sound p journal plan k.0).base k.1)
