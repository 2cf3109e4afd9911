-- A living node and its living parent, over a commit and over a loss.
use Rattle.std.proofs.Common.{◌≡◌, ◌⊎◌, inl, inr, ℕ, true, false, ◌==◌, List, [], ◌∷◌, refl, sym, ap, subst, ◌∙◌, eqb-true, eq-eqb, Some}
use Rattle.std.proofs.lemmas.Bool.{cond-true, cond-false, and_parts, cases_Bool, eqb-false, true≢false}
use Rattle.overlay_setup.specs.NodeSets.{In}
use Rattle.stat_plan.specs.Plans.{Plan, ancestors, waves_at, serves}
use Rattle.overlay_core.specs.Nodes.{Packet, Up, Done, Attach, Down, Node, Outcome, received}
use Rattle.stat_plan.specs.Machine.Waves.{is_open}
use Rattle.stat_plan.proofs.KinLemmas.{nearest_in}
use Rattle.overlay_core.specs.Machine.{State, step, commit, with_link, lose, receive, net_of, is_enabled}
use Rattle.stat_plan.proofs.PlanFacts.{HasPlanFacts}
use Rattle.overlay_core.specs.LinkInvariant.{LinkInvariant}
use Rattle.stat_plan.specs.Machine.LossInvariant.{KinIsSound}
use Rattle.overlay_core.specs.ParentChild.{IsUnderWay, ParentChildHolds, ParentChildInvariant}
use Rattle.overlay_event.specs.declared.event.Event.{Event}
use Rattle.overlay_event.specs.declared.event.Event.TheVariants.{Sample, Recv, Tick, Lose}
use Rattle.stat_plan.proofs.InLists.{in_from_member, in_from_filter}
use Rattle.overlay_core.proofs.Outcomes.{next_is_empty, next_is_named, sampled_sound, tick_sound, received_sound}
use Rattle.overlay_core.proofs.Commits.{next_node, commit_link_grows, commit_link_sent}
use Rattle.stat_plan.proofs.Overlays.{was_alive, ne_false, lost_else, popped_each}
use Rattle.overlay_core.proofs.ParentLinks.{OutcomeLinks, sampled_links, tick_links, received_links, front_top_of}
use Rattle.overlay_core.proofs.Steps.{first_sound}

under_way_more : (r s w : ℕ) (xs ys : List Packet) → ((q : Packet) → In q xs → In q ys) → IsUnderWay r s w xs → IsUnderWay r s w ys
under_way_more r s w xs ys f h = record { set = h.set; there = f (Up s w h.set) h.there; holds = h.holds }

-- the packets that n took off its links: each packet of an old link is on the new one or was taken
abbrev pub TakesFrom : (ℕ → ℕ → List Packet) → State → ℕ → List (ℕ × Packet) → Type 0
TakesFrom old st n taken = (a b : ℕ) (q : Packet) → In q (old a b) → In q (st.link a b) ⊎ ((b ≡ n) × (In (a, q) taken))

-- n is neither
pair_else : (p : Plan) (old : ℕ → ℕ → List Packet) (st : State) (n : ℕ) (taken : List (ℕ × Packet)) (o : Outcome) (c q : ℕ) (x y : Node) → TakesFrom old st n taken → (c ≡ n → ⊥) → (q ≡ n → ⊥) → ParentChildHolds p c x y (old c q) (old q c) → ParentChildHolds p c x y ((commit st n o).link c q) ((commit st n o).link q c)
pair_else p old st n taken o c q x y takes nc nq h = record {
  child = elim h.child [ inl i ↦ inl i | inr i ↦ inr (up Attach i) ];
  sent = λ s w r e i. elim (h.sent s w r e i) [ inl j ↦ inl j | inr j ↦ inr (under_way_more r s w _ _ up j) ];
  closed = λ s w i e f. elim (h.closed s w i e f) [ inl j ↦ inl (down (Done s w) j) | inr j ↦ inr (up Attach j) ];
}
  where
    up : (v : Packet) → In v (old c q) → In v ((commit st n o).link c q)
    up v i = elim (takes c q v i) [ inl j ↦ commit_link_grows st n o c q v j | inr t ↦ absurd (nq t.0) ]

    down : (v : Packet) → In v (old q c) → In v ((commit st n o).link q c)
    down v i = elim (takes q c v i) [ inl j ↦ commit_link_grows st n o q c v j | inr t ↦ absurd (nc t.0) ]

-- n is the child
pair_child : (p : Plan) (old : ℕ → ℕ → List Packet) (st : State) (n : ℕ) (taken : List (ℕ × Packet)) (o : Outcome) (q : ℕ) (x y : Node) → TakesFrom old st n taken → (q ≡ n → ⊥) → st.alive q ≡ true → OutcomeLinks p st.alive n x taken o → o.kin.parent ≡ Some q → (x.kin.parent ≡ Some q → ParentChildHolds p n x y (old n q) (old q n)) → ParentChildHolds p n (next_node x o) y ((commit st n o).link n q) ((commit st n o).link q n)
pair_child p old st n taken o q x y takes nq alive g par h = record {
  child = elim g.parent [
    | inl e ↦ elim (h (sym e ∙ par)).child [ inl i ↦ inl i | inr i ↦ inr (up Attach i) ]
    | inr f ↦ inr (fresh Attach (f q par))
  ];
  sent = λ s w r e i. elim (g.sent s w r i) [
    | inl j ↦ elim ((h (sym j.0 ∙ par)).sent s w r e j.1) [ inl k ↦ inl k | inr k ↦ inr (under_way_more r s w _ _ up k) ]
    | inr f ↦ let t = f q par in inr (record { set = t.set; there = fresh (Up s w t.set) t.there; holds = t.holds })
  ];
  closed = λ s w i e f. elim g.parent [
    | inl k ↦ elim ((h (sym k ∙ par)).closed s w i e (g.opens s w f)) [
      | inl j ↦ elim (takes q n (Done s w) j) [ inl t ↦ inl (commit_link_grows st n o q n (Done s w) t) | inr t ↦ absurd (let z = g.took_done q s w t.1 in true≢false (sym f ∙ z)) ]
      | inr j ↦ inr (up Attach j)
    ]
    | inr k ↦ inr (fresh Attach (k q par))
  ];
}
  where
    up : (v : Packet) → In v (old n q) → In v ((commit st n o).link n q)
    up v i = elim (takes n q v i) [ inl j ↦ commit_link_grows st n o n q v j | inr t ↦ absurd (nq t.0) ]

    fresh : (v : Packet) → In (q, v) o.work.sends → In v ((commit st n o).link n q)
    fresh v i = commit_link_sent st n o q v alive i

-- n is the parent
pair_parent : (p : Plan) (old : ℕ → ℕ → List Packet) (st : State) (n : ℕ) (taken : List (ℕ × Packet)) (o : Outcome) (c : ℕ) (x y : Node) → TakesFrom old st n taken → (c ≡ n → ⊥) → st.alive c ≡ true → OutcomeLinks p st.alive n y taken o → ParentChildHolds p c x y (old c n) (old n c) → ParentChildHolds p c x (next_node y o) ((commit st n o).link c n) ((commit st n o).link n c)
unfolding waves_at
pair_parent p old st n taken o c x y takes nc alive g h = record {
  child = elim h.child [
    | inl i ↦ inl (g.children c alive i)
    | inr i ↦ elim (takes c n Attach i) [ inl j ↦ inr (grows c n Attach j) | inr t ↦ inl (g.took_attach c t.1) ]
  ];
  sent = λ s w r e i. elim (h.sent s w r (g.opens s w e) i) [
    | inl j ↦ inl (g.covered s w e r j)
    | inr j ↦ elim (takes c n (Up s w j.set) j.there) [
      | inl k ↦ inr (record { set = j.set; there = grows c n (Up s w j.set) k; holds = j.holds })
      | inr t ↦ inl (g.took_up c s w j.set t.1 e r j.holds)
    ]
  ];
  closed = λ s w i e f. elim (cases_Bool (is_open (y.book s w))) [
    | inl k ↦ elim h.child [
      | inl j ↦ inl (fresh (Done s w) (g.closing s w k e c alive j (in_from_filter (λ v. serves p c v.0) (s, w) _ i).1))
      | inr j ↦ attached s w i e j
    ]
    | inr k ↦ elim (h.closed s w i k f) [ inl j ↦ inl (down (Done s w) j) | inr j ↦ attached s w i e j ]
  ];
}
  where
    grows : (a b : ℕ) (v : Packet) → In v (st.link a b) → In v ((commit st n o).link a b)
    grows a b v i = commit_link_grows st n o a b v i

    down : (v : Packet) → In v (old n c) → In v ((commit st n o).link n c)
    down v i = elim (takes n c v i) [ inl j ↦ commit_link_grows st n o n c v j | inr t ↦ absurd (nc t.0) ]

    fresh : (v : Packet) → In (c, v) o.work.sends → In v ((commit st n o).link n c)
    fresh v i = commit_link_sent st n o c v alive i

    attached : (s w : ℕ) → In (s, w) (waves_at p c) → is_open (o.work.book s w) ≡ false → In Attach (old c n) → In (Done s w) ((commit st n o).link n c) ⊎ In Attach ((commit st n o).link c n)
    attached s w i e j = elim (takes c n Attach j) [ inl k ↦ inr (grows c n Attach k) | inr t ↦ inl (fresh (Done s w) (g.answered c s w t.1 i e)) ]

pub node_here : (st : State) (n : ℕ) (o : Outcome) (a : ℕ) → a ≡ n → (commit st n o).node a ≡ next_node (st.node n) o
unfolding commit
node_here st n o a e = cond-true (a == n) (next_node (st.node n) o) (st.node a) (eq-eqb a n e)

pub node_else : (st : State) (n : ℕ) (o : Outcome) (a : ℕ) → (a == n) ≡ false → (commit st n o).node a ≡ st.node a
unfolding commit
node_else st n o a e = cond-false (a == n) (next_node (st.node n) o) (st.node a) e

commit_pairs : (p : Plan) (old : ℕ → ℕ → List Packet) (st : State) (n : ℕ) (taken : List (ℕ × Packet)) (o : Outcome) → HasPlanFacts p → TakesFrom old st n taken → OutcomeLinks p st.alive n (st.node n) taken o → KinIsSound p st.alive n o.kin
    → ((c q : ℕ) → st.alive c ≡ true → st.alive q ≡ true → (st.node c).kin.parent ≡ Some q → ParentChildHolds p c (st.node c) (st.node q) (old c q) (old q c))
    → ParentChildInvariant p (commit st n o)
unfolding commit
commit_pairs p old st n taken o plan takes g hk h c q uc uq par =
    elim (cases_Bool (c == n)) [
      | inl tc ↦
          let ec : c ≡ n = eqb-true c n tc in
          let par' : o.kin.parent ≡ Some q = subst (λ v. v.kin.parent ≡ Some q) (node_here st n o c ec) par in
          let nq : q ≡ n → ⊥ = (λ e. plan.under_irrefl n (nearest_in (ancestors p n) o.kin.lost n (sym hk.parent ∙ par' ∙ ap Some e))) in
          let nq' : (q == n) ≡ false = (ne_false q n nq) in
          subst (λ v. ParentChildHolds p c v ((commit st n o).node q) ((commit st n o).link c q) ((commit st n o).link q c)) (sym (node_here st n o c ec))
          (subst (λ v. ParentChildHolds p c (next_node (st.node n) o) v ((commit st n o).link c q) ((commit st n o).link q c)) (sym (node_else st n o q nq'))
          (subst (λ a. ParentChildHolds p a (next_node (st.node n) o) (st.node q) ((commit st n o).link a q) ((commit st n o).link q a)) (sym ec)
          (pair_child p old st n taken o q (st.node n) (st.node q) takes nq uq g par' (λ e. h n q (subst (λ a. st.alive a ≡ true) ec uc) uq e))))
      | inr fc ↦
          let nc : c ≡ n → ⊥ = eqb-false c n fc in
          let par' : (st.node c).kin.parent ≡ Some q = subst (λ v. v.kin.parent ≡ Some q) (node_else st n o c fc) par in
          subst (λ v. ParentChildHolds p c v ((commit st n o).node q) ((commit st n o).link c q) ((commit st n o).link q c)) (sym (node_else st n o c fc))
          (elim (cases_Bool (q == n)) [
            | inl tq ↦
                let eq : q ≡ n = eqb-true q n tq in
                subst (λ v. ParentChildHolds p c (st.node c) v ((commit st n o).link c q) ((commit st n o).link q c)) (sym (node_here st n o q eq))
                (subst (λ a. ParentChildHolds p c (st.node c) (next_node (st.node n) o) ((commit st n o).link c a) ((commit st n o).link a c)) (sym eq)
                (pair_parent p old st n taken o c (st.node c) (st.node n) takes nc uc g (h c n uc (subst (λ a. st.alive a ≡ true) eq uq) (par' ∙ ap Some eq))))
            | inr fq ↦
                subst (λ v. ParentChildHolds p c (st.node c) v ((commit st n o).link c q) ((commit st n o).link q c)) (sym (node_else st n o q fq))
                (pair_else p old st n taken o c q (st.node c) (st.node q) takes nc (eqb-false q n fq) (h c q uc uq par'))
          ])
    ]

pub takes_none : (st : State) (n : ℕ) → TakesFrom st.link st n []
takes_none st n a b q i = inl i

pub takes_front : (st : State) (m n : ℕ) (q : Packet) (qs : List Packet) → st.link m n ≡ q ∷ qs → TakesFrom st.link (with_link st m n qs) n ((m, q) ∷ [])
unfolding with_link
takes_front st m n q qs e a b v i = popped_each (λ a b l. In v (st.link a b) → In v l ⊎ ((b ≡ n) × (In {X = ℕ × Packet} (a, v) ((m, q) ∷ [])))) (net_of st) m n qs
    (λ i. elim (subst (λ l. In v l) e i) [ inl k ↦ inr (refl, inl (λ j. (m, k j))) | inr k ↦ inl k ])
    (λ a b i. inl i) a b i

receive_pairs : (p : Plan) (st : State) (n m : ℕ) (qs : List Packet) → HasPlanFacts p → LinkInvariant p st → ParentChildInvariant p st → st.link m n ≡ qs → ParentChildInvariant p (receive p st n m qs)
unfolding with_link
receive_pairs p st n m [] plan h hp e = hp
receive_pairs p st n m (q ∷ qs) plan h hp e =
    let hq = first_sound p st m n q qs h e in
    commit_pairs p st.link (with_link st m n qs) n ((m, q) ∷ []) (received p n (st.node n) m q) plan (takes_front st m n q qs e)
    (received_links p st.alive n (st.node n) m q plan (h.net.kin n) hq)
    (received_sound p st.alive n (st.node n) m q plan (h.net.kin n) (h.books n) hq).kin
    hp

lose_pairs : (p : Plan) (st : State) (n : ℕ) → ParentChildInvariant p st → ParentChildInvariant p (lose p st n)
unfolding lose
lose_pairs p st n h c q uc uq par =
    let c' = was_alive st.alive n c uc in
    let q' = was_alive st.alive n q uq in
    subst (λ l. ParentChildHolds p c (st.node c) (st.node q) l ((lose p st n).link q c)) (sym (lost_else Down p (net_of st) n c q (eqb-false q n q'.1) (eqb-false c n c'.1)))
    (subst (λ l. ParentChildHolds p c (st.node c) (st.node q) (st.link c q) l) (sym (lost_else Down p (net_of st) n q c (eqb-false c n c'.1) (eqb-false q n q'.1))) (h c q c'.0 q'.0 par))

pub step_pairs : (p : Plan) (st : State) (e : Event) → HasPlanFacts p → LinkInvariant p st → ParentChildInvariant p st → is_enabled p st e ≡ true → ParentChildInvariant p (step p st e)
step_pairs p st (Sample n s w) plan h hp e =
    let t = and_parts _ _ e in
    let u = and_parts _ _ t.0 in
    let z = next_is_empty p (st.node n) s w t.1 in
    commit_pairs p st.link st n [] _ plan (takes_none st n) (sampled_links p st.alive n (st.node n) s w (front_top_of p st.alive n (st.node n).kin plan (h.net.kin n)) z)
    (sampled_sound p st.alive n (st.node n) s w plan (h.net.kin n) (h.books n) (in_from_member n _ u.1) (next_is_named p (st.node n) s w t.1) z).kin hp
step_pairs p st (Recv n m) plan h hp e = receive_pairs p st n m (st.link m n) plan h hp refl
step_pairs p st (Tick n) plan h hp e =
    commit_pairs p st.link st n [] _ plan (takes_none st n) (tick_links p st.alive n (st.node n) (front_top_of p st.alive n (st.node n).kin plan (h.net.kin n)))
    (tick_sound p st.alive n (st.node n) (h.net.kin n) (h.books n)).kin hp
step_pairs p st (Lose n) plan h hp e = lose_pairs p st n hp
