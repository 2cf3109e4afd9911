-- A node that attaches keeps the invariant.
use Rattle.std.proofs.Common.{◌≡◌, ◌⊎◌, ◌≤◌, ◌-◌, inl, inr, ℕ, Bool, true, ◌==◌, List, [], ◌∷◌, ◌++◌, map, length, refl, sym, ap, subst, ◌∙◌, eqb-true, arith, Some}
use Rattle.std.proofs.lemmas.Bool.{cases_Bool, cond_both, eqb-false, true≢false}
use Rattle.overlay_setup.specs.NodeSets.{In, with_number}
use Rattle.stat_plan.specs.Machine.Kin.{Kin, with_child}
use Rattle.stat_plan.specs.Plans.{Plan, IsUnder}
use Rattle.stat_plan.proofs.KinLemmas.{in_with_number, with_number_old, with_number_new}
use Rattle.stat_plan.proofs.PlanFacts.{HasPlanFacts}
use Rattle.stat_plan.specs.Machine.Overlays.{to, with_link}
use Rattle.stat_plan.specs.Machine.LossInvariant.{KinIsSound}
use Rattle.stat_plan.proofs.Ascending.{with_number_increases}
use Rattle.control_cast.specs.Machine.{Packet, Cmd, Attach, Down, State, seen, numbers_after, received_attach, commit}
use Rattle.control_cast.specs.CastInvariant.{Fits, cmds, IsChild, IsAttaching, IsJoined, CastInvariant}
use Rattle.stat_plan.proofs.Overlays.{put_here, put_else, put_each, popped_here, popped_else, popped_in, sent_else, sent_here, sent_nothing, sent_in}
use Rattle.stat_plan.proofs.LossInvariant.{SendsFit, popped_keeps, event_keeps}
use Rattle.control_cast.proofs.Commands.{to_same, to_other, in_numbers, joined_by}
use Rattle.control_cast.proofs.Receiving.{parent_is_above}

-- a new child is under the node
with_child_sound : (p : Plan) (alive : ℕ → Bool) (n : ℕ) (kin : Kin) (m : ℕ) → KinIsSound p alive n kin → IsUnder p m n → KinIsSound p alive n (with_child kin m)
with_child_sound p alive n kin m hk u = record {
  lost = hk.lost;
  related = hk.related;
  parent = hk.parent;
  children = λ c i. elim (in_with_number c m kin.children i) [ inl e ↦ subst (λ a. IsUnder p a n) (sym e) u | inr j ↦ hk.children c j ];
  children_increase = with_number_increases m kin.children hk.children_increase;
}

attached_links : (m n k : ℕ) (below : ℕ) (children : List ℕ) (up down : List Packet) (qs : List Packet) (above : ℕ) → up ≡ Attach k ∷ qs → IsChild m below above children up down ⊎ IsAttaching m below children up down → IsAttaching m below children (Attach k ∷ []) down × ((k ≡ below) × (qs ≡ []))
attached_links m n k below children up down qs above e (inl h) = absurd (let z : (Attach k ∷ qs) ≡ [] = sym e ∙ h.up_empty in cc)
attached_links m n k below children up down qs above e (inr h) =
    let z : (Attach k ∷ qs) ≡ Attach below ∷ [] = sym e ∙ h.attach in
    let ek : k ≡ below = cc in
    (record { absent = h.absent; attach = ap (λ x. Attach x ∷ []) ek; down_empty = h.down_empty }, (ek, (cc)))

pub attach_keeps : (p : Plan) (commands : ℕ) (st : State) (m n k : ℕ) (qs : List Packet) → HasPlanFacts p → CastInvariant p commands st → st.net.alive n ≡ true → st.net.link m n ≡ Attach k ∷ qs
    → CastInvariant p commands (commit (record { net = with_link st.net m n qs; obeyed = st.obeyed }) n (received_attach (st.net.kin n) (st.obeyed n) m k))
attach_keeps p commands st m n k qs plan h up e = record {
  base = event_keeps p Down (Fits p) (with_link st.net m n qs) n (with_child (st.net.kin n) m) sends (popped_keeps p Down (Fits p) st.net m n (Attach k) qs h.base e other) up (with_child_sound p st.net.alive n (st.net.kin n) m (h.base.kin n) um) refl fit;
  order = λ a. obeyed_same a ∙ h.order a ∙ ap (numbers_after 0) (sym (seen_same a));
  within_limit = λ a. let s = seen_same a in let l = h.within_limit a in omega arith;
  above = λ a q uq u. let s = seen_same a in let t = seen_same q in let l = h.above a q uq u in omega arith;
  children = λ a c ua uc i. parent_same c ∙ elim (new_child a c i) [
    | inl j ↦ h.children a c ua uc j
    | inr j ↦ subst (λ x. (st.net.kin c).parent ≡ Some x) (sym j.0) (subst (λ x. (st.net.kin x).parent ≡ Some n) (sym j.1) (h.attaches m n k (subst (λ x. st.net.alive x ≡ true) j.1 uc) there))
  ];
  attaches = λ a b j ua i. parent_same a ∙ elim (sent_in (with_link st.net m n qs) n kin sends a b (Attach j) i) [
    | inl x ↦ h.attaches a b j ua (popped_in st.net m n (Attach k) qs e a b (Attach j) x)
    | inr x ↦ absurd (no_attach j ((in_numbers b m (Attach j) numbers x.2).1))
  ];
  commanded = λ a b i j. parent_same b ∙ elim (sent_in (with_link st.net m n qs) n kin sends a b (Cmd i) j) [
    | inl x ↦ h.commanded a b i (popped_in st.net m n (Attach k) qs e a b (Cmd i) x)
    | inr x ↦
        let eb : b ≡ m = (in_numbers b m (Cmd i) numbers x.2).0 in
        subst (λ y. (st.net.kin b).parent ≡ Some y) (sym x.0) (subst (λ y. (st.net.kin y).parent ≡ Some n) (sym eb) (h.attaches m n k (subst (λ y. st.net.alive y ≡ true) eb x.1) there))
  ];
  joined = λ c q uc par. pairs c q uc (sym (parent_same c) ∙ par);
}
  where
    kin : Kin
    kin = with_child (st.net.kin n) m

    numbers : List ℕ
    numbers = numbers_after k (seen st n - k)

    sends : List (ℕ × Packet)
    sends = map (λ i. (m, Cmd i)) numbers

    new : State
    new = commit (record { net = with_link st.net m n qs; obeyed = st.obeyed }) n (received_attach (st.net.kin n) (st.obeyed n) m k)

    there : In (Attach k) (st.net.link m n)
    there = subst (λ l. In (Attach k) l) (sym e) (inl refl)

    um : IsUnder p m n
    um = (h.base.links m n).packets (Attach k) there

    other : Attach k ≡ Down → ⊥
    other f = cc

    no_attach : (j : ℕ) → (i : ℕ) × (Attach j ≡ Cmd i) → ⊥
    no_attach j x = let f : Attach j ≡ Cmd x.0 = x.1 in cc

    fit : SendsFit Down (Fits p) n sends
    fit b q i =
        let t = in_numbers b m q numbers i in
        (subst (Fits p n b) (sym t.1.1) (subst (λ x. IsUnder p x n) (sym t.0) um), no_down t.1.0 t.1.1)
      where
        no_down : (i : ℕ) → q ≡ Cmd i → q ≡ Down → ⊥
        no_down i f g = cc

    obeyed_same : (a : ℕ) → new.obeyed a ≡ st.obeyed a
    obeyed_same = put_each (λ a l. l ≡ st.obeyed a) st.obeyed n (st.obeyed n) refl (λ a. refl)

    seen_same : (a : ℕ) → seen new a ≡ seen st a
    seen_same a = ap length (obeyed_same a)

    parent_same : (a : ℕ) → (new.net.kin a).parent ≡ (st.net.kin a).parent
    parent_same = put_each (λ a x. x.parent ≡ (st.net.kin a).parent) st.net.kin n kin refl (λ a. refl)

    new_child : (a c : ℕ) → In c (new.net.kin a).children → In c (st.net.kin a).children ⊎ ((a ≡ n) × (c ≡ m))
    new_child a c = cond_both (a == n) kin (st.net.kin a) (λ x. In c x.children → In c (st.net.kin a).children ⊎ ((a ≡ n) × (c ≡ m)))
        (λ t i. let ea : a ≡ n = eqb-true a n t in elim (in_with_number c m (st.net.kin n).children i) [
          | inl j ↦ inr (ea, j)
          | inr j ↦ inl (subst (λ x. In c (st.net.kin x).children) (sym ea) j)
        ])
        (λ t i. inl i)

    children_here : (new.net.kin n).children ≡ with_number m (st.net.kin n).children
    children_here = ap (λ x. x.children) (put_here st.net.kin n kin)

    -- the node that attaches, and n
    attached : st.net.alive m ≡ true → IsJoined (st.net.alive n) m (seen new m) (seen new n) (new.net.kin n).children (new.net.link m n) (new.net.link n m)
    attached uc =
        let par : (st.net.kin m).parent ≡ Some n = h.attaches m n k uc there in
        let j = attached_links m n k (seen st m) (st.net.kin n).children (st.net.link m n) (st.net.link n m) qs (seen st n) e ((h.joined m n uc par).living up) in
        let nm : m ≡ n → ⊥ = (λ z. plan.under_irrefl m (subst (λ x. IsUnder p m x) (sym z) um)) in
        let sm : seen new m ≡ seen st m = seen_same m in
        let sn : seen new n ≡ seen st n = seen_same n in
        let ek : k ≡ seen st m = j.1.0 in
        let le : seen st m ≤ seen st n = h.above m n up um in
        record {
          living = λ u. inl (record {
            there = subst (λ l. In m l) (sym children_here) (with_number_new m (st.net.kin n).children);
            up_empty = sent_else (with_link st.net m n qs) n kin sends m n nm ∙ popped_here st.net m n qs ∙ j.1.1;
            rest = seen st n - k;
            coming = sent_here (with_link st.net m n qs) n kin sends m uc ∙ ap (λ l. l ++ to m sends) (popped_else st.net m n qs n m (λ x y. nm y)) ∙ ap (λ l. l ++ to m sends) (j.0.down_empty) ∙ to_same m numbers ∙ ap (λ x. cmds x (seen st n - k)) (ek ∙ sym sm);
            sum = omega arith;
          });
          lost = λ d. absurd (true≢false (sym up ∙ d));
        }

    -- another child of n
    child : (c : ℕ) → (c ≡ m → ⊥) → st.net.alive c ≡ true → (st.net.kin c).parent ≡ Some n → IsJoined (st.net.alive n) c (seen new c) (seen new n) (new.net.kin n).children (new.net.link c n) (new.net.link n c)
    child c nm uc par =
        let uc' : IsUnder p c n = parent_is_above p commands st c n h par in
        let nc : c ≡ n → ⊥ = (λ z. plan.under_irrefl c (subst (λ x. IsUnder p c x) (sym z) uc')) in
        let up_same : new.net.link c n ≡ st.net.link c n = sent_else (with_link st.net m n qs) n kin sends c n nc ∙ popped_else st.net m n qs c n (λ x y. nm x) in
        let down_same : new.net.link n c ≡ st.net.link n c = sent_nothing (with_link st.net m n qs) n kin sends c (to_other c m numbers nm) ∙ popped_else st.net m n qs n c (λ x y. nc y) in
        let sc : seen new c ≡ seen st c = seen_same c in
        let sn : seen new n ≡ seen st n = seen_same n in
        record {
          living = λ u. elim ((h.joined c n uc par).living up) [
            | inl j ↦ inl (record {
              there = subst (λ l. In c l) (sym children_here) (with_number_old c m (st.net.kin n).children j.there);
              up_empty = up_same ∙ j.up_empty;
              rest = j.rest;
              coming = down_same ∙ j.coming ∙ ap (λ x. cmds x j.rest) (sym sc);
              sum = let s = j.sum in omega arith;
            })
            | inr j ↦ inr (record {
              absent = λ i. elim (in_with_number c m (st.net.kin n).children (subst (λ l. In c l) children_here i)) [ inl z ↦ nm z | inr z ↦ j.absent z ];
              attach = up_same ∙ j.attach ∙ ap (λ x. Attach x ∷ []) (sym sc);
              down_empty = down_same ∙ j.down_empty;
            })
          ];
          lost = λ d. absurd (true≢false (sym up ∙ d));
        }

    -- a node whose parent isn't n
    elsewhere : (c q : ℕ) → (q ≡ n → ⊥) → st.net.alive c ≡ true → (st.net.kin c).parent ≡ Some q → IsJoined (st.net.alive q) c (seen new c) (seen new q) (new.net.kin q).children (new.net.link c q) (new.net.link q c)
    elsewhere c q nq uc par =
        let uc' : IsUnder p c q = parent_is_above p commands st c q h par in
        joined_by (st.net.alive q) c (seen st c) (seen st q) (st.net.kin q).children (st.net.link c q) (st.net.link q c) (seen new c) (seen new q) (new.net.kin q).children (new.net.link c q) (new.net.link q c)
        (seen_same c) (seen_same q) (ap (λ x. x.children) (put_else st.net.kin n kin q nq))
        (elim (cases_Bool (c == n)) [
          | inl t ↦
              let ec : c ≡ n = eqb-true c n t in
              let qm : q ≡ m → ⊥ = (λ z. plan.under_irrefl n (plan.under_trans n m n (subst (λ x. IsUnder p n x) z (subst (λ x. IsUnder p x q) ec uc')) um)) in
              subst (λ x. new.net.link x q ≡ st.net.link x q) (sym ec) (sent_nothing (with_link st.net m n qs) n kin sends q (to_other q m numbers qm) ∙ popped_else st.net m n qs n q (λ x y. nq y))
          | inr t ↦ sent_else (with_link st.net m n qs) n kin sends c q (eqb-false c n t) ∙ popped_else st.net m n qs c q (λ x y. nq y)
        ])
        (sent_else (with_link st.net m n qs) n kin sends q c nq ∙ popped_else st.net m n qs q c (λ x y. plan.under_irrefl n (plan.under_trans n m n (subst (λ z. IsUnder p n z) x (subst (λ z. IsUnder p z q) y uc')) um)))
        (h.joined c q uc par)

    pairs : (c q : ℕ) → st.net.alive c ≡ true → (st.net.kin c).parent ≡ Some q → IsJoined (st.net.alive q) c (seen new c) (seen new q) (new.net.kin q).children (new.net.link c q) (new.net.link q c)
    pairs c q uc par = elim (cases_Bool (q == n)) [
      | inl t ↦
          let eq : q ≡ n = eqb-true q n t in
          let par' : (st.net.kin c).parent ≡ Some n = subst (λ x. (st.net.kin c).parent ≡ Some x) eq par in
          subst (λ x. IsJoined (st.net.alive x) c (seen new c) (seen new x) (new.net.kin x).children (new.net.link c x) (new.net.link x c)) (sym eq)
          (elim (cases_Bool (c == m)) [
            | inl s ↦
                let ec : c ≡ m = eqb-true c m s in
                subst (λ x. IsJoined (st.net.alive n) x (seen new x) (seen new n) (new.net.kin n).children (new.net.link x n) (new.net.link n x)) (sym ec) (attached (subst (λ x. st.net.alive x ≡ true) ec uc))
            | inr s ↦ child c (eqb-false c m s) uc par'
          ])
      | inr t ↦ elsewhere c q (eqb-false q n t) uc par
    ]
