-- A node that hears of a loss keeps the invariant.
use Rattle.std.proofs.Common.{◌≡◌, inl, inr, ℕ, Bool, true, false, cond, ◌==◌, List, [], ◌∷◌, ◌++◌, length, refl, sym, ap, subst, ◌∙◌, eqb-true, eq-eqb, arith, Option, Some, None}
use Rattle.std.proofs.lemmas.Bool.{cases_Bool, cond-true, cond-false, eqb-false, true≢false}
use Rattle.std.proofs.lemmas.Option.{same_Some}
use Rattle.overlay_setup.specs.NodeSets.{In, with_number}
use Rattle.stat_plan.specs.Machine.Kin.{Kin, is_parent, with_parent, without_child}
use Rattle.stat_plan.specs.Plans.{Plan, IsUnder, ancestors}
use Rattle.stat_plan.proofs.KinLemmas.{nearest_in, with_number_old, with_number_new, in_without, nearest_split, is_parent_some, without_other}
use Rattle.stat_plan.proofs.PlanFacts.{HasPlanFacts}
use Rattle.stat_plan.specs.Machine.Overlays.{to, to_parent, with_link, with_event}
use Rattle.stat_plan.specs.Machine.LossInvariant.{EndsAt, LossInvariant}
use Rattle.stat_plan.proofs.InLists.{in_member}
use Rattle.control_cast.specs.Machine.{Packet, Cmd, Attach, Down, State, seen, numbers_after, Outcome, received_down, commit}
use Rattle.control_cast.specs.CastInvariant.{Fits, cmds, IsJoined, CastInvariant}
use Rattle.stat_plan.proofs.Overlays.{ne_false, put_here, put_else, put_each, popped_here, popped_else, popped_in, sent_else, sent_here, sent_nothing, sent_in}
use Rattle.stat_plan.proofs.LossInvariant.{SendsFit, heard_keeps}
use Rattle.control_cast.proofs.Commands.{joined_by}
use Rattle.control_cast.proofs.Receiving.{packet_rule, parent_is_above}

-- ---- the lost node isn't the parent

pub other_outcome : (p : Plan) (n : ℕ) (kin : Kin) (obeyed : List ℕ) (m : ℕ) → is_parent kin.parent m ≡ false → received_down p n kin obeyed m ≡ record { kin = without_child kin m; obeyed = obeyed; sends = [] }
other_outcome p n kin obeyed m e = go (is_parent kin.parent m) e
  where
    go : (b : Bool) → b ≡ false → ◌≡◌ {A = Outcome} (record { kin = cond b (with_parent p n kin m) (without_child kin m); obeyed = obeyed; sends = cond b (to_parent (cond b (with_parent p n kin m) (without_child kin m)).parent (Attach (length obeyed))) [] }) (record { kin = without_child kin m; obeyed = obeyed; sends = [] })
    go true f = absurd (true≢false f)
    go false f = refl

pub parent_outcome : (p : Plan) (n : ℕ) (kin : Kin) (obeyed : List ℕ) (m : ℕ) → is_parent kin.parent m ≡ true → received_down p n kin obeyed m ≡ record { kin = with_parent p n kin m; obeyed = obeyed; sends = to_parent (with_parent p n kin m).parent (Attach (length obeyed)) }
parent_outcome p n kin obeyed m e = go (is_parent kin.parent m) e
  where
    go : (b : Bool) → b ≡ true → ◌≡◌ {A = Outcome} (record { kin = cond b (with_parent p n kin m) (without_child kin m); obeyed = obeyed; sends = cond b (to_parent (cond b (with_parent p n kin m) (without_child kin m)).parent (Attach (length obeyed))) [] }) (record { kin = with_parent p n kin m; obeyed = obeyed; sends = to_parent (with_parent p n kin m).parent (Attach (length obeyed)) })
    go true f = refl
    go false f = absurd (true≢false (sym f))

other_keeps : (p : Plan) (commands : ℕ) (st : State) (m n : ℕ) (qs : List Packet) → HasPlanFacts p → CastInvariant p commands st → st.net.alive n ≡ true → st.net.link m n ≡ Down ∷ qs → is_parent (st.net.kin n).parent m ≡ false
    → CastInvariant p commands (commit (record { net = with_link st.net m n qs; obeyed = st.obeyed }) n (record { kin = without_child (st.net.kin n) m; obeyed = st.obeyed n; sends = [] }))
other_keeps p commands st m n qs plan h up e np = record {
  base = subst (λ k. LossInvariant p Down (Fits p) (with_event (with_link st.net m n qs) n k [])) (cond-false (is_parent (st.net.kin n).parent m) (with_parent p n (st.net.kin n) m) (without_child (st.net.kin n) m) np) (heard_keeps p Down (Fits p) st.net m n qs [] (packet_rule p) h.base up e (λ b q i. absurd i));
  order = λ a. obeyed_same a ∙ h.order a ∙ ap (numbers_after 0) (sym (seen_same a));
  within_limit = λ a. let s = seen_same a in let l = h.within_limit a in omega arith;
  above = λ a q uq u. let s = seen_same a in let t = seen_same q in let l = h.above a q uq u in omega arith;
  children = λ a c ua uc i. parent_same c ∙ h.children a c ua uc (children_less a c i);
  attaches = λ a b j ua i. parent_same a ∙ h.attaches a b j ua (link_less a b (Attach j) i);
  commanded = λ a b i j. parent_same b ∙ h.commanded a b i (link_less a b (Cmd i) j);
  joined = λ c q uc par. pairs c q uc (sym (parent_same c) ∙ par);
}
  where
    kin : Kin
    kin = without_child (st.net.kin n) m

    new : State
    new = commit (record { net = with_link st.net m n qs; obeyed = st.obeyed }) n (record { kin = kin; obeyed = st.obeyed n; sends = [] })

    dead : st.net.alive m ≡ false
    dead = (h.base.links m n).sender (subst (λ l. In Down l) (sym e) (inl refl))

    not_m : (c : ℕ) → st.net.alive c ≡ true → c ≡ m → ⊥
    not_m c uc z = true≢false (sym uc ∙ ap st.net.alive z ∙ dead)

    obeyed_same : (a : ℕ) → new.obeyed a ≡ st.obeyed a
    obeyed_same = put_each (λ a l. l ≡ st.obeyed a) st.obeyed n (st.obeyed n) refl (λ a. refl)

    seen_same : (a : ℕ) → seen new a ≡ seen st a
    seen_same a = ap length (obeyed_same a)

    parent_same : (a : ℕ) → (new.net.kin a).parent ≡ (st.net.kin a).parent
    parent_same = put_each (λ a x. x.parent ≡ (st.net.kin a).parent) st.net.kin n kin refl (λ a. refl)

    children_less : (a c : ℕ) → In c (new.net.kin a).children → In c (st.net.kin a).children
    children_less a c = put_each (λ a x. In c x.children → In c (st.net.kin a).children) st.net.kin n kin (λ i. in_without c m (st.net.kin n).children i) (λ a i. i) a

    children_more : (a c : ℕ) → st.net.alive c ≡ true → In c (st.net.kin a).children → In c (new.net.kin a).children
    children_more a c uc = put_each (λ a x. In c (st.net.kin a).children → In c x.children) st.net.kin n kin (λ i. without_other m c (st.net.kin n).children (λ z. not_m c uc (sym z)) i) (λ a i. i) a

    nothing_sent : (a b : ℕ) → new.net.link a b ≡ (with_link st.net m n qs).link a b
    nothing_sent a b = elim (cases_Bool (a == n)) [
      | inl t ↦ subst (λ x. new.net.link x b ≡ (with_link st.net m n qs).link x b) (sym (eqb-true a n t)) (sent_nothing (with_link st.net m n qs) n kin [] b refl)
      | inr t ↦ sent_else (with_link st.net m n qs) n kin [] a b (eqb-false a n t)
    ]

    link_less : (a b : ℕ) (q : Packet) → In q (new.net.link a b) → In q (st.net.link a b)
    link_less a b q i = popped_in st.net m n Down qs e a b q (subst (λ l. In q l) (nothing_sent a b) i)

    pairs : (c q : ℕ) → st.net.alive c ≡ true → (st.net.kin c).parent ≡ Some q → IsJoined (st.net.alive q) c (seen new c) (seen new q) (new.net.kin q).children (new.net.link c q) (new.net.link q c)
    pairs c q uc par =
        let up_same : new.net.link c q ≡ st.net.link c q = nothing_sent c q ∙ popped_else st.net m n qs c q (λ x y. not_m c uc x) in
        let down_same : new.net.link q c ≡ st.net.link q c = nothing_sent q c ∙ popped_else st.net m n qs q c (λ x y. not_parent (subst (λ z. (st.net.kin n).parent ≡ Some z) x (subst (λ z. (st.net.kin z).parent ≡ Some q) y par))) in
        let sc : seen new c ≡ seen st c = seen_same c in
        let sq : seen new q ≡ seen st q = seen_same q in
        let j = h.joined c q uc par in
        record {
          living = λ u. elim (j.living u) [
            | inl k ↦ inl (record {
              there = children_more q c uc k.there;
              up_empty = up_same ∙ k.up_empty;
              rest = k.rest;
              coming = down_same ∙ k.coming ∙ ap (λ x. cmds x k.rest) (sym sc);
              sum = let s = k.sum in omega arith;
            })
            | inr k ↦ inr (record {
              absent = λ i. k.absent (children_less q c i);
              attach = up_same ∙ k.attach ∙ ap (λ x. Attach x ∷ []) (sym sc);
              down_empty = down_same ∙ k.down_empty;
            })
          ];
          lost = λ d. let k = j.lost d in record {
            rest = k.rest;
            coming = down_same ∙ k.coming ∙ ap (λ x. cmds x k.rest ++ Down ∷ []) (sym sc);
            within = λ some. let s = k.within some in omega arith;
          };
        }
      where
        not_parent : (st.net.kin n).parent ≡ Some m → ⊥
        not_parent z = true≢false (sym (subst (λ o. is_parent o m ≡ true) (sym z) (eq-eqb m m refl)) ∙ np)

-- ---- the lost node is the parent

in_to_parent : (o : Option ℕ) (b : ℕ) (q r : Packet) → In {X = ℕ × Packet} (b, r) (to_parent o q) → (o ≡ Some b) × (r ≡ q)
in_to_parent None b q r i = absurd i
in_to_parent (Some a) b q r (inl e) = (ap Some (sym (ap (λ y. y.0) e)), ap (λ y. y.1) e)
in_to_parent (Some a) b q r (inr i) = absurd i

to_parent_other : (o : Option ℕ) (c : ℕ) (q : Packet) → (o ≡ Some c → ⊥) → to c (to_parent o q) ≡ []
to_parent_other None c q ne = refl
to_parent_other (Some a) c q ne = cond-false (a == c) _ _ (ne_false a c (λ z. ne (ap Some z)))

to_parent_here : (o : Option ℕ) (c : ℕ) (q : Packet) → o ≡ Some c → to c (to_parent o q) ≡ q ∷ []
to_parent_here None c q e = absurd (cc)
to_parent_here (Some a) c q e = cond-true (a == c) _ _ (eq-eqb a c (same_Some a c e))

empty_from : (qs : List Packet) → ((q : Packet) → In q qs → ⊥) → qs ≡ []
empty_from [] h = refl
empty_from (q ∷ qs) h = absurd (h q (inl refl))

-- a list that has the notice, and nothing else
only_down : (qs : List Packet) → In Down qs → ((q : Packet) → In q qs → q ≡ Down) → EndsAt Down qs → qs ≡ Down ∷ []
only_down [] i h ends = absurd i
only_down (q ∷ qs) i h ends = let e : q ≡ Down = h q (inl refl) in let f : qs ≡ [] = ends.0 e in ap (λ x. x ∷ qs) e ∙ ap (λ l. Down ∷ l) f

parent_keeps : (p : Plan) (commands : ℕ) (st : State) (m n : ℕ) (qs : List Packet) → HasPlanFacts p → CastInvariant p commands st → st.net.alive n ≡ true → st.net.link m n ≡ Down ∷ qs → is_parent (st.net.kin n).parent m ≡ true
    → CastInvariant p commands (commit (record { net = with_link st.net m n qs; obeyed = st.obeyed }) n (record { kin = with_parent p n (st.net.kin n) m; obeyed = st.obeyed n; sends = to_parent (with_parent p n (st.net.kin n) m).parent (Attach (seen st n)) }))
parent_keeps p commands st m n qs plan h up e is = record {
  base = subst (λ k. LossInvariant p Down (Fits p) (with_event (with_link st.net m n qs) n k sends)) (cond-true (is_parent (st.net.kin n).parent m) (with_parent p n (st.net.kin n) m) (without_child (st.net.kin n) m) is) (heard_keeps p Down (Fits p) st.net m n qs sends (packet_rule p) h.base up e fit);
  order = λ a. obeyed_same a ∙ h.order a ∙ ap (numbers_after 0) (sym (seen_same a));
  within_limit = λ a. let s = seen_same a in let l = h.within_limit a in omega arith;
  above = λ a q uq u. let s = seen_same a in let t = seen_same q in let l = h.above a q uq u in omega arith;
  children = λ a c ua uc i.
      let old : (st.net.kin c).parent ≡ Some a = h.children a c ua uc (subst (λ l. In c l) (children_same a) i) in
      elim (cases_Bool (c == n)) [
        | inl t ↦ absurd (not_m a ua (same_Some a m (sym (subst (λ x. (st.net.kin x).parent ≡ Some a) (eqb-true c n t) old) ∙ par)))
        | inr t ↦ parent_else c (eqb-false c n t) ∙ old
      ];
  attaches = λ a b j ua i. elim (sent_in (with_link st.net m n qs) n kin sends a b (Attach j) i) [
    | inl x ↦
        let y : In (Attach j) (st.net.link a b) = popped_in st.net m n Down qs e a b (Attach j) x in
        let old : (st.net.kin a).parent ≡ Some b = h.attaches a b j ua y in
        elim (cases_Bool (a == n)) [
          | inl t ↦
              let eb : b ≡ m = same_Some b m (sym (subst (λ x. (st.net.kin x).parent ≡ Some b) (eqb-true a n t) old) ∙ par) in
              absurd (subst (λ l. In (Attach j) l) ((h.base.links a b).into_lost (subst (λ x. st.net.alive x ≡ false) (sym eb) dead)) y)
          | inr t ↦ parent_else a (eqb-false a n t) ∙ old
        ]
    | inr x ↦ subst (λ y. (new.net.kin y).parent ≡ Some b) (sym x.0) (parent_here ∙ (in_to_parent kin.parent b (Attach (seen st n)) (Attach j) x.2).0)
  ];
  commanded = λ a b i j. elim (sent_in (with_link st.net m n qs) n kin sends a b (Cmd i) j) [
    | inl x ↦
        let old : (st.net.kin b).parent ≡ Some a = h.commanded a b i (popped_in st.net m n Down qs e a b (Cmd i) x) in
        elim (cases_Bool (b == n)) [
          | inl t ↦
              let eb : b ≡ n = eqb-true b n t in
              let ea : a ≡ m = same_Some a m (sym (subst (λ x. (st.net.kin x).parent ≡ Some a) eb old) ∙ par) in
              absurd (subst (λ l. In (Cmd i) l) (popped_here st.net m n qs ∙ none) (subst (λ y. In (Cmd i) ((with_link st.net m n qs).link m y)) eb (subst (λ y. In (Cmd i) ((with_link st.net m n qs).link y b)) ea x)))
          | inr t ↦ parent_else b (eqb-false b n t) ∙ old
        ]
    | inr x ↦ absurd (no_cmd i (in_to_parent kin.parent b (Attach (seen st n)) (Cmd i) x.2).1)
  ];
  joined = λ c q uc parc. pairs c q uc parc;
}
  where
    kin : Kin
    kin = with_parent p n (st.net.kin n) m

    sends : List (ℕ × Packet)
    sends = to_parent kin.parent (Attach (seen st n))

    new : State
    new = commit (record { net = with_link st.net m n qs; obeyed = st.obeyed }) n (record { kin = kin; obeyed = st.obeyed n; sends = sends })

    there : In Down (st.net.link m n)
    there = subst (λ l. In Down l) (sym e) (inl refl)

    dead : st.net.alive m ≡ false
    dead = (h.base.links m n).sender there

    none : qs ≡ []
    none = (subst (EndsAt Down) e (h.base.links m n).last).0 refl

    par : (st.net.kin n).parent ≡ Some m
    par = is_parent_some (st.net.kin n).parent m is

    not_m : (c : ℕ) → st.net.alive c ≡ true → c ≡ m → ⊥
    not_m c uc z = true≢false (sym uc ∙ ap st.net.alive z ∙ dead)

    no_cmd : (i : ℕ) → Cmd i ≡ Attach (seen st n) → ⊥
    no_cmd i f = cc

    -- the new parent is above
    new_above : (b : ℕ) → kin.parent ≡ Some b → IsUnder p n b
    new_above b k = nearest_in (ancestors p n) (with_number m (st.net.kin n).lost) b k

    fit : SendsFit Down (Fits p) n sends
    fit b q i = let t = in_to_parent kin.parent b (Attach (seen st n)) q i in (subst (Fits p n b) (sym t.1) (new_above b t.0), no_down t.1)
      where
        no_down : q ≡ Attach (seen st n) → q ≡ Down → ⊥
        no_down f g = cc

    obeyed_same : (a : ℕ) → new.obeyed a ≡ st.obeyed a
    obeyed_same = put_each (λ a l. l ≡ st.obeyed a) st.obeyed n (st.obeyed n) refl (λ a. refl)

    seen_same : (a : ℕ) → seen new a ≡ seen st a
    seen_same a = ap length (obeyed_same a)

    children_same : (a : ℕ) → (new.net.kin a).children ≡ (st.net.kin a).children
    children_same = put_each (λ a x. x.children ≡ (st.net.kin a).children) st.net.kin n kin refl (λ a. refl)

    parent_here : (new.net.kin n).parent ≡ kin.parent
    parent_here = ap (λ x. x.parent) (put_here st.net.kin n kin)

    parent_else : (a : ℕ) → (a ≡ n → ⊥) → (new.net.kin a).parent ≡ (st.net.kin a).parent
    parent_else a ne = ap (λ x. x.parent) (put_else st.net.kin n kin a ne)

    -- n and its new parent
    self : (q : ℕ) → kin.parent ≡ Some q → IsJoined (st.net.alive q) n (seen new n) (seen new q) (new.net.kin q).children (new.net.link n q) (new.net.link q n)
    self q k =
        let un : IsUnder p n q = new_above q k in
        let r = nearest_split (ancestors p n) (with_number m (st.net.kin n).lost) q k in
        let nm : q ≡ m → ⊥ = (λ z. true≢false (sym (in_member q (with_number m (st.net.kin n).lost) (subst (λ x. In x (with_number m (st.net.kin n).lost)) (sym z) (with_number_new m (st.net.kin n).lost))) ∙ r.3)) in
        let unknown : In q (st.net.kin n).lost → ⊥ = (λ i. true≢false (sym (in_member q (with_number m (st.net.kin n).lost) (with_number_old q m (st.net.kin n).lost i)) ∙ r.3)) in
        let nq : n ≡ q → ⊥ = (λ z. plan.under_irrefl n (subst (λ x. IsUnder p n x) (sym z) un)) in
        let up_old : st.net.link n q ≡ [] = empty_from (st.net.link n q) (λ x i. nothing_up q un nm x i) in
        let down_same : new.net.link q n ≡ st.net.link q n = sent_else (with_link st.net m n qs) n kin sends q n (λ z. nq (sym z)) ∙ popped_else st.net m n qs q n (λ x y. nm x) in
        let sn : seen new n ≡ seen st n = seen_same n in
        record {
          living = λ u. inr (record {
            absent = λ i. other_parent q nm (h.children q n u up (subst (λ l. In n l) (children_same q) i));
            attach = sent_here (with_link st.net m n qs) n kin sends q u ∙ ap (λ l. l ++ to q sends) (popped_else st.net m n qs n q (λ x y. nq (sym y))) ∙ ap (λ l. l ++ to q sends) up_old ∙ to_parent_here kin.parent q (Attach (seen st n)) k ∙ ap (λ x. Attach x ∷ []) (sym sn);
            down_empty = down_same ∙ empty_from (st.net.link q n) (λ x i. true≢false (sym u ∙ (h.base.links q n).sender (subst (λ y. In y (st.net.link q n)) (just_down q un nm x i) i)));
          });
          lost = λ d. record {
            rest = 0;
            coming = down_same ∙ only_down (st.net.link q n) (elim ((h.base.losses n q).named up d (inl un)) [ inl i ↦ absurd (unknown i) | inr i ↦ i ]) (just_down q un nm) (h.base.links q n).last;
            within = λ some. absurd (omega arith);
          };
        }
      where
        other_parent : (q : ℕ) → (q ≡ m → ⊥) → (st.net.kin n).parent ≡ Some q → ⊥
        other_parent q nm z = nm (same_Some q m (sym z ∙ par))

        nothing_up : (q : ℕ) → IsUnder p n q → (q ≡ m → ⊥) → (x : Packet) → In x (st.net.link n q) → ⊥
        nothing_up q un nm (Cmd i) j = plan.under_irrefl n (plan.under_trans n q n un ((h.base.links n q).packets (Cmd i) j))
        nothing_up q un nm (Attach i) j = other_parent q nm (h.attaches n q i up j)
        nothing_up q un nm Down j = true≢false (sym up ∙ (h.base.links n q).sender j)

        just_down : (q : ℕ) → IsUnder p n q → (q ≡ m → ⊥) → (x : Packet) → In x (st.net.link q n) → x ≡ Down
        just_down q un nm (Cmd i) j = absurd (other_parent q nm (h.commanded q n i j))
        just_down q un nm (Attach i) j = absurd (plan.under_irrefl n (plan.under_trans n q n un ((h.base.links q n).packets (Attach i) j)))
        just_down q un nm Down j = refl

    pairs : (c q : ℕ) → st.net.alive c ≡ true → (new.net.kin c).parent ≡ Some q → IsJoined (st.net.alive q) c (seen new c) (seen new q) (new.net.kin q).children (new.net.link c q) (new.net.link q c)
    pairs c q uc parc = elim (cases_Bool (c == n)) [
      | inl t ↦
          let ec : c ≡ n = eqb-true c n t in
          subst (λ x. IsJoined (st.net.alive q) x (seen new x) (seen new q) (new.net.kin q).children (new.net.link x q) (new.net.link q x)) (sym ec) (self q (sym parent_here ∙ subst (λ x. (new.net.kin x).parent ≡ Some q) ec parc))
      | inr t ↦
          let nc : c ≡ n → ⊥ = eqb-false c n t in
          let old : (st.net.kin c).parent ≡ Some q = sym (parent_else c nc) ∙ parc in
          let ucq : IsUnder p c q = parent_is_above p commands st c q h old in
          joined_by (st.net.alive q) c (seen st c) (seen st q) (st.net.kin q).children (st.net.link c q) (st.net.link q c) (seen new c) (seen new q) (new.net.kin q).children (new.net.link c q) (new.net.link q c)
          (seen_same c) (seen_same q) (children_same q)
          (sent_else (with_link st.net m n qs) n kin sends c q nc ∙ popped_else st.net m n qs c q (λ x y. not_m c uc x))
          (elim (cases_Bool (q == n)) [
            | inl s ↦
                let eq : q ≡ n = eqb-true q n s in
                subst (λ x. new.net.link x c ≡ st.net.link x c) (sym eq) (sent_nothing (with_link st.net m n qs) n kin sends c (to_parent_other kin.parent c (Attach (seen st n)) (λ z. plan.under_irrefl n (plan.under_trans n c n (new_above c z) (subst (λ x. IsUnder p c x) eq ucq)))) ∙ popped_else st.net m n qs n c (λ x y. nc y))
            | inr s ↦ sent_else (with_link st.net m n qs) n kin sends q c (eqb-false q n s) ∙ popped_else st.net m n qs q c (λ x y. nc y)
          ])
          (h.joined c q uc old)
    ]

pub down_keeps : (p : Plan) (commands : ℕ) (st : State) (m n : ℕ) (qs : List Packet) → HasPlanFacts p → CastInvariant p commands st → st.net.alive n ≡ true → st.net.link m n ≡ Down ∷ qs
    → CastInvariant p commands (commit (record { net = with_link st.net m n qs; obeyed = st.obeyed }) n (received_down p n (st.net.kin n) (st.obeyed n) m))
down_keeps p commands st m n qs plan h up e = elim (cases_Bool (is_parent (st.net.kin n).parent m)) [
  | inl t ↦ subst (λ o. CastInvariant p commands (commit (record { net = with_link st.net m n qs; obeyed = st.obeyed }) n o)) (sym (parent_outcome p n (st.net.kin n) (st.obeyed n) m t)) (parent_keeps p commands st m n qs plan h up e t)
  | inr t ↦ subst (λ o. CastInvariant p commands (commit (record { net = with_link st.net m n qs; obeyed = st.obeyed }) n o)) (sym (other_outcome p n (st.net.kin n) (st.obeyed n) m t)) (other_keeps p commands st m n qs plan h up e t)
]
