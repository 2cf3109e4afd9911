-- Each change of an overlay keeps its invariant.
use Rattle.std.proofs.Common.{◌≡◌, ◌⊎◌, inl, inr, ℕ, suc, zero, Bool, true, false, cond, ◌&&◌, ◌==◌, lt-ltb, List, [], ◌∷◌, ◌++◌, take, refl, sym, ap, subst, ◌∙◌, eqb-true}
use Rattle.std.proofs.lemmas.Bool.{cond_both, cond-true, cond-false, and_parts, and_from, cases_Bool, eqb-false, true≢false, ltb-true}
use Rattle.overlay_setup.specs.NodeSets.{In, up_to, with_number}
use Rattle.stat_plan.specs.Machine.Waves.{put_at}
use Rattle.stat_plan.specs.Machine.Kin.{Kin, is_parent, with_parent, without_child, after_loss}
use Rattle.stat_plan.specs.Plans.{Plan, AreRelated, ancestors, front, nodes, fault, is_related}
use Rattle.stat_plan.proofs.KinLemmas.{in_with_number, with_number_old, with_number_new, in_without, nearest_same}
use Rattle.stat_plan.proofs.PlanFacts.{HasPlanFacts}
use Rattle.stat_plan.proofs.InLists.{in_append, append_right, in_take}
use Rattle.stat_plan.proofs.Ascending.{filter_increases, up_to_increases, without_increases}
use Rattle.stat_plan.specs.Machine.Overlays.{Overlay, start_overlay, to, with_link, with_event, with_loss, keep_of}
use Rattle.stat_plan.specs.Machine.LossInvariant.{EndsAt, KinIsSound, IsPacketRule, LinkIsSound, LossInvariant}
use Rattle.stat_plan.proofs.Relatives.{related_from_test, test_from_related, related_back, related_below, children_under}
use Rattle.stat_plan.proofs.Overlays.{still_dead, was_alive, now_dead, ends_append, ends_without, ends_take, put_each, put_here, put_else, in_to, popped_here, popped_each, popped_in, sent_in, sent_grows, lost_into, lost_out, lost_else}

-- ---- the start

pub start_keeps : {X : Type 0} (p : Plan) (notice : X) (Fits : ℕ → ℕ → X → Type 0) → HasPlanFacts p → LossInvariant p notice Fits (start_overlay p)
start_keeps p notice Fits plan = record {
  nodes = λ n u. ltb-true n (nodes p) u;
  front = lt-ltb (front p) (nodes p) plan.front_below;
  kin = λ n. record { lost = λ m i. absurd i; related = λ m i. absurd i; parent = refl; children = children_under p n; children_increase = filter_increases _ (up_to (nodes p)) (up_to_increases (nodes p)) };
  links = λ m n. record { into_lost = λ e. refl; packets = λ q i. absurd i; sender = λ i. absurd i; last = tt };
  losses = λ n m. record {
    named = λ u d r. absurd (true≢false (sym (lt-ltb m (nodes p) (related_below p n m plan r)) ∙ d));
    once = λ u i j. i;
  };
}

-- ---- a packet that isn't the notice is taken

tail_sound : {X : Type 0} (notice : X) (Fits : ℕ → ℕ → X → Type 0) (alive : ℕ → Bool) (m n : ℕ) (q : X) (qs : List X) → LinkIsSound notice Fits alive m n (q ∷ qs) → LinkIsSound notice Fits alive m n qs
tail_sound notice Fits alive m n q qs h = record {
  into_lost = λ d. absurd (nil-cons (h.into_lost d));
  packets = λ x i. h.packets x (inr i);
  sender = λ i. h.sender (inr i);
  last = h.last.1;
}
  where
    nil-cons : (q ∷ qs) ≡ [] → ⊥
    nil-cons e = cc

popped_links : {X : Type 0} (p : Plan) (notice : X) (Fits : ℕ → ℕ → X → Type 0) (v : Overlay X) (m n : ℕ) (q : X) (qs : List X) → LossInvariant p notice Fits v → v.link m n ≡ q ∷ qs → (a b : ℕ) → LinkIsSound notice Fits v.alive a b ((with_link v m n qs).link a b)
popped_links p notice Fits v m n q qs h e = popped_each (LinkIsSound notice Fits v.alive) v m n qs (tail_sound notice Fits v.alive m n q qs (subst (LinkIsSound notice Fits v.alive m n) e (h.links m n))) h.links

pub popped_keeps : {X : Type 0} (p : Plan) (notice : X) (Fits : ℕ → ℕ → X → Type 0) (v : Overlay X) (m n : ℕ) (q : X) (qs : List X) → LossInvariant p notice Fits v → v.link m n ≡ q ∷ qs → (q ≡ notice → ⊥) → LossInvariant p notice Fits (with_link v m n qs)
popped_keeps p notice Fits v m n q qs h e other = record {
  nodes = h.nodes;
  front = h.front;
  kin = h.kin;
  links = popped_links p notice Fits v m n q qs h e;
  losses = λ a b. record {
    named = λ u d r. elim ((h.losses a b).named u d r) [ inl i ↦ inl i | inr i ↦ inr (stays b a i) ];
    once = λ u i j. (h.losses a b).once u i (popped_in v m n q qs e b a notice j);
  };
}
  where
    stays : (a b : ℕ) → In notice (v.link a b) → In notice ((with_link v m n qs).link a b)
    stays = popped_each (λ a b l. In notice (v.link a b) → In notice l) v m n qs (λ i. elim (subst (λ l. In notice l) e i) [ inl k ↦ absurd (other (sym k)) | inr k ↦ k ]) (λ a b i. i)

-- ---- the notice of m's loss is taken, and n knows of it

lost_more : (P : ℕ → Type 0) (m : ℕ) (lost : List ℕ) → P m → ((a : ℕ) → In a lost → P a) → (a : ℕ) → In a (with_number m lost) → P a
lost_more P m lost hm h a i = elim (in_with_number a m lost i) [ inl e ↦ subst P (sym e) hm | inr j ↦ h a j ]

-- in both cases the lost nodes are those and m
pub after_loss_lost : (p : Plan) (n : ℕ) (kin : Kin) (m : ℕ) → (after_loss p n kin m).lost ≡ with_number m kin.lost
after_loss_lost p n kin m = cond_both (is_parent kin.parent m) (with_parent p n kin m) (without_child kin m) (λ k. k.lost ≡ with_number m kin.lost) (λ e. refl) (λ e. refl)

pub after_loss_sound : (p : Plan) (alive : ℕ → Bool) (n : ℕ) (kin : Kin) (m : ℕ) → KinIsSound p alive n kin → alive m ≡ false → AreRelated p n m → KinIsSound p alive n (after_loss p n kin m)
after_loss_sound p alive n kin m hk dead rel = cond_both (is_parent kin.parent m) (with_parent p n kin m) (without_child kin m) (KinIsSound p alive n)
    (λ e. record {
      lost = lost_more (λ a. alive a ≡ false) m kin.lost dead hk.lost;
      related = lost_more (λ a. AreRelated p n a) m kin.lost rel hk.related;
      parent = refl;
      children = hk.children;
      children_increase = hk.children_increase;
    })
    (λ e. record {
      lost = lost_more (λ a. alive a ≡ false) m kin.lost dead hk.lost;
      related = lost_more (λ a. AreRelated p n a) m kin.lost rel hk.related;
      parent = hk.parent ∙ sym (nearest_same (ancestors p n) kin.lost m (subst (λ o. is_parent o m ≡ false) hk.parent e));
      children = λ c i. hk.children c (in_without c m kin.children i);
      children_increase = without_increases m kin.children hk.children_increase;
    })

-- an overlay in which n has another kin
abbrev pub with_kin : {X : Type 0} → Overlay X → ℕ → Kin → Overlay X
with_kin v n kin = record { alive = v.alive; kin = put_at v.kin n kin; count = v.count; link = v.link }

pub notice_keeps : {X : Type 0} (p : Plan) (notice : X) (Fits : ℕ → ℕ → X → Type 0) (v : Overlay X) (m n : ℕ) (qs : List X) → IsPacketRule p notice Fits → LossInvariant p notice Fits v → v.link m n ≡ notice ∷ qs → LossInvariant p notice Fits (with_kin (with_link v m n qs) n (after_loss p n (v.kin n) m))
notice_keeps {X} p notice Fits v m n qs rule h e =
    let there : In notice (v.link m n) = subst (λ l. In notice l) (sym e) (inl refl) in
    let dead : v.alive m ≡ false = (h.links m n).sender there in
    let rel : AreRelated p n m = rule.related m n ((h.links m n).packets notice there) in
    let none : qs ≡ [] = (subst (EndsAt notice) e (h.links m n).last).0 refl in
    record {
      nodes = h.nodes;
      front = h.front;
      kin = put_each (λ a k. KinIsSound p v.alive a k) v.kin n (after_loss p n (v.kin n) m) (after_loss_sound p v.alive n (v.kin n) m (h.kin n) dead rel) h.kin;
      links = popped_links p notice Fits v m n notice qs h e;
      losses = λ a b. record {
        named = λ u d r. elim ((h.losses a b).named u d r) [
          | inl i ↦ inl (more a b i)
          | inr i ↦ elim (cases_Bool ((b == m) && (a == n))) [
            | inl t ↦
                let eb : b ≡ m = eqb-true b m (and_parts _ _ t).0 in
                let ea : a ≡ n = eqb-true a n (and_parts _ _ t).1 in
                inl (subst (λ x. In x (put_at v.kin n (after_loss p n (v.kin n) m) a).lost) (sym eb) (subst (λ x. In m (put_at v.kin n (after_loss p n (v.kin n) m) x).lost) (sym ea) here))
            | inr t ↦ inr (subst (λ l. In notice l) (sym (cond-false ((b == m) && (a == n)) qs (v.link b a) t)) i)
          ]
        ];
        once = λ u i j. elim (less a b i) [
          | inl k ↦ (h.losses a b).once u k (popped_in v m n notice qs e b a notice j)
          | inr k ↦
              let at : In notice ((with_link v m n qs).link m n) = subst (λ x. In notice ((with_link v m n qs).link x n)) k.1 (subst (λ x. In notice ((with_link v m n qs).link b x)) k.0 j) in
              subst (λ l. In notice l) (popped_here v m n qs ∙ none) at
        ];
      };
    }
  where
    -- n knows of m now
    here : In m (put_at v.kin n (after_loss p n (v.kin n) m) n).lost
    here = subst (λ k. In m k.lost) (sym (put_here v.kin n (after_loss p n (v.kin n) m))) (subst (λ l. In m l) (sym (after_loss_lost p n (v.kin n) m)) (with_number_new m (v.kin n).lost))

    more : (a b : ℕ) → In b (v.kin a).lost → In b (put_at v.kin n (after_loss p n (v.kin n) m) a).lost
    more a b i = put_each (λ a k. In b (v.kin a).lost → In b k.lost) v.kin n (after_loss p n (v.kin n) m) (λ j. subst (λ l. In b l) (sym (after_loss_lost p n (v.kin n) m)) (with_number_old b m (v.kin n).lost j)) (λ a j. j) a i

    less : (a b : ℕ) → In b (put_at v.kin n (after_loss p n (v.kin n) m) a).lost → In b (v.kin a).lost ⊎ ((a ≡ n) × (b ≡ m))
    less a b = cond_both (a == n) (after_loss p n (v.kin n) m) (v.kin a) (λ k. In b k.lost → In b (v.kin a).lost ⊎ ((a ≡ n) × (b ≡ m)))
        (λ t i. let ea : a ≡ n = eqb-true a n t in elim (in_with_number b m (v.kin n).lost (subst (λ l. In b l) (after_loss_lost p n (v.kin n) m) i)) [
          | inl eb ↦ inr (ea, eb)
          | inr j ↦ inl (subst (λ x. In b (v.kin x).lost) (sym ea) j)
        ])
        (λ t i. inl i)

-- ---- n has an event: it has this kin, which knows of the same losses, and sends packets that fit

abbrev pub SendsFit : {X : Type 0} → X → (ℕ → ℕ → X → Type 0) → ℕ → List (ℕ × X) → Type 0
SendsFit {X} notice Fits n sends = (b : ℕ) (q : X) → In (b, q) sends → Fits n b q × (q ≡ notice → ⊥)

pub event_keeps : {X : Type 0} (p : Plan) (notice : X) (Fits : ℕ → ℕ → X → Type 0) (v : Overlay X) (n : ℕ) (kin : Kin) (sends : List (ℕ × X)) → LossInvariant p notice Fits v → v.alive n ≡ true → KinIsSound p v.alive n kin → kin.lost ≡ (v.kin n).lost → SendsFit notice Fits n sends → LossInvariant p notice Fits (with_event v n kin sends)
event_keeps {X} p notice Fits v n kin sends h up hk same fit = record {
  nodes = h.nodes;
  front = h.front;
  kin = put_each (λ a k. KinIsSound p v.alive a k) v.kin n kin hk h.kin;
  links = λ a b. cond_both ((a == n) && v.alive b) (v.link a b ++ to b sends) (v.link a b) (LinkIsSound notice Fits v.alive a b)
      (λ t. more a b (eqb-true a n (and_parts _ _ t).0) (and_parts (a == n) (v.alive b) t).1)
      (λ t. h.links a b);
  losses = λ a b. record {
    named = λ u d r. elim ((h.losses a b).named u d r) [
      | inl i ↦ inl (subst (λ l. In b l) (sym (lost_same a)) i)
      | inr i ↦ inr (sent_grows v n kin sends b a notice i)
    ];
    once = λ u i j. elim (sent_in v n kin sends b a notice j) [
      | inl k ↦ (h.losses a b).once u (subst (λ l. In b l) (lost_same a) i) k
      | inr k ↦ (fit a notice k.2).1 refl
    ];
  };
}
  where
    lost_same : (a : ℕ) → (put_at v.kin n kin a).lost ≡ (v.kin a).lost
    lost_same = put_each (λ a k. k.lost ≡ (v.kin a).lost) v.kin n kin same (λ a. refl)

    none_sent : (b : ℕ) → In notice (to b sends) → ⊥
    none_sent b i = (fit b notice (in_to b notice sends i)).1 refl

    more : (a b : ℕ) → a ≡ n → v.alive b ≡ true → LinkIsSound notice Fits v.alive a b (v.link a b ++ to b sends)
    more a b ea ub = record {
      into_lost = λ d. absurd (true≢false (sym ub ∙ d));
      packets = λ q i. elim (in_append q (v.link a b) (to b sends) i) [
        | inl j ↦ (h.links a b).packets q j
        | inr j ↦ subst (λ x. Fits x b q) (sym ea) (fit b q (in_to b q sends j)).0
      ];
      sender = λ i. elim (in_append notice (v.link a b) (to b sends) i) [ inl j ↦ (h.links a b).sender j | inr j ↦ absurd (none_sent b j) ];
      last = ends_append notice (v.link a b) (to b sends)
          (λ i. true≢false (sym (subst (λ x. v.alive x ≡ true) (sym ea) up) ∙ (h.links a b).sender i))
          (ends_without notice (to b sends) (none_sent b));
    }

put_twice : {X : Type 0} (f : ℕ → X) (n : ℕ) (x : X) → put_at (put_at f n x) n x ≡ put_at f n x
put_twice f n x = λ i a. same a i
  where
    same : (a : ℕ) → put_at (put_at f n x) n x a ≡ put_at f n x a
    same a = cond_both (a == n) x (put_at f n x a) (λ y. y ≡ put_at f n x a) (λ t. sym (cond-true (a == n) x (f a) t)) (λ t. refl)

-- the event in which n takes the notice of m's loss
pub heard_keeps : {X : Type 0} (p : Plan) (notice : X) (Fits : ℕ → ℕ → X → Type 0) (v : Overlay X) (m n : ℕ) (qs : List X) (sends : List (ℕ × X)) → IsPacketRule p notice Fits → LossInvariant p notice Fits v → v.alive n ≡ true → v.link m n ≡ notice ∷ qs → SendsFit notice Fits n sends → LossInvariant p notice Fits (with_event (with_link v m n qs) n (after_loss p n (v.kin n) m) sends)
heard_keeps p notice Fits v m n qs sends rule h up e fit =
    let kin : Kin = after_loss p n (v.kin n) m in
    let a = notice_keeps p notice Fits v m n qs rule h e in
    let b = event_keeps p notice Fits (with_kin (with_link v m n qs) n kin) n kin sends a up
    (subst (KinIsSound p v.alive n) (put_here v.kin n kin) (a.kin n))
    (ap (λ k. k.lost) (sym (put_here v.kin n kin))) fit in
    subst (λ f. LossInvariant p notice Fits (record { alive = v.alive; kin = f; count = (with_event (with_link v m n qs) n kin sends).count; link = (with_event (with_link v m n qs) n kin sends).link })) (put_twice v.kin n kin) b

-- ---- n is lost

pub loss_keeps : {X : Type 0} (p : Plan) (notice : X) (Fits : ℕ → ℕ → X → Type 0) (v : Overlay X) (n : ℕ) → IsPacketRule p notice Fits → LossInvariant p notice Fits v → v.alive n ≡ true → (n ≡ front p → ⊥) → LossInvariant p notice Fits (with_loss notice p v n)
loss_keeps {X} p notice Fits v n rule h up nf = record {
  nodes = λ a u. h.nodes a (was_alive v.alive n a u).0;
  front = put_else v.alive n false (front p) (λ e. nf (sym e)) ∙ h.front;
  kin = λ a. record {
    lost = λ m i. still_dead v.alive n m ((h.kin a).lost m i);
    related = (h.kin a).related;
    parent = (h.kin a).parent;
    children = (h.kin a).children;
    children_increase = (h.kin a).children_increase;
  };
  links = λ a b. elim (cases_Bool (b == n)) [
    | inl t ↦ subst (LinkIsSound notice Fits (put_at v.alive n false) a b) (sym (lost_into notice p v n a b (eqb-true b n t))) (record { into_lost = λ d. refl; packets = λ q i. absurd i; sender = λ i. absurd i; last = tt })
    | inr t ↦
        let nb : b ≡ n → ⊥ = eqb-false b n t in
        elim (cases_Bool (a == n)) [
          | inl s ↦ subst (λ x. LinkIsSound notice Fits (put_at v.alive n false) x b ((with_loss notice p v n).link x b)) (sym (eqb-true a n s)) (subst (LinkIsSound notice Fits (put_at v.alive n false) n b) (sym (lost_out notice p v n b nb)) (cut_sound b nb))
          | inr s ↦ subst (LinkIsSound notice Fits (put_at v.alive n false) a b) (sym (lost_else notice p v n a b nb (eqb-false a n s))) (record {
            into_lost = λ d. elim (now_dead v.alive n b d) [ inl e ↦ absurd (nb e) | inr e ↦ (h.links a b).into_lost e ];
            packets = (h.links a b).packets;
            sender = λ i. still_dead v.alive n a ((h.links a b).sender i);
            last = (h.links a b).last;
          })
        ]
  ];
  losses = λ a b. record {
    named = λ u d rel.
        let was = was_alive v.alive n a u in
        let na : a ≡ n → ⊥ = eqb-false a n was.1 in
        elim (now_dead v.alive n b d) [
          | inl eb ↦ inr (subst (λ x. In notice ((with_loss notice p v n).link x a)) (sym eb) (subst (λ l. In notice l) (sym (lost_out notice p v n a na)) (told a was.0 (subst (λ x. AreRelated p x a) eb (related_back p a b rel)))))
          | inr db ↦ elim ((h.losses a b).named was.0 db rel) [
            | inl i ↦ inl i
            | inr i ↦ inr (subst (λ l. In notice l) (sym (lost_else notice p v n b a na (other b db))) i)
          ]
        ];
    once = λ u i j.
        let was = was_alive v.alive n a u in
        let db : v.alive b ≡ false = (h.kin a).lost b i in
        (h.losses a b).once was.0 i (subst (λ l. In notice l) (lost_else notice p v n b a (eqb-false a n was.1) (other b db)) j);
  };
}
  where
    other : (x : ℕ) → v.alive x ≡ false → x ≡ n → ⊥
    other x dx e = true≢false (sym up ∙ ap v.alive (sym e) ∙ dx)

    take_none : (k : ℕ) → (take {A = X} k [] ++ []) ≡ []
    take_none zero = refl
    take_none (suc k) = refl

    told : (b : ℕ) → v.alive b ≡ true → AreRelated p n b → In notice (take (keep_of (fault p n)) (v.link n b) ++ cond (v.alive b && is_related p n b) (notice ∷ []) [])
    told b ub rel = append_right notice (take (keep_of (fault p n)) (v.link n b)) _ (subst (λ t. In notice (cond t (notice ∷ []) [])) (sym (and_from _ _ ub (test_from_related p n b rel))) (inl refl))

    only : (b : ℕ) (q : X) (t : Bool) → (v.alive b && is_related p n b) ≡ t → In q (cond t (notice ∷ []) []) → (q ≡ notice) × AreRelated p n b
    only b q true e i = elim i [ inl k ↦ (k, related_from_test p n b (and_parts _ _ e).1) | inr k ↦ absurd k ]
    only b q false e i = absurd i

    cut_sound : (b : ℕ) → (b ≡ n → ⊥) → LinkIsSound notice Fits (put_at v.alive n false) n b (take (keep_of (fault p n)) (v.link n b) ++ cond (v.alive b && is_related p n b) (notice ∷ []) [])
    cut_sound b nb = record {
      into_lost = λ d. elim (now_dead v.alive n b d) [
        | inl e ↦ absurd (nb e)
        | inr e ↦ let el : v.link n b ≡ [] = (h.links n b).into_lost e in rw (el, e) (take_none (keep_of (fault p n)))
      ];
      packets = λ q i. elim (in_append q (take (keep_of (fault p n)) (v.link n b)) _ i) [
        | inl j ↦ (h.links n b).packets q (in_take q (keep_of (fault p n)) (v.link n b) j)
        | inr j ↦ let r = only b q (v.alive b && is_related p n b) refl j in subst (Fits n b) (sym r.0) (rule.may_notify n b (related_back p n b r.1))
      ];
      sender = λ i. put_here v.alive n false;
      last = ends_append notice (take (keep_of (fault p n)) (v.link n b)) _
          (λ i. true≢false (sym up ∙ (h.links n b).sender (in_take notice (keep_of (fault p n)) (v.link n b) i)))
          (ends_take notice (v.alive b && is_related p n b));
    }
