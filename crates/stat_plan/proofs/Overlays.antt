-- How links change, and that each change of an overlay keeps its invariant.
use Rattle.std.proofs.Common.{◌≡◌, ◌⊎◌, inl, inr, ℕ, Bool, true, false, cond, ◌&&◌, ◌==◌, List, [], ◌∷◌, ◌++◌, take, refl, sym, ap, subst, ◌∙◌, append-nil, eqb-true, eq-eqb}
use Rattle.std.proofs.lemmas.Bool.{cond_both, cond-true, cond-false, and_parts, and_from, cases_Bool, eqb-false, true≢false}
use Rattle.overlay_setup.specs.NodeSets.{In}
use Rattle.stat_plan.specs.Machine.Waves.{put_at}
use Rattle.stat_plan.specs.Machine.Kin.{Kin}
use Rattle.stat_plan.specs.Plans.{Plan, fault, is_related}
use Rattle.stat_plan.proofs.InLists.{in_append, append_left, append_right, in_take}
use Rattle.stat_plan.specs.Machine.Overlays.{Overlay, is_pending, to, with_link, with_event, with_loss, keep_of}
use Rattle.stat_plan.specs.Machine.LossInvariant.{EndsAt}

-- ---- lists that end at the notice

pub ends_append : {X : Type 0} (notice : X) (xs ys : List X) → (In notice xs → ⊥) → EndsAt notice ys → EndsAt notice (xs ++ ys)
ends_append notice [] ys h hy = hy
ends_append notice (x ∷ xs) ys h hy = ((λ e. absurd (h (inl (sym e)))), ends_append notice xs ys (λ i. h (inr i)) hy)

pub ends_without : {X : Type 0} (notice : X) (xs : List X) → (In notice xs → ⊥) → EndsAt notice xs
ends_without notice [] h = tt
ends_without notice (x ∷ xs) h = ((λ e. absurd (h (inl (sym e)))), ends_without notice xs (λ i. h (inr i)))

pub ends_take : {X : Type 0} (notice : X) (b : Bool) → EndsAt notice (cond b (notice ∷ []) [])
ends_take notice true = ((λ e. refl), tt)
ends_take notice false = tt

-- ---- what is on the way

pub first_in : {X : Type 0} (l : List X) → is_pending l ≡ true → (q : X) × In q l
first_in [] e = absurd (true≢false (sym e))
first_in (q ∷ qs) e = (q, inl refl)

pub none_pending : {X : Type 0} (l : List X) → is_pending l ≡ false → l ≡ []
none_pending [] e = refl
none_pending (q ∷ qs) e = absurd (true≢false e)

-- ---- what a number is put at, and what stays

pub ne_false : (a b : ℕ) → (a ≡ b → ⊥) → (a == b) ≡ false
ne_false a b h = elim (cases_Bool (a == b)) [ inl t ↦ absurd (h (eqb-true a b t)) | inr f ↦ f ]

pub put_here : {X : Type 0} (f : ℕ → X) (n : ℕ) (x : X) → put_at f n x n ≡ x
put_here f n x = cond-true (n == n) x (f n) (eq-eqb n n refl)

pub put_else : {X : Type 0} (f : ℕ → X) (n : ℕ) (x : X) (a : ℕ) → (a ≡ n → ⊥) → put_at f n x a ≡ f a
put_else f n x a ne = cond-false (a == n) x (f a) (ne_false a n ne)

pub put_each : {X : Type 0} (P : ℕ → X → Type 0) (f : ℕ → X) (n : ℕ) (x : X) → P n x → ((a : ℕ) → P a (f a)) → (a : ℕ) → P a (put_at f n x a)
put_each P f n x here each a = cond_both (a == n) x (f a) (P a) (λ e. subst (λ b. P b x) (sym (eqb-true a n e)) here) (λ e. each a)

-- ---- who is dead where n is lost

-- who is dead stays so
pub still_dead : (alive : ℕ → Bool) (n a : ℕ) → alive a ≡ false → put_at alive n false a ≡ false
still_dead alive n a d = cond_both (a == n) false (alive a) (λ b. b ≡ false) (λ e. refl) (λ e. d)

-- who is alive was so, and isn't n
pub was_alive : (alive : ℕ → Bool) (n a : ℕ) → put_at alive n false a ≡ true → (alive a ≡ true) × ((a == n) ≡ false)
was_alive alive n a = cond_both (a == n) false (alive a) (λ b. b ≡ true → (alive a ≡ true) × ((a == n) ≡ false)) (λ e u. absurd (cc)) (λ e u. (u, e))

-- who is dead now was so, or is n
pub now_dead : (alive : ℕ → Bool) (n a : ℕ) → put_at alive n false a ≡ false → (a ≡ n) ⊎ (alive a ≡ false)
now_dead alive n a = cond_both (a == n) false (alive a) (λ b. b ≡ false → (a ≡ n) ⊎ (alive a ≡ false)) (λ e u. inl (eqb-true a n e)) (λ e u. inr u)

-- ---- what is sent to one node

pub in_to : {X : Type 0} (b : ℕ) (q : X) (vs : List (ℕ × X)) → In q (to b vs) → In (b, q) vs
in_to b q [] i = absurd i
in_to b q (v ∷ vs) i = go (in_to b q vs) (v.0 == b) refl i
  where
    go : (In q (to b vs) → In (b, q) vs) → (t : Bool) → (v.0 == b) ≡ t → In q (cond t (v.1 ∷ to b vs) (to b vs)) → In (b, q) (v ∷ vs)
    go ih true e (inl k) = let eb : v.0 ≡ b = eqb-true v.0 b e in inl (λ j. (sym eb j, k j))
    go ih true e (inr k) = inr (ih k)
    go ih false e k = inr (ih k)

pub to_in : {X : Type 0} (b : ℕ) (q : X) (vs : List (ℕ × X)) → In (b, q) vs → In q (to b vs)
to_in b q [] i = absurd i
to_in {X} b q (v ∷ vs) i = go (to_in b q vs) (v.0 == b) refl i
  where
    go : (In {X = ℕ × X} (b, q) vs → In q (to b vs)) → (t : Bool) → (v.0 == b) ≡ t → In {X = ℕ × X} (b, q) (v ∷ vs) → In q (cond t (v.1 ∷ to b vs) (to b vs))
    go ih true e (inl k) = inl (ap (λ y. y.1) k)
    go ih true e (inr k) = inr (ih k)
    go ih false e (inl k) = absurd (eqb-false v.0 b e (sym (ap (λ y. y.0) k)))
    go ih false e (inr k) = ih k

-- ---- the link from m to n has other packets

pub popped_here : {X : Type 0} (v : Overlay X) (m n : ℕ) (qs : List X) → (with_link v m n qs).link m n ≡ qs
popped_here v m n qs = cond-true ((m == m) && (n == n)) qs (v.link m n) (and_from (m == m) (n == n) (eq-eqb m m refl) (eq-eqb n n refl))

pub popped_else : {X : Type 0} (v : Overlay X) (m n : ℕ) (qs : List X) (a b : ℕ) → (a ≡ m → b ≡ n → ⊥) → (with_link v m n qs).link a b ≡ v.link a b
popped_else v m n qs a b ne = cond_both ((a == m) && (b == n)) qs (v.link a b) (λ l. l ≡ v.link a b) (λ t. absurd (ne (eqb-true a m (and_parts _ _ t).0) (eqb-true b n (and_parts _ _ t).1))) (λ t. refl)

-- what holds of each link, and of that one with its other packets
pub popped_each : {X : Type 0} (P : ℕ → ℕ → List X → Type 0) (v : Overlay X) (m n : ℕ) (qs : List X) → P m n qs → ((a b : ℕ) → P a b (v.link a b)) → (a b : ℕ) → P a b ((with_link v m n qs).link a b)
popped_each P v m n qs here each a b =
    cond_both ((a == m) && (b == n)) qs (v.link a b) (P a b)
    (λ t. let ea : a ≡ m = eqb-true a m (and_parts _ _ t).0 in let eb : b ≡ n = eqb-true b n (and_parts _ _ t).1 in subst (λ x. P x b qs) (sym ea) (subst (λ x. P m x qs) (sym eb) here))
    (λ t. each a b)

pub popped_in : {X : Type 0} (v : Overlay X) (m n : ℕ) (q : X) (qs : List X) → v.link m n ≡ q ∷ qs → (a b : ℕ) (x : X) → In x ((with_link v m n qs).link a b) → In x (v.link a b)
popped_in v m n q qs e a b x = popped_each (λ a b l. In x l → In x (v.link a b)) v m n qs (λ i. subst (λ l. In x l) (sym e) (inr i)) (λ a b i. i) a b

-- ---- n sends

pub sent_else : {X : Type 0} (v : Overlay X) (n : ℕ) (kin : Kin) (sends : List (ℕ × X)) (a b : ℕ) → (a ≡ n → ⊥) → (with_event v n kin sends).link a b ≡ v.link a b
sent_else v n kin sends a b ne = cond_both ((a == n) && v.alive b) (v.link a b ++ to b sends) (v.link a b) (λ l. l ≡ v.link a b) (λ t. absurd (ne (eqb-true a n (and_parts _ _ t).0))) (λ t. refl)

pub sent_here : {X : Type 0} (v : Overlay X) (n : ℕ) (kin : Kin) (sends : List (ℕ × X)) (b : ℕ) → v.alive b ≡ true → (with_event v n kin sends).link n b ≡ v.link n b ++ to b sends
sent_here v n kin sends b up = cond-true ((n == n) && v.alive b) (v.link n b ++ to b sends) (v.link n b) (and_from _ _ (eq-eqb n n refl) up)

-- what is sent to a living node is on the link to it
pub sent_there : {X : Type 0} (v : Overlay X) (n : ℕ) (kin : Kin) (sends : List (ℕ × X)) (b : ℕ) (q : X) → v.alive b ≡ true → In (b, q) sends → In q ((with_event v n kin sends).link n b)
sent_there v n kin sends b q up i = subst (λ l. In q l) (sym (sent_here v n kin sends b up)) (append_right q (v.link n b) (to b sends) (to_in b q sends i))

-- nothing was sent to b
pub sent_nothing : {X : Type 0} (v : Overlay X) (n : ℕ) (kin : Kin) (sends : List (ℕ × X)) (b : ℕ) → to b sends ≡ [] → (with_event v n kin sends).link n b ≡ v.link n b
sent_nothing v n kin sends b none = cond_both ((n == n) && v.alive b) (v.link n b ++ to b sends) (v.link n b) (λ l. l ≡ v.link n b) (λ t. ap (λ l. v.link n b ++ l) none ∙ append-nil (v.link n b)) (λ t. refl)

-- what is on a link stood there, or was sent
pub sent_in : {X : Type 0} (v : Overlay X) (n : ℕ) (kin : Kin) (sends : List (ℕ × X)) (a b : ℕ) (q : X) → In q ((with_event v n kin sends).link a b) → In q (v.link a b) ⊎ ((a ≡ n) × (v.alive b ≡ true) × (In (b, q) sends))
sent_in v n kin sends a b q =
    cond_both ((a == n) && v.alive b) (v.link a b ++ to b sends) (v.link a b) (λ qs. In q qs → In q (v.link a b) ⊎ ((a ≡ n) × (v.alive b ≡ true) × (In (b, q) sends)))
    (λ e i. elim (in_append q (v.link a b) (to b sends) i) [ inl j ↦ inl j | inr j ↦ inr (eqb-true a n (and_parts _ _ e).0, (and_parts _ _ e).1, in_to b q sends j) ])
    (λ e i. inl i)

pub sent_grows : {X : Type 0} (v : Overlay X) (n : ℕ) (kin : Kin) (sends : List (ℕ × X)) (a b : ℕ) (q : X) → In q (v.link a b) → In q ((with_event v n kin sends).link a b)
sent_grows v n kin sends a b q i = cond_both ((a == n) && v.alive b) (v.link a b ++ to b sends) (v.link a b) (In q) (λ e. append_left q (v.link a b) (to b sends) i) (λ e. i)

-- ---- n is lost

pub lost_into : {X : Type 0} (notice : X) (p : Plan) (v : Overlay X) (n a b : ℕ) → b ≡ n → (with_loss notice p v n).link a b ≡ []
lost_into notice p v n a b e = cond-true (b == n) [] _ (eq-eqb b n e)

pub lost_out : {X : Type 0} (notice : X) (p : Plan) (v : Overlay X) (n b : ℕ) → (b ≡ n → ⊥) → (with_loss notice p v n).link n b ≡ take (keep_of (fault p n)) (v.link n b) ++ cond (v.alive b && is_related p n b) (notice ∷ []) []
lost_out notice p v n b ne = cond-false (b == n) _ _ (ne_false b n ne) ∙ cond-true (n == n) _ _ (eq-eqb n n refl)

pub lost_else : {X : Type 0} (notice : X) (p : Plan) (v : Overlay X) (n a b : ℕ) → (b ≡ n → ⊥) → (a ≡ n → ⊥) → (with_loss notice p v n).link a b ≡ v.link a b
lost_else notice p v n a b nb na = cond-false (b == n) _ _ (ne_false b n nb) ∙ cond-false (a == n) _ _ (ne_false a n na)

-- what is on a link stood there, or is the notice of n's loss
pub lost_in : {X : Type 0} (notice : X) (p : Plan) (v : Overlay X) (n a b : ℕ) (q : X) → In q ((with_loss notice p v n).link a b) → In q (v.link a b) ⊎ ((q ≡ notice) × (a ≡ n))
lost_in {X} notice p v n a b q = cond_both (b == n) [] _ (λ l. In q l → In q (v.link a b) ⊎ ((q ≡ notice) × (a ≡ n))) (λ e i. absurd i)
    (λ e. cond_both (a == n) _ (v.link a b) (λ l. In q l → In q (v.link a b) ⊎ ((q ≡ notice) × (a ≡ n)))
    (λ f i. elim (in_append q (take (keep_of (fault p n)) (v.link a b)) _ i) [
      | inl j ↦ inl (in_take q (keep_of (fault p n)) (v.link a b) j)
      | inr j ↦ inr (is_notice (v.alive b && is_related p n b) j, eqb-true a n f)
    ])
    (λ f i. inl i))
  where
    is_notice : (t : Bool) → In q (cond t (notice ∷ []) []) → q ≡ notice
    is_notice true (inl k) = k
    is_notice true (inr k) = absurd k
    is_notice false k = absurd k
