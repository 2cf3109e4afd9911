-- The weight of an overlay, whatever its packets weigh, and whatever its nodes weigh besides: each living node weighs the number of
-- nodes, for the notices of its loss.
use Rattle.std.proofs.Common.{◌≡◌, ◌≤◌, ◌<◌, ◌+◌, ◌*◌, inl, inr, ℕ, suc, zero, Bool, true, false, cond, ◌&&◌, ◌==◌, nat_lt, lt-ltb, List, [], ◌∷◌, ◌++◌, length, take, refl, sym, ap, subst, ◌∙◌, arith, eqb-true, eq-eqb, le_refl, zero-le}
use Rattle.std.proofs.lemmas.Bool.{cond_both, cond-true, cond-false, and_parts, and_from, cases_Bool, true≢false, ltb-true}
use Rattle.overlay_setup.specs.NodeSets.{up_to}
use Rattle.stat_plan.specs.Plans.{Plan, nodes, is_related, fault}
use Rattle.stat_plan.specs.Machine.Kin.{Kin}
use Rattle.stat_plan.proofs.InLists.{up_to_below}
use Rattle.overlay_setup.proofs.UpTo.{length-up_to}
use Rattle.stat_plan.proofs.Totals.{total, total_append, total_le, total_bound, total_at}
use Rattle.stat_plan.specs.Machine.Overlays.{Overlay, start_overlay, to, with_link, with_event, with_loss, keep_of}

abbrev pub nodes_weight : {X : Type 0} → Plan → (ℕ → ℕ) → Overlay X → ℕ
nodes_weight p own v = total (λ a. cond (v.alive a) (nodes p + own a) 0) (up_to (nodes p))

abbrev pub row_weight : {X : Type 0} → Plan → (X → ℕ) → Overlay X → ℕ → ℕ
row_weight p w v a = total (λ b. total w (v.link a b)) (up_to (nodes p))

abbrev pub links_weight : {X : Type 0} → Plan → (X → ℕ) → Overlay X → ℕ
links_weight p w v = total (row_weight p w v) (up_to (nodes p))

abbrev pub weight : {X : Type 0} → Plan → (X → ℕ) → (ℕ → ℕ) → Overlay X → ℕ
weight p w own v = nodes_weight p own v + links_weight p w v

abbrev pub sends_weight : {X : Type 0} → (X → ℕ) → List (ℕ × X) → ℕ
sends_weight w sends = total (λ s. w s.1) sends

total_zero : {X : Type 0} (xs : List X) → total (λ x. 0) xs ≡ 0
total_zero [] = refl
total_zero (x ∷ xs) = let ih : total (λ x. 0) xs ≡ 0 = total_zero xs in omega arith

total_plus : {X : Type 0} (f g : X → ℕ) (xs : List X) → total (λ x. f x + g x) xs ≡ total f xs + total g xs
total_plus f g [] = refl
total_plus f g (x ∷ xs) = let ih : total (λ x. f x + g x) xs ≡ total f xs + total g xs = total_plus f g xs in omega arith

total_take : {X : Type 0} (w : X → ℕ) (k : ℕ) (xs : List X) → total w (take k xs) ≤ total w xs
total_take w zero xs = zero-le
total_take w (suc k) [] = zero-le
total_take w (suc k) (x ∷ xs) = let ih : total w (take k xs) ≤ total w xs = total_take w k xs in omega arith

-- ---- a packet is taken off its link

pub popped_weight : {X : Type 0} (p : Plan) (w : X → ℕ) (own : ℕ → ℕ) (v : Overlay X) (m n : ℕ) (q : X) (qs : List X) → m < nodes p → n < nodes p → v.link m n ≡ q ∷ qs → weight p w own (with_link v m n qs) + w q ≤ weight p w own v
popped_weight p w own v m n q qs lm ln e =
    let f : ℕ → ℕ = λ b. total w ((with_link v m n qs).link m b) in
    let g : ℕ → ℕ = λ b. total w (v.link m b) in
    let inner : total f (up_to (nodes p)) + g n ≤ total g (up_to (nodes p)) + f n = total_at f g (nodes p) n (λ b ne. less m b) ln in
    let fn : f n ≡ total w qs = ap (total w) (cond-true ((m == m) && (n == n)) qs (v.link m n) (and_from _ _ (eq-eqb m m refl) (eq-eqb n n refl))) in
    let gn : g n ≡ w q + total w qs = ap (total w) e in
    let outer : total (row_weight p w (with_link v m n qs)) (up_to (nodes p)) + row_weight p w v m ≤ total (row_weight p w v) (up_to (nodes p)) + row_weight p w (with_link v m n qs) m =
    total_at (row_weight p w (with_link v m n qs)) (row_weight p w v) (nodes p) m (λ a ne. total_le (λ b. total w ((with_link v m n qs).link a b)) (λ b. total w (v.link a b)) (up_to (nodes p)) (λ b i. less a b)) lm in
    omega arith
  where
    less : (a b : ℕ) → total w ((with_link v m n qs).link a b) ≤ total w (v.link a b)
    less a b = cond_both ((a == m) && (b == n)) qs (v.link a b) (λ l. total w l ≤ total w (v.link a b))
        (λ t.
        let ea : a ≡ m = eqb-true a m (and_parts (a == m) (b == n) t).0 in
        let eb : b ≡ n = eqb-true b n (and_parts (a == m) (b == n) t).1 in
        let k : total w (v.link a b) ≡ w q + total w qs = ap (λ x. total w (v.link x b)) ea ∙ ap (λ x. total w (v.link m x)) eb ∙ ap (total w) e in
        omega arith)
        (λ t. le_refl _)

-- ---- n sends

to_weight : {X : Type 0} (w : X → ℕ) (b : ℕ) (s : ℕ × X) (sends : List (ℕ × X)) → total w (to b (s ∷ sends)) ≡ cond (s.0 == b) (w s.1) 0 + total w (to b sends)
to_weight w b s sends = cond_both (s.0 == b) (s.1 ∷ to b sends) (to b sends) (λ l. total w l ≡ cond (s.0 == b) (w s.1) 0 + total w (to b sends))
    (λ e. ap (λ c. cond c (w s.1) 0 + total w (to b sends)) (sym e))
    (λ e. let z : cond (s.0 == b) (w s.1) 0 ≡ 0 = cond-false (s.0 == b) (w s.1) 0 e in omega arith)

-- one of the numbers below n at most is k
one_of : (n k c : ℕ) → total (λ b. cond (k == b) c 0) (up_to n) ≤ c
one_of n k c = elim (cases_Bool (nat_lt k n)) [
  | inl t ↦
      let a : total (λ b. cond (k == b) c 0) (up_to n) + 0 ≤ total (λ b. 0) (up_to n) + cond (k == k) c 0 =
      total_at (λ b. cond (k == b) c 0) (λ b. 0) n k (λ b ne. other b ne) (ltb-true k n t) in
      let z : total (λ b. 0) (up_to n) ≡ 0 = total_zero (up_to n) in
      let y : cond (k == k) c 0 ≤ c = cond_both (k == k) c 0 (λ x. x ≤ c) (λ e. le_refl _) (λ e. zero-le) in
      omega arith
  | inr f ↦
      let a : total (λ b. cond (k == b) c 0) (up_to n) ≤ total (λ b. 0) (up_to n) = total_le (λ b. cond (k == b) c 0) (λ b. 0) (up_to n) (λ b i. other b (λ e. true≢false (sym (lt-ltb b n (up_to_below n b i)) ∙ ap (λ z. nat_lt z n) e ∙ f))) in
      let z : total (λ b. 0) (up_to n) ≡ 0 = total_zero (up_to n) in
      omega arith
]
  where
    other : (b : ℕ) → (b ≡ k → ⊥) → cond (k == b) c 0 ≤ 0
    other b ne = cond_both (k == b) c 0 (λ x. x ≤ 0) (λ e. absurd (ne (sym (eqb-true k b e)))) (λ e. zero-le)

sends_to : {X : Type 0} (w : X → ℕ) (n : ℕ) (sends : List (ℕ × X)) → total (λ b. total w (to b sends)) (up_to n) ≤ sends_weight w sends
sends_to w n [] = let z : total (λ b. 0) (up_to n) ≡ 0 = total_zero (up_to n) in omega arith
sends_to w n (s ∷ sends) =
    let ih : total (λ b. total w (to b sends)) (up_to n) ≤ sends_weight w sends = sends_to w n sends in
    let e : total (λ b. total w (to b (s ∷ sends))) (up_to n) ≤ total (λ b. cond (s.0 == b) (w s.1) 0 + total w (to b sends)) (up_to n) =
    total_le (λ b. total w (to b (s ∷ sends))) (λ b. cond (s.0 == b) (w s.1) 0 + total w (to b sends)) (up_to n) (λ b i. subst (λ x. total w (to b (s ∷ sends)) ≤ x) (to_weight w b s sends) (le_refl _)) in
    let f : total (λ b. cond (s.0 == b) (w s.1) 0 + total w (to b sends)) (up_to n) ≡ total (λ b. cond (s.0 == b) (w s.1) 0) (up_to n) + total (λ b. total w (to b sends)) (up_to n) =
    total_plus (λ b. cond (s.0 == b) (w s.1) 0) (λ b. total w (to b sends)) (up_to n) in
    let g : total (λ b. cond (s.0 == b) (w s.1) 0) (up_to n) ≤ w s.1 = one_of n s.0 (w s.1) in
    omega arith

-- n's event: the others weigh what they weighed
pub event_weight : {X : Type 0} (p : Plan) (w : X → ℕ) (old new : ℕ → ℕ) (v : Overlay X) (n : ℕ) (kin : Kin) (sends : List (ℕ × X)) (c d : ℕ) → n < nodes p → v.alive n ≡ true → ((a : ℕ) → (a ≡ n → ⊥) → new a ≡ old a) → new n + sends_weight w sends + c ≤ old n + d → weight p w new (with_event v n kin sends) + c ≤ weight p w old v + d
event_weight p w old new v n kin sends c d lt up same less =
    let f : ℕ → ℕ = λ a. cond (v.alive a) (nodes p + new a) 0 in
    let g : ℕ → ℕ = λ a. cond (v.alive a) (nodes p + old a) 0 in
    let a : total f (up_to (nodes p)) + g n ≤ total g (up_to (nodes p)) + f n = total_at f g (nodes p) n other lt in
    let fn : f n ≡ nodes p + new n = cond-true (v.alive n) (nodes p + new n) 0 up in
    let gn : g n ≡ nodes p + old n = cond-true (v.alive n) (nodes p + old n) 0 up in
    let r : total (row_weight p w (with_event v n kin sends)) (up_to (nodes p)) + row_weight p w v n ≤ total (row_weight p w v) (up_to (nodes p)) + row_weight p w (with_event v n kin sends) n =
    total_at (row_weight p w (with_event v n kin sends)) (row_weight p w v) (nodes p) n row_else lt in
    let s : row_weight p w (with_event v n kin sends) n ≤ row_weight p w v n + sends_weight w sends = row_here in
    omega arith
  where
    other : (a : ℕ) → (a ≡ n → ⊥) → cond (v.alive a) (nodes p + new a) 0 ≤ cond (v.alive a) (nodes p + old a) 0
    other a ne = subst (λ x. cond (v.alive a) (nodes p + x) 0 ≤ cond (v.alive a) (nodes p + old a) 0) (sym (same a ne)) (le_refl _)

    row_else : (a : ℕ) → (a ≡ n → ⊥) → row_weight p w (with_event v n kin sends) a ≤ row_weight p w v a
    row_else a ne = total_le (λ b. total w ((with_event v n kin sends).link a b)) (λ b. total w (v.link a b)) (up_to (nodes p))
        (λ b i. cond_both ((a == n) && v.alive b) (v.link a b ++ to b sends) (v.link a b) (λ l. total w l ≤ total w (v.link a b)) (λ t. absurd (ne (eqb-true a n (and_parts _ _ t).0))) (λ t. le_refl _))

    row_here : row_weight p w (with_event v n kin sends) n ≤ row_weight p w v n + sends_weight w sends
    row_here =
        let e : total (λ b. total w ((with_event v n kin sends).link n b)) (up_to (nodes p)) ≤ total (λ b. total w (v.link n b) + total w (to b sends)) (up_to (nodes p)) =
        total_le (λ b. total w ((with_event v n kin sends).link n b)) (λ b. total w (v.link n b) + total w (to b sends)) (up_to (nodes p))
        (λ b i. cond_both ((n == n) && v.alive b) (v.link n b ++ to b sends) (v.link n b) (λ l. total w l ≤ total w (v.link n b) + total w (to b sends)) (λ t. let k = total_append w (v.link n b) (to b sends) in omega arith) (λ t. omega arith)) in
        let f : total (λ b. total w (v.link n b) + total w (to b sends)) (up_to (nodes p)) ≡ total (λ b. total w (v.link n b)) (up_to (nodes p)) + total (λ b. total w (to b sends)) (up_to (nodes p)) =
        total_plus (λ b. total w (v.link n b)) (λ b. total w (to b sends)) (up_to (nodes p)) in
        let g : total (λ b. total w (to b sends)) (up_to (nodes p)) ≤ sends_weight w sends = sends_to w (nodes p) sends in
        omega arith

-- ---- n is lost

pub loss_weight : {X : Type 0} (p : Plan) (w : X → ℕ) (own : ℕ → ℕ) (notice : X) (v : Overlay X) (n : ℕ) → w notice ≤ 1 → n < nodes p → v.alive n ≡ true → weight p w own (with_loss notice p v n) + 1 ≤ weight p w own v
loss_weight p w own notice v n light lt up =
    let f : ℕ → ℕ = λ a. cond ((with_loss notice p v n).alive a) (nodes p + own a) 0 in
    let g : ℕ → ℕ = λ a. cond (v.alive a) (nodes p + own a) 0 in
    let a : total f (up_to (nodes p)) + g n ≤ total g (up_to (nodes p)) + f n = total_at f g (nodes p) n (λ b ne. alive_less b) lt in
    let fn : f n ≡ 0 = ap (λ x. cond x (nodes p + own n) 0) (cond-true (n == n) false (v.alive n) (eq-eqb n n refl)) in
    let gn : g n ≡ nodes p + own n = cond-true (v.alive n) (nodes p + own n) 0 up in
    let h : ℕ → ℕ = λ b. total w ((with_loss notice p v n).link n b) in
    let k : ℕ → ℕ = λ b. total w (v.link n b) + 1 in
    let c : total h (up_to (nodes p)) + k n ≤ total k (up_to (nodes p)) + h n = total_at h k (nodes p) n (λ b ne. cut_less b) lt in
    let hn : h n ≡ 0 = ap (total w) (cond-true (n == n) [] _ (eq-eqb n n refl)) in
    let ks : total k (up_to (nodes p)) ≡ total (λ b. total w (v.link n b)) (up_to (nodes p)) + total (λ b. 1) (up_to (nodes p)) = total_plus (λ b. total w (v.link n b)) (λ b. 1) (up_to (nodes p)) in
    let ones : total {X = ℕ} (λ b. 1) (up_to (nodes p)) ≤ length (up_to (nodes p)) * 1 = total_bound (λ b. 1) 1 (up_to (nodes p)) (λ b i. le_refl _) in
    let len : length (up_to (nodes p)) ≡ nodes p = length-up_to (nodes p) in
    let outer : total (row_weight p w (with_loss notice p v n)) (up_to (nodes p)) + row_weight p w v n ≤ total (row_weight p w v) (up_to (nodes p)) + row_weight p w (with_loss notice p v n) n =
    total_at (row_weight p w (with_loss notice p v n)) (row_weight p w v) (nodes p) n (λ a ne. total_le (λ b. total w ((with_loss notice p v n).link a b)) (λ b. total w (v.link a b)) (up_to (nodes p)) (λ b i. row_less a b ne)) lt in
    omega arith
  where
    alive_less : (b : ℕ) → cond ((with_loss notice p v n).alive b) (nodes p + own b) 0 ≤ cond (v.alive b) (nodes p + own b) 0
    alive_less b = cond_both (b == n) false (v.alive b) (λ x. cond x (nodes p + own b) 0 ≤ cond (v.alive b) (nodes p + own b) 0) (λ e. zero-le) (λ e. le_refl _)

    told : (t : Bool) → total w (cond t (notice ∷ []) []) ≤ 1
    told true = omega arith
    told false = zero-le

    cut_less : (b : ℕ) → total w ((with_loss notice p v n).link n b) ≤ total w (v.link n b) + 1
    cut_less b = cond_both (b == n) [] _ (λ l. total w l ≤ total w (v.link n b) + 1)
        (λ e. zero-le)
        (λ e. cond_both (n == n) _ (v.link n b) (λ l. total w l ≤ total w (v.link n b) + 1)
        (λ f.
        let x = total_append w (take (keep_of (fault p n)) (v.link n b)) (cond (v.alive b && is_related p n b) (notice ∷ []) []) in
        let y = total_take w (keep_of (fault p n)) (v.link n b) in
        let z = told (v.alive b && is_related p n b) in
        omega arith)
        (λ f. omega arith))

    row_less : (a b : ℕ) → (a ≡ n → ⊥) → total w ((with_loss notice p v n).link a b) ≤ total w (v.link a b)
    row_less a b ne = cond_both (b == n) [] _ (λ l. total w l ≤ total w (v.link a b))
        (λ e. zero-le)
        (λ e. cond_both (a == n) _ (v.link a b) (λ l. total w l ≤ total w (v.link a b)) (λ f. absurd (ne (eqb-true a n f))) (λ f. le_refl _))

-- ---- the start

total_nothing : {X : Type 0} (f : X → ℕ) (xs : List X) → ((x : X) → f x ≡ 0) → total f xs ≡ 0
total_nothing f [] h = refl
total_nothing f (x ∷ xs) h = let a : f x ≡ 0 = h x in let ih : total f xs ≡ 0 = total_nothing f xs h in omega arith

pub start_weight : {X : Type 0} (p : Plan) (w : X → ℕ) (own : ℕ → ℕ) (c : ℕ) → ((a : ℕ) → own a ≤ c) → weight p w own (start_overlay p) ≤ nodes p * (nodes p + c)
start_weight {X} p w own c few =
    let a : nodes_weight p own (start_overlay {X = X} p) ≤ length (up_to (nodes p)) * (nodes p + c) = total_bound (λ a. cond ((start_overlay {X = X} p).alive a) (nodes p + own a) 0) (nodes p + c) (up_to (nodes p)) (λ a i. each a) in
    let b : links_weight p w (start_overlay p) ≡ 0 = total_nothing (row_weight p w (start_overlay p)) (up_to (nodes p)) (λ a. total_nothing (λ b. total w []) (up_to (nodes p)) (λ b. refl)) in
    let len : length (up_to (nodes p)) * (nodes p + c) ≡ nodes p * (nodes p + c) = ap (λ l. l * (nodes p + c)) (length-up_to (nodes p)) in
    omega arith
  where
    each : (a : ℕ) → cond (nat_lt a (nodes p)) (nodes p + own a) 0 ≤ nodes p + c
    each a = cond_both (nat_lt a (nodes p)) (nodes p + own a) 0 (λ x. x ≤ nodes p + c) (λ e. let k = few a in omega arith) (λ e. zero-le)
