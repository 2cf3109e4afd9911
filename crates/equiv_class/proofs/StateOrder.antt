-- The states of ranks in the order of their least ranks.
use Rattle.std.proofs.Common.{◌≡◌, ℕ, suc, ◌++◌, ◌<◌, ◌≤◌, Bool, true, false, cond, not, ◌&&◌, ◌||◌, eqb, ltb, ◌==◌, List, [], ◌∷◌, length, get_or, map, refl, sym, ap, ◌∙◌, inl, inr, arith}
use Rattle.std.specs.List.{list_all, list_any, filter}
use Rattle.std.specs.Ordering.{nat_cmp, eq_by_cmp}
use Rattle.std.proofs.lemmas.Bool.{true≢false, and_parts, and_from, or_cases, cases_eq, cases_lt, eq-eqb, ne_eqb, lt-ltb, le-ltb}
use Rattle.std.proofs.Math.Bool.{or-false, or-true}
use Rattle.std.proofs.lemmas.List.{map-append}
use Rattle.rank_set.specs.Ranks.{Ranks, has, in_order, is_empty, is_strictly_increasing, has-in_order}
use Rattle.rank_set.specs.Runs.{IsRun}
use Rattle.rank_set.proofs.Ordered.{filter_on, in_order-those}
use Rattle.equiv_class.specs.States.{is_first, states_in_order, with_state}
use Rattle.equiv_class.proofs.Filling.{AreFilled, of_state_below, same_side}
use Rattle.equiv_class.proofs.Ordered.{above_all, any_by_member, increasing_members, same_number}

-- the states of the ranks below an end, by their least ranks
abbrev pub order_below : List ℕ → Ranks → ℕ → List ℕ
order_below states E q = map (λ s. get_or states s 0) (filter (λ s. ltb s q && is_first states E s) (in_order E))

-- no member passes a test that is always false
filter_none : (xs : List ℕ) → filter (λ x. false) xs ≡ []
filter_none [] = refl
filter_none (x ∷ xs) = filter_none xs

-- at first no state is noted
pub order_start : (states : List ℕ) (E : Ranks) (order : List ℕ) → order ≡ [] → order ≡ order_below states E 0
order_start states E order is =
    is ∙ sym (ap (map (λ s. get_or states s 0)) (filter_on (λ s. ltb s 0 && is_first states E s) (λ s. false) (in_order E) (λ s one. ap (λ b. b && is_first states E s) (le-ltb s 0 (omega arith)))
    ∙ filter_none (in_order E)))

-- tests that agree on the members keep the same states
same_order : (states : List ℕ) (E : Ranks) (t u : ℕ → Bool) → ((s : ℕ) → has E s ≡ true → t s ≡ u s)
    → map (λ s. get_or states s 0) (filter t (in_order E)) ≡ map (λ s. get_or states s 0) (filter u (in_order E))
same_order states E t u each = ap (map (λ s. get_or states s 0)) (filter_on t u (in_order E) (λ s one. each s (has-in_order E s ∙ one)))

-- where no member lies between, nothing changes
pub order_gap : (states : List ℕ) (E : Ranks) (from first last : ℕ) → IsRun E from first last → order_below states E from ≡ order_below states E first
order_gap states E from first last run =
    same_order states E (λ s. ltb s from && is_first states E s) (λ s. ltb s first && is_first states E s) (λ s member. ap (λ b. b && is_first states E s) (same_side E from first last run s member))

-- when all members are passed
pub order_end : (states : List ℕ) (E : Ranks) (q : ℕ) → ((r : ℕ) → q ≤ r → has E r ≡ false) → order_below states E q ≡ states_in_order states E
order_end states E q passed = same_order states E (λ s. ltb s q && is_first states E s) (is_first states E) (λ s member. ap (λ b. b && is_first states E s) (elim (cases_lt s q) [
  | inl lt ↦ lt-ltb s q lt
  | inr ge ↦ absurd (true≢false (sym member ∙ passed s ge))
]))

-- no member passes a test where the list of those that do is empty
none_kept : (t : ℕ → Bool) (xs : List ℕ) → (length (filter t xs) == 0) ≡ not (list_any t xs)
none_kept t [] = refl
none_kept t (x ∷ xs) = elim (t x) as (λ b. (length (cond b (x ∷ filter t xs) (filter t xs)) == 0) ≡ not (b || list_any t xs)) [
  | true ↦ ne_eqb (suc (length (filter t xs))) 0 (λ e. omega (arith, e))
  | false ↦ none_kept t xs
]

-- members above a rank are not below it, and none of them is the rank
none_later : (t : ℕ → Bool) (r : ℕ) (xs : List ℕ) → list_all (λ z. ltb r z) xs ≡ true
    → (filter (λ s. (ltb s r && t s) || eqb s r) xs ≡ []) × (filter (λ s. ltb s r && t s) xs ≡ [])
none_later t r xs above =
    let low : (s : ℕ) → list_any (eq_by_cmp nat_cmp s) xs ≡ true → ltb s r ≡ false = λ s one. let lt = above_all r s xs above one in le-ltb s r (omega (arith, lt)) in
    let other : (s : ℕ) → list_any (eq_by_cmp nat_cmp s) xs ≡ true → eqb s r ≡ false = λ s one. let lt = above_all r s xs above one in ne_eqb s r (λ e. omega (arith, e, lt)) in (
      filter_on (λ s. (ltb s r && t s) || eqb s r) (λ s. false) xs (λ s one. (λ i. (low s one i && t s) || other s one i)) ∙ filter_none xs,
      filter_on (λ s. ltb s r && t s) (λ s. false) xs (λ s one. ap (λ b. b && t s) (low s one)) ∙ filter_none xs,
    )

-- a rank comes behind all that are below it
with_last : (t : ℕ → Bool) (r : ℕ) (xs : List ℕ) → is_strictly_increasing xs ≡ true → list_any (eq_by_cmp nat_cmp r) xs ≡ true
    → filter (λ s. (ltb s r && t s) || eqb s r) xs ≡ filter (λ s. ltb s r && t s) xs ++ r ∷ []
with_last t r [] up one = absurd (true≢false (sym one))
with_last t r (x ∷ xs) up one =
    let parts = and_parts (list_all (λ z. ltb x z) xs) (is_strictly_increasing xs) up in
    elim (or_cases (eq_by_cmp nat_cmp r x) (list_any (eq_by_cmp nat_cmp r) xs) one) [
      | inl here ↦ at_head (sym (same_number r x here)) parts.0
      | inr later ↦ before (above_all x r xs parts.0 later) (with_last t r xs parts.1 later)
    ]
  where
    keeps : ℕ → Bool
    keeps s = (ltb s r && t s) || eqb s r

    at_head : x ≡ r → list_all (λ z. ltb x z) xs ≡ true → filter (λ s. (ltb s r && t s) || eqb s r) (x ∷ xs) ≡ filter (λ s. ltb s r && t s) (x ∷ xs) ++ r ∷ []
    at_head is above =
        let later = none_later t r xs (ap (λ y. list_all (λ z. ltb y z) xs) (sym is) ∙ above) in
        let low : ltb x r ≡ false = le-ltb x r (omega (arith, is)) in
        (λ i. cond ((low i && t x) || eq-eqb x r is i) (is i ∷ later.0 i) (later.0 i))
        ∙ sym (λ i. cond (low i && t x) (x ∷ later.1 i) (later.1 i) ++ r ∷ [])

    before : x < r → filter (λ s. (ltb s r && t s) || eqb s r) xs ≡ filter (λ s. ltb s r && t s) xs ++ r ∷ []
        → filter (λ s. (ltb s r && t s) || eqb s r) (x ∷ xs) ≡ filter (λ s. ltb s r && t s) (x ∷ xs) ++ r ∷ []
    before lt rest =
        (λ i. cond ((ltb x r && t x) || ne_eqb x r (λ e. omega (arith, e, lt)) i) (x ∷ rest i) (rest i))
        ∙ ap (λ b. cond b (x ∷ filter (λ s. ltb s r && t s) xs ++ r ∷ []) (filter (λ s. ltb s r && t s) xs ++ r ∷ [])) (or-false (ltb x r && t x))
        ∙ put_out (ltb x r && t x)
      where
        put_out : (b : Bool) → cond b (x ∷ filter (λ s. ltb s r && t s) xs ++ r ∷ []) (filter (λ s. ltb s r && t s) xs ++ r ∷ []) ≡ cond b (x ∷ filter (λ s. ltb s r && t s) xs) (filter (λ s. ltb s r && t s) xs) ++ r ∷ []
        put_out true = refl
        put_out false = refl

-- the ranks from r to before e, which are of one state
module _ (E : Ranks) (states : List ℕ) (r e : ℕ) (some : r < e) (members : (q : ℕ) → r ≤ q → q < e → has E q ≡ true) (same : (q : ℕ) → r ≤ q → q < e → get_or states q 0 ≡ get_or states r 0) where
  -- none but r is the first of its state
  later_not_first : (s : ℕ) → r < s → s < e → is_first states E s ≡ false
  later_not_first s gt lt = ap not (any_by_member (λ q. eqb (get_or states q 0) (get_or states s 0) && ltb q s) r (in_order E) (sym (has-in_order E r) ∙ members r (omega arith) some)
      (and_from (eqb (get_or states r 0) (get_or states s 0)) (ltb r s) (eq-eqb _ _ (sym (same s (omega (arith, gt)) lt))) (lt-ltb r s gt)))

  -- what the test says of each member
  not_first : is_first states E r ≡ false → (s : ℕ) → (ltb s r && is_first states E s) ≡ (ltb s e && is_first states E s)
  not_first was s = elim (cases_lt s r) [
    | inl lt ↦ ap (λ b. b && is_first states E s) (lt-ltb s r lt ∙ sym (lt-ltb s e (omega (arith, lt, some))))
    | inr ge ↦ elim (cases_lt s e) [
      | inl lt ↦ ap (λ b. b && is_first states E s) (le-ltb s r ge) ∙ sym (λ i. lt-ltb s e lt i && known s ge lt i)
      | inr past ↦ ap (λ b. b && is_first states E s) (le-ltb s r ge ∙ sym (le-ltb s e past))
    ]
  ]
    where
      known : (s : ℕ) → r ≤ s → s < e → is_first states E s ≡ false
      known s ge lt = elim (cases_eq s r) [
        | inl is ↦ ap (is_first states E) is ∙ was
        | inr ne ↦ later_not_first s (omega (arith, ge, ne)) lt
      ]

  first_comes : is_first states E r ≡ true → (s : ℕ) → (ltb s e && is_first states E s) ≡ ((ltb s r && is_first states E s) || eqb s r)
  first_comes is_new s = elim (cases_lt s r) [
    | inl lt ↦ ap (λ b. b && is_first states E s) (lt-ltb s e (omega (arith, lt, some)) ∙ sym (lt-ltb s r lt)) ∙ sym (other (λ e. omega (arith, e, lt)))
    | inr ge ↦ elim (cases_eq s r) [
      | inl is ↦ (λ i. lt-ltb s e (omega (arith, is, some)) i && (ap (is_first states E) is ∙ is_new) i) ∙ sym (ap (λ b. (ltb s r && is_first states E s) || b) (eq-eqb s r is) ∙ or-true (ltb s r && is_first states E s))
      | inr ne ↦ above (omega (arith, ge, ne)) ∙ sym (other ne ∙ ap (λ b. b && is_first states E s) (le-ltb s r ge))
    ]
  ]
    where
      other : (s ≡ r → ⊥) → ((ltb s r && is_first states E s) || eqb s r) ≡ (ltb s r && is_first states E s)
      other ne = ap (λ b. (ltb s r && is_first states E s) || b) (ne_eqb s r ne) ∙ or-false (ltb s r && is_first states E s)

      above : r < s → (ltb s e && is_first states E s) ≡ false
      above gt = elim (cases_lt s e) [
        | inl lt ↦ (λ i. lt-ltb s e lt i && later_not_first s gt lt i)
        | inr past ↦ ap (λ b. b && is_first states E s) (le-ltb s e past)
      ]

  -- the state has no ranks yet where r is the first of it
  first_by_ranks : (ranks : ℕ → Ranks) → AreFilled E states r ranks → is_empty (ranks (get_or states r 0)) ≡ is_first states E r
  first_by_ranks ranks h =
      ap is_empty (h.filled (get_or states r 0))
      ∙ ap (λ (xs : List ℕ). length xs == 0) (in_order-those (of_state_below states (get_or states r 0) r) E)
      ∙ none_kept (of_state_below states (get_or states r 0) r) (in_order E)

  -- the state is noted where r is the first of it
  noted : (b : Bool) → is_first states E r ≡ b → cond b (order_below states E r ++ get_or states r 0 ∷ []) (order_below states E r) ≡ order_below states E e
  noted true is_new =
      sym (map-append (λ s. get_or states s 0) (filter (λ s. ltb s r && is_first states E s) (in_order E)) (r ∷ []))
      ∙ ap (map (λ s. get_or states s 0)) (sym (with_last (is_first states E) r (in_order E) (increasing_members E) (sym (has-in_order E r) ∙ members r (omega arith) some)))
      ∙ sym (same_order states E (λ s. ltb s e && is_first states E s) (λ s. (ltb s r && is_first states E s) || eqb s r) (λ s _. first_comes is_new s))
  noted false was = same_order states E (λ s. ltb s r && is_first states E s) (λ s. ltb s e && is_first states E s) (λ s _. not_first was s)

  pub order_step : (ranks : ℕ → Ranks) (order order' : List ℕ) → AreFilled E states r ranks
      → order' ≡ with_state (ranks (get_or states r 0)) (get_or states r 0) order → order ≡ order_below states E r → order' ≡ order_below states E e
  order_step ranks order order' h is so_far =
      is ∙ (λ i. cond (first_by_ranks ranks h i) (so_far i ++ get_or states r 0 ∷ []) (so_far i)) ∙ noted (is_first states E r) refl
