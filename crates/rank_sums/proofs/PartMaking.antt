-- How a part is made: what the ranks below a number count for, one rank after another.
use Rattle.std.proofs.Common.{◌≡◌, inl, inr, ℕ, suc, zero, ◌<◌, ◌≤◌, ◌+◌, ◌*◌, ◌^◌, Bool, true, false, ◌&&◌, ◌==◌, ap, refl, sym, subst, ◌∙◌, Option, Some, None, arith, eq-eqb, eqb-true, lt-ltb, le-ltb, mul-le-mul}
use Rattle.std.proofs.Math.IntN.{ℤ}
use lib.Signed.{mag}
use Rattle.std.specs.Prelude.{nat_lt}
use Rattle.std.proofs.lemmas.Bool.{cases_Bool, cases_lt, ltb-true, ltb-false, ne_eqb, and_parts}
use Rattle.rank_set.specs.Ranks.{Ranks, none, has, in_order, size, those, has-those, same_ranks}
use Rattle.rank_set.specs.declared.TheConstants.{RANK_LIMIT}
use Rattle.rank_set.proofs.Ordered.{in_order-those}
use Rattle.stat_plan.proofs.Totals.{length_filter_le}
use Rattle.std.proofs.lemmas.List.{get_or_past}
use Rattle.stat_plan.specs.Invariants.{IsPlan}
use Rattle.stat_plan.specs.Plans.{Plan, nodes, ranks}
use Rattle.value_text.specs.Numbers.{AreSmall, Numbers, number_of}
use Rattle.rank_sums.specs.declared.fold.Fold.{Fold}
use Rattle.rank_sums.specs.Folds.{IsWithin, counted, counted_at, joined, part_of, times, total}
use Rattle.rank_sums.specs.Parts.{PartsFit, below, counted_times, part_at, part_below}
use Rattle.rank_sums.proofs.Totals.{joined-assoc, joined-comm, joined-none, total-filter, total-joined, total-none, total-one, total-same, where_so}
use Rattle.rank_sums.proofs.Carried.{none_some, some_same}
use Rattle.rank_sums.proofs.Small.{IsAtMost, Within, at_within, fold_within, joined_within, to_order, within_more}
use Rattle.rank_sums.proofs.Times.{times_step}
use Rattle.rank_sums.proofs.Wholes.{has_in, ranks_once}

-- what passes a test counts, each rank of the set alone
by_test : (f : Fold) (h : ℕ → Option ℤ) (t : ℕ → Bool) (C : Ranks) → total f h (in_order (those t C)) ≡ total f (λ y. where_so (t y) (h y)) (in_order C)
by_test f h t C = ap (total f h) (in_order-those t C) ∙ total-filter f t h (in_order C)

-- what is below a number and one is below the number, or is the number
split : (f : Fold) (y r : ℕ) (a : Option ℤ) → where_so (nat_lt y (suc r)) a ≡ joined f (where_so (nat_lt y r) a) (where_so (y == r) a)
split f y r a = elim (cases_Bool (nat_lt y r)) [
  | inl t ↦
      let lt : y < r = ltb-true y r t in
      let next : nat_lt y (suc r) ≡ true = lt-ltb y (suc r) (omega (arith, lt)) in
      let other : (y == r) ≡ false = ne_eqb y r (λ e. omega (arith, lt, e)) in
      ap (λ b. where_so b a) next ∙ sym (joined-none f a) ∙ sym (λ i. joined f (where_so (t i) a) (where_so (other i) a))
  | inr t ↦ elim (cases_Bool (y == r)) [
    | inl same ↦
        let e : y ≡ r = eqb-true y r same in
        let next : nat_lt y (suc r) ≡ true = lt-ltb y (suc r) (omega (arith, e)) in
        ap (λ b. where_so b a) next ∙ sym (λ i. joined f (where_so (t i) a) (where_so (same i) a))
    | inr other ↦
        let least : r ≤ y = ltb-false y r t in
        let ne : y ≡ r → ⊥ = Rattle.std.proofs.lemmas.Bool.eqb-false y r other in
        let next : nat_lt y (suc r) ≡ false = le-ltb y (suc r) (beyond least ne) in
        ap (λ b. where_so b a) next ∙ sym (λ i. joined f (where_so (t i) a) (where_so (other i) a))
  ]
]
  where
    beyond : r ≤ y → (y ≡ r → ⊥) → suc r ≤ y
    beyond le ne = omega arith

-- one rank more
pub rank_more : (f : Fold) (v : Numbers) (C : Ranks) (r : ℕ) → has C r ≡ true → part_below f v C (suc r) ≡ joined f (part_below f v C r) (counted_at f (number_of v r))
rank_more f v C r there =
    let h : ℕ → Option ℤ = λ y. counted_at f (number_of v y) in
    by_test f h (λ y. nat_lt y (suc r)) C
    ∙ total-same f (λ y. where_so (nat_lt y (suc r)) (h y)) (λ y. joined f (where_so (nat_lt y r) (h y)) (where_so (y == r) (h y))) (in_order C) (λ y i. split f y r (h y))
    ∙ total-joined f (λ y. where_so (nat_lt y r) (h y)) (λ y. where_so (y == r) (h y)) (in_order C)
    ∙ ap (joined f (total f (λ y. where_so (nat_lt y r) (h y)) (in_order C))) (total-one f (λ y. y == r) h (in_order C) r (ranks_once C) (has_in C r there) (eq-eqb r r refl) (λ y i k. eqb-true y r k))
    ∙ ap (λ a. joined f a (h r)) (sym (by_test f h (λ y. nat_lt y r) C))

-- ranks of one number more
no_ranks : (f : Fold) (o a : Option ℤ) → joined f a (counted_times f o 0) ≡ a
no_ranks f None a = joined-none f a
no_ranks f (Some z) a = joined-none f a

one_more : (f : Fold) (o : Option ℤ) (n : ℕ) → joined f (counted_times f o n) (counted_at f o) ≡ counted_times f o (suc n)
one_more f None n = refl
one_more f (Some z) n = joined-comm f (times f (counted f z) n) (Some (counted f z)) ∙ times_step f (counted f z) n

pub run_more : (f : Fold) (v : Numbers) (C : Ranks) (r n : ℕ) (o : Option ℤ) → ((q : ℕ) → r ≤ q → q < r + n → has C q ≡ true) → ((q : ℕ) → r ≤ q → q < r + n → number_of v q ≡ o)
    → part_below f v C (r + n) ≡ joined f (part_below f v C r) (counted_times f o n)
run_more f v C r zero o there same = let e : r + 0 ≡ r = omega arith in ap (part_below f v C) e ∙ sym (no_ranks f o (part_below f v C r))
run_more f v C r (suc n) o there same =
    let e : r + suc n ≡ suc (r + n) = omega arith in
    ap (part_below f v C) e
    ∙ rank_more f v C (r + n) (there (r + n) (omega arith) (omega arith))
    ∙ ap (λ k. joined f (part_below f v C (r + n)) (counted_at f k)) (same (r + n) (omega arith) (omega arith))
    ∙ ap (λ a. joined f a (counted_at f o)) (run_more f v C r n o (λ q from lt. there q from (omega (arith, lt))) (λ q from lt. same q from (omega (arith, lt))))
    ∙ joined-assoc f (part_below f v C r) (counted_times f o n) (counted_at f o)
    ∙ ap (joined f (part_below f v C r)) (one_more f o n)

-- what they count for is bounded
times_within : (f : Fold) (z : ℤ) (n m : ℕ) → Within m z → IsAtMost (n * m) (times f z n)
times_within f z zero m h x e = absurd (cc)
times_within f z (suc n) m h x e =
    let k = joined_within f (Some z) (times f z n) m (n * m) (λ y same. subst (Within m) (some_same same) h) (times_within f z n m h) x (times_step f z n ∙ e) in
    (omega (arith, k.0), omega (arith, k.1))

pub run_within : (f : Fold) (o : Option ℤ) (n : ℕ) → IsAtMost 1000000000000 o → n < 2 ^ 32 → IsWithin (2 ^ 120) (counted_times f o n)
run_within f None n small lt = λ z e. absurd (cc)
run_within f (Some y) n small lt =
    let one : 1000000000000 ≤ 1000000000000 = omega arith in
    let le : n ≤ 2 ^ 32 = omega (arith, lt) in
    let m : n * 1000000000000 ≤ 2 ^ 32 * 1000000000000 = mul-le-mul le one in
    within_more (n * 1000000000000) (2 ^ 120) (counted_times f (Some y) n) (omega (arith, m))
    (to_order (n * 1000000000000) (counted_times f (Some y) n) (times_within f (counted f y) n 1000000000000 (at_within f (Some y) small (counted f y) refl)))

-- where no rank is passed, nothing is added
both : (a b c : Bool) → (a ≡ true → b ≡ c) → (a && b) ≡ (a && c)
both true b c same = same refl
both false b c same = refl

pub none_passed : (C : Ranks) (m n : ℕ) → m ≤ n → ((q : ℕ) → m ≤ q → q < n → has C q ≡ false) → below n C ≡ below m C
none_passed C m n le passed = same_ranks (below n C) (below m C) (λ r. has-those (λ q. nat_lt q n) C r ∙ both (has C r) (nat_lt r n) (nat_lt r m) (λ there. same r there) ∙ sym (has-those (λ q. nat_lt q m) C r))
  where
    same : (r : ℕ) → has C r ≡ true → nat_lt r n ≡ nat_lt r m
    same r there = elim (cases_Bool (nat_lt r m)) [
      | inl t ↦ let lt : r < m = ltb-true r m t in lt-ltb r n (omega (arith, lt, le)) ∙ sym t
      | inr t ↦ elim (cases_Bool (nat_lt r n)) [
        | inl u ↦ absurd (Rattle.std.proofs.lemmas.Bool.true≢false (sym there ∙ passed r (ltb-false r m t) (ltb-true r n u)))
        | inr u ↦ u ∙ sym t
      ]
    ]

-- where none is left, these are all
pub none_left : (C : Ranks) (m : ℕ) → ((q : ℕ) → m ≤ q → has C q ≡ false) → below m C ≡ C
none_left C m left = same_ranks (below m C) C (λ r. has-those (λ q. nat_lt q m) C r ∙ at r (has C r) refl)
  where
    at : (r : ℕ) (b : Bool) → has C r ≡ b → (b && nat_lt r m) ≡ b
    at r false e = refl
    at r true e = elim (cases_Bool (nat_lt r m)) [ inl t ↦ t | inr t ↦ absurd (Rattle.std.proofs.lemmas.Bool.true≢false (sym e ∙ left r (ltb-false r m t))) ]

-- none is below zero
pub none_yet : (f : Fold) (v : Numbers) (C : Ranks) → part_below f v C 0 ≡ None
none_yet f v C = by_test f (λ y. counted_at f (number_of v y)) (λ y. nat_lt y 0) C ∙ total-none f (λ y. where_so (nat_lt y 0) (counted_at f (number_of v y))) (in_order C) (λ y i. ap (λ b. where_so b (counted_at f (number_of v y))) (le-ltb y 0 (omega arith)))

-- what the ranks below a number count for is bounded
pub part_bound : (v : Numbers) (f : Fold) (C : Ranks) (n : ℕ) → AreSmall v → size C ≤ RANK_LIMIT → IsWithin (2 ^ 120) (part_below f v C n)
unfolding those
part_bound v f C n small covers =
    let smaller : size (below n C) ≤ size C = length_filter_le (λ q. nat_lt q n) C.list in
    within_more (2 ^ 62) (2 ^ 120) (part_below f v C n) (omega arith) (to_order (2 ^ 62) (part_below f v C n) (fold_within v f (below n C) small (omega (arith, smaller, covers))))

-- where the parts of the nodes fit, all do: nothing else has a part
pub parts_fit : (p : Plan) (v : Numbers) (f : Fold) → IsPlan p → ((d : ℕ) (z : ℤ) → d < nodes p → part_at p v f d ≡ Some z → mag z < 2 ^ 63) → PartsFit p v f
unfolding ranks
parts_fit p v f plan fit d z e = elim (cases_lt d (nodes p)) [
  | inl lt ↦ fit d z lt e
  | inr past ↦ absurd (none_some (sym (ap (part_of f v) (get_or_past p.placed d none (subst (λ n. n ≤ d) (sym plan.samples_fit.paired) past))) ∙ e))
]
