-- The least members of a set.
use Rattle.std.proofs.Common.{◌≡◌, ℕ, zero, suc, ◌+◌, ◌<◌, ◌≤◌, Bool, true, false, cond, ◌||◌, ltb, nat_lt, List, [], get_or, ◌∷◌, ◌++◌, length, take, refl, sym, ap, ◌∙◌, arith, inl, inr, lt-ltb, le-ltb}
use Rattle.std.specs.List.{list_all, list_any, filter, flat_map}
use Rattle.std.specs.Ordering.{nat_cmp, eq_by_cmp}
use Rattle.std.proofs.lemmas.Bool.{true≢false, and_parts, or_cases, or_left, cases_lt}
use Rattle.std.proofs.lemmas.List.{append-nil, take_all}
use Rattle.std.proofs.lemmas.Grind.{flat_map-append}
use Rattle.equiv_class.specs.ClassList.{class_view, class_views}
use Rattle.equiv_class.specs.declared.Class.{Class}
use Rattle.std.proofs.lemmas.List.Folds.{list_any-append}
use Rattle.rank_set.specs.Ranks.{Ranks, from_T, has, has-in_order, has-set_of, has-with_rank, with_rank, in_order, is_strictly_increasing}
use Rattle.rank_set.specs.Runs.{IsRun}
use Rattle.call_path.specs.Path.{Path}
use Rattle.equiv_class.proofs.Ordered.{above_all, same_number, tied_self}
use Rattle.tree_view.specs.Views.{least_ranks}

abbrev mem : ℕ → List ℕ → Bool
mem r xs = list_any (eq_by_cmp nat_cmp r) xs

below_none : (from : ℕ) (y : ℕ) (ys : List ℕ) → from ≤ suc y → list_all (λ z. nat_lt y z) ys ≡ true → filter (λ z. ltb z from) ys ≡ []
below_none from y [] le up = refl
below_none from y (z ∷ ys) le up =
    let parts = and_parts (nat_lt y z) (list_all (λ w. nat_lt y w) ys) up in
    ap (λ b. cond b (z ∷ filter (λ w. ltb w from) ys) (filter (λ w. ltb w from) ys)) (le-ltb z from (omega (arith, le, above_all y z (z ∷ ys) up (ap (λ b. b || mem z ys) (tied_self z)))))
    ∙ below_none from y ys le parts.1

no_cons : (y : ℕ) (ys : List ℕ) → (y ∷ ys) ≡ [] → ⊥
no_cons y ys e = cc

or_none : (a b : Bool) → (a || b) ≡ false → b ≡ false
or_none true b e = absurd (true≢false e)
or_none false b e = e

not_cons : (y : ℕ) (ys : List ℕ) → [] ≡ (y ∷ ys) → ⊥
not_cons y ys e = cc

tail_same : (y : ℕ) (xs zs : List ℕ) → (y ∷ xs) ≡ (y ∷ zs) → xs ≡ zs
tail_same y xs zs e = cc

kept_first : (from y : ℕ) (ys : List ℕ) → y < from → filter (λ z. ltb z from) (y ∷ ys) ≡ y ∷ filter (λ z. ltb z from) ys
kept_first from y ys lt = ap (λ b. cond b (y ∷ filter (λ z. ltb z from) ys) (filter (λ z. ltb z from) ys)) (lt-ltb y from lt)

lost_first : (from y : ℕ) (ys : List ℕ) → from ≤ y → list_all (λ z. nat_lt y z) ys ≡ true → filter (λ z. ltb z from) (y ∷ ys) ≡ []
lost_first from y ys ge up = ap (λ b. cond b (y ∷ filter (λ z. ltb z from) ys) (filter (λ z. ltb z from) ys)) (le-ltb y from ge) ∙ below_none from y ys (omega (arith, ge)) up

abbrev OneMore : List ℕ → ℕ → ℕ → Type 0
OneMore xs j x = (take (suc j) xs ≡ filter (λ y. ltb y (suc x)) xs) × (take (suc j) xs ≡ take j xs ++ x ∷ [])

-- the first member is it
first_is : (y x : ℕ) (ys : List ℕ) → x ≡ y → list_all (λ z. nat_lt y z) ys ≡ true → OneMore (y ∷ ys) 0 x
first_is y x ys e up = (
  sym (ap (λ k. filter (λ z. ltb z (suc k)) (y ∷ ys)) e ∙ kept_first (suc y) y ys (omega arith) ∙ ap (λ zs. y ∷ zs) (below_none (suc y) y ys (omega arith) up)),
  ap (λ k. k ∷ []) (sym e),
)

-- it is a later one
later_is : (y x j : ℕ) (ys : List ℕ) → y < suc x → OneMore ys j x → OneMore (y ∷ ys) (suc j) x
later_is y x j ys lt more = (ap (λ zs. y ∷ zs) more.0 ∙ sym (kept_first (suc x) y ys lt), ap (λ zs. y ∷ zs) more.1)

-- one member more: the least from a number on
pub one_least : (xs : List ℕ) → is_strictly_increasing xs ≡ true → (j from x : ℕ) → take j xs ≡ filter (λ y. ltb y from) xs → from ≤ x → mem x xs ≡ true → ((q : ℕ) → from ≤ q → q < x → mem q xs ≡ false) → OneMore xs j x
one_least [] up j from x so_far le there none = absurd (true≢false (sym there))
one_least (y ∷ ys) up zero from x so_far le there none =
    let parts = and_parts (list_all (λ z. nat_lt y z) ys) (is_strictly_increasing ys) up in
    elim (cases_lt y from) [
      | inl lt ↦ absurd (not_cons y _ (so_far ∙ kept_first from y ys lt))
      | inr ge ↦ elim (or_cases (eq_by_cmp nat_cmp x y) (mem x ys) there) [
        | inl same ↦ first_is y x ys (same_number x y same) parts.0
        | inr later ↦ absurd (true≢false (sym (or_left (eq_by_cmp nat_cmp y y) (mem y ys) (tied_self y)) ∙ none y ge (above_all y x ys parts.0 later)))
      ]
    ]
one_least (y ∷ ys) up (suc j) from x so_far le there none =
    let parts = and_parts (list_all (λ z. nat_lt y z) ys) (is_strictly_increasing ys) up in
    elim (cases_lt y from) [
      | inl lt ↦
          let in_ys : mem x ys ≡ true = elim (or_cases (eq_by_cmp nat_cmp x y) (mem x ys) there) [ inl same ↦ absurd (omega (arith, same_number x y same, lt, le)) | inr later ↦ later ] in
          later_is y x j ys (omega (arith, lt, le)) (one_least ys parts.1 j from x (tail_same y (take j ys) (filter (λ z. ltb z from) ys) (so_far ∙ kept_first from y ys lt)) le in_ys (λ q ge less. or_none (eq_by_cmp nat_cmp q y) (mem q ys) (none q ge less)))
      | inr ge ↦ absurd (no_cons y (take j ys) (so_far ∙ lost_first from y ys ge parts.0))
    ]

-- where there is none from a number on, those below it are all
all_below : (xs : List ℕ) (from : ℕ) → ((q : ℕ) → from ≤ q → mem q xs ≡ false) → filter (λ y. ltb y from) xs ≡ xs
all_below [] from none = refl
all_below (y ∷ ys) from none = elim (cases_lt y from) [
  | inl lt ↦ kept_first from y ys lt ∙ ap (λ zs. y ∷ zs) (all_below ys from (λ q ge. or_none (eq_by_cmp nat_cmp q y) (mem q ys) (none q ge)))
  | inr ge ↦ absurd (true≢false (sym (or_left (eq_by_cmp nat_cmp y y) (mem y ys) (tied_self y)) ∙ none y ge))
]

take_more : (xs : List ℕ) (j k : ℕ) → j ≤ k → take j xs ≡ xs → take k xs ≡ xs
take_more xs j k le e = elim (cases_lt (length xs) (suc k)) [
  | inl lt ↦ take_all k xs (omega (arith, lt))
  | inr ge ↦ absurd (omega (arith, ge, le, ap length e, Rattle.std.proofs.lemmas.List.length-take j xs))
]

-- and more are all, too
pub none_left : (xs : List ℕ) (j k from : ℕ) → j ≤ k → take j xs ≡ filter (λ y. ltb y from) xs → ((q : ℕ) → from ≤ q → mem q xs ≡ false) → take k xs ≡ take j xs
none_left xs j k from le so_far none =
    let all : take j xs ≡ xs = so_far ∙ all_below xs from none in
    take_more xs j k le all ∙ sym all

-- ---- of blocks

-- a block more
pub least_more : (r k : ℕ) (bs : List (Ranks × List Path)) (b : Ranks × List Path) → has (least_ranks k (bs ++ b ∷ [])) r ≡ (has (least_ranks k bs) r || mem r (take k (in_order b.0)))
least_more r k bs b =
    has-set_of (flat_map (λ (c : Ranks × List Path). take k (in_order c.0)) (bs ++ b ∷ [])) r
    ∙ ap (mem r) (flat_map-append (λ (c : Ranks × List Path). take k (in_order c.0)) bs (b ∷ []))
    ∙ list_any-append (eq_by_cmp nat_cmp r) (flat_map (λ (c : Ranks × List Path). take k (in_order c.0)) bs) (take k (in_order b.0) ++ [])
    ∙ (λ i. sym (has-set_of (flat_map (λ (c : Ranks × List Path). take k (in_order c.0)) bs) r) i || mem r (append-nil (take k (in_order b.0)) i))

take_one : (es : List (Path × Ranks)) (cs : List Class) (i : ℕ) (x : Class) → i < length cs → x ≡ get_or cs i x → class_views es (take (i + 1) cs) ≡ class_views es (take i cs) ++ class_view es x ∷ []
take_one es [] i x lt is = absurd (omega (arith, lt))
take_one es (c ∷ cs) zero x lt is = ap (λ (y : Class). class_view es y ∷ []) (sym is)
take_one es (c ∷ cs) (suc i) x lt is =
    ap (λ n. class_views es (take n (c ∷ cs))) (let n : suc i + 1 ≡ suc (i + 1) = omega arith in n) ∙ ap (λ ys. class_view es c ∷ ys) (take_one es cs i x (omega (arith, lt)) is)

pub class_step : (es : List (Path × Ranks)) (k : ℕ) (cs : List Class) (i : ℕ) (x : Class) (old new : Ranks) → i < length cs → x ≡ get_or cs i x → ((r : ℕ) → has new r ≡ (has old r || mem r (take k (in_order x.ranks))))
    → ((r : ℕ) → has old r ≡ has (least_ranks k (class_views es (take i cs))) r) → (r : ℕ) → has new r ≡ has (least_ranks k (class_views es (take (i + 1) cs))) r
class_step es k cs i x old new lt is more so_far r =
    more r ∙ ap (λ b. b || mem r (take k (in_order x.ranks))) (so_far r) ∙ sym (least_more r k (class_views es (take i cs)) (class_view es x)) ∙ ap (λ bs. has (least_ranks k bs) r) (sym (take_one es cs i x lt is))

-- ---- the loop

pub none_below : (xs : List ℕ) → [] ≡ filter (λ y. ltb y 0) xs
none_below [] = refl
none_below (y ∷ ys) = none_below ys ∙ sym (ap (λ b. cond b (y ∷ filter (λ z. ltb z 0) ys) (filter (λ z. ltb z 0) ys)) (le-ltb y 0 (omega arith)))

pub or_nothing : (b : Bool) → b ≡ (b || false)
or_nothing true = refl
or_nothing false = refl

or_assoc : (a b c : Bool) → (a || (b || c)) ≡ ((a || b) || c)
or_assoc true b c = refl
or_assoc false b c = refl

or_swap : (a b : Bool) → (a || b) ≡ (b || a)
or_swap true true = refl
or_swap true false = refl
or_swap false true = refl
or_swap false false = refl

-- a rank more
pub least_step : (s old out new : Ranks) (j next from x : ℕ) → next ≡ suc j → ((r : ℕ) → has out r ≡ (has old r || mem r (take j (in_order s)))) → take j (in_order s) ≡ filter (λ y. ltb y from) (in_order s)
    → (last : ℕ) → IsRun s from x last → new ≡ with_rank out x
    → ((r : ℕ) → has new r ≡ (has old r || mem r (take next (in_order s)))) × (take next (in_order s) ≡ filter (λ y. ltb y (x + 1)) (in_order s))
least_step s old out new j next from x is_next taken below last run is_new =
    let more : OneMore (in_order s) j x = one_least (in_order s) (from_T _ s.increasing) j from x below run.start (sym (has-in_order s x) ∙ run.within x (omega arith) run.some) (λ q ge lt. sym (has-in_order s q) ∙ run.passed q ge lt) in
    let n : suc x ≡ x + 1 = omega arith in (
      (λ q.
          ap (λ (t : Ranks). has t q) is_new ∙ has-with_rank out x q ∙ ap (λ b. eq_by_cmp nat_cmp q x || b) (taken q)
          ∙ or_swap (eq_by_cmp nat_cmp q x) (has old q || mem q (take j (in_order s)))
          ∙ sym (or_assoc (has old q) (mem q (take j (in_order s))) (eq_by_cmp nat_cmp q x))
          ∙ ap (λ b. has old q || b) (ap (λ b. mem q (take j (in_order s)) || b) (or_nothing (eq_by_cmp nat_cmp q x)) ∙ sym (list_any-append (eq_by_cmp nat_cmp q) (take j (in_order s)) (x ∷ [])) ∙ ap (mem q) (sym more.1) ∙ ap (λ k. mem q (take k (in_order s))) (sym is_next))),
      ap (λ k. take k (in_order s)) is_next ∙ more.0 ∙ ap (λ k. filter (λ y. ltb y k) (in_order s)) n,
    )
