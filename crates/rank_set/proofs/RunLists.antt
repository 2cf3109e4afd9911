-- The longest runs of a set in a list, and the set of a list of runs.
use Rattle.std.proofs.Common.{◌≡◌, ℕ, suc, ◌+◌, ◌-◌, ◌*◌, ◌<◌, ◌≤◌, nat_lt, nat_eq, Bool, true, false, cond, ◌&&◌, ◌||◌, List, [], ◌∷◌, length, refl, sym, ap, ◌∙◌, inl, inr, arith}
use Rattle.std.specs.List.{range_with_len, list_any, list_all, filter}
use Rattle.std.specs.Ordering.{nat_cmp, eq_by_cmp, is_eq}
use Rattle.std.specs.Cmp.{nat_cmp_total, tied_itself}
use Rattle.std.proofs.lemmas.Bool.{cases_lt, true≢false, and_parts, or_right, eqb-true, eqb-false, ltb-true}
use Rattle.rank_set.specs.declared.TheConstants.{RANK_LIMIT}
use Rattle.rank_set.specs.Ranks.{Ranks, none, has, in_order, set_of, those, union, is_strictly_increasing, from_T, has-none, has-in_order, has-those, has-union, same_ranks, same_list, in_order-increasing, all_have, union-none}
use Rattle.rank_set.specs.Runs.{ranks_between, run_before, runs_of, ranks_of_runs, AreRuns}
use Rattle.rank_set.proofs.Ordered.{in_order-those, range_increases}
use Rattle.rank_set.proofs.RunSets.{between_in, between_low, between_high, union_merged, union_one}
use Rattle.rank_set.proofs.Runs.{members_from, first_run, no_runs}

abbrev mem : ℕ → List ℕ → Bool
mem r xs = list_any (eq_by_cmp nat_cmp r) xs

mem_head : (r : ℕ) (rs : List ℕ) → mem r (r ∷ rs) ≡ true
mem_head r rs = ap (λ b. b || mem r rs) (ap is_eq (tied_itself nat_cmp_total r))

or_assoc : (a b c : Bool) → ((a || b) || c) ≡ (a || (b || c))
or_assoc true b c = refl
or_assoc false b c = refl

or_swap : (a b : Bool) → (a || b) ≡ (b || a)
or_swap true true = refl
or_swap true false = refl
or_swap false true = refl
or_swap false false = refl

pub union_assoc : (s t u : Ranks) → union (union s t) u ≡ union s (union t u)
union_assoc s t u = same_ranks _ _ (λ q.
    has-union (union s t) u q ∙ ap (λ b. b || has u q) (has-union s t q) ∙ or_assoc (has s q) (has t q) (has u q)
    ∙ sym (has-union s (union t u) q ∙ ap (λ b. has s q || b) (has-union t u q)))

pub union_swap : (s t : Ranks) → union s t ≡ union t s
union_swap s t = same_ranks _ _ (λ q. has-union s t q ∙ or_swap (has s q) (has t q) ∙ sym (has-union t s q))

-- no rank of runs lies below the least that they may have
pub runs_above : (least : ℕ) (rs : List (ℕ × ℕ)) → AreRuns least rs → (q : ℕ) → q < least → has (ranks_of_runs rs) q ≡ false
runs_above least [] h q lt = has-none q
runs_above least (r ∷ rs) h q lt =
    has-union (ranks_between r.0 r.1) (ranks_of_runs rs) q
    ∙ (λ i. between_low r.0 r.1 q (omega (arith, h.0)) i || runs_above (r.1 + 2) rs h.3 q (omega (arith, h.0, h.1)) i)

-- the ranks of runs are below the limit
pub runs_small : (least : ℕ) (rs : List (ℕ × ℕ)) → AreRuns least rs → (q : ℕ) → has (ranks_of_runs rs) q ≡ true → q < RANK_LIMIT
runs_small least [] h q one = absurd (true≢false (sym one ∙ has-none q))
runs_small least (r ∷ rs) h q one = elim (cases_lt r.1 q) [
  | inl past ↦ runs_small (r.1 + 2) rs h.3 q (sym (has-union (ranks_between r.0 r.1) (ranks_of_runs rs) q ∙ ap (λ b. b || has (ranks_of_runs rs) q) (between_high r.0 r.1 q past)) ∙ one)
  | inr le ↦ omega (arith, h.2)
]

-- each run takes two ranks at least, with the gap
pub runs_count : (least : ℕ) (rs : List (ℕ × ℕ)) → AreRuns least rs → least ≤ RANK_LIMIT + 1 → least + 2 * length rs ≤ RANK_LIMIT + 1
runs_count least [] h le = omega arith
runs_count least (r ∷ rs) h le = omega (arith, h.0, h.1, runs_count (r.1 + 2) rs h.3 (omega (arith, h.2)))

pub runs_later : (a b : ℕ) (rs : List (ℕ × ℕ)) → a ≤ b → AreRuns b rs → AreRuns a rs
runs_later a b [] le h = tt
runs_later a b (r ∷ rs) le h = (omega (arith, h.0), h.1, h.2, h.3)

-- a rank before runs that lie above it
runs_before : (least x : ℕ) (rs : List (ℕ × ℕ)) → least ≤ x → x < RANK_LIMIT → AreRuns (x + 1) rs → AreRuns least (run_before x x rs)
runs_before least x [] le lt h = (le, omega arith, lt, tt)
runs_before least x (r ∷ rs) le lt h = go (nat_eq (suc x) r.0) refl
  where
    go : (b : Bool) → nat_eq (suc x) r.0 ≡ b → AreRuns least (cond b ((x, r.1) ∷ rs) ((x, x) ∷ r ∷ rs))
    go true e = (le, omega (arith, h.0, h.1), h.2, h.3)
    go false e = let ne = eqb-false (suc x) r.0 e in (le, omega arith, lt, (omega (arith, ne, h.0), h.1, h.2, h.3))

runs_are : (least : ℕ) (xs : List ℕ) → is_strictly_increasing xs ≡ true → ((q : ℕ) → mem q xs ≡ true → (least ≤ q) × (q < RANK_LIMIT)) → AreRuns least (runs_of xs)
runs_are least [] h each = tt
runs_are least (x ∷ xs) h each =
    let a = and_parts (list_all (λ y. nat_lt x y) xs) (is_strictly_increasing xs) h in
    let here = each x (mem_head x xs) in
    runs_before least x (runs_of xs) here.0 here.1 (runs_are (x + 1) xs a.1 (λ q one.
    let lt : x < q = ltb-true x q (all_have (λ y. nat_lt x y) xs q a.0 one) in
    (omega arith, (each q (or_right (eq_by_cmp nat_cmp q x) (mem q xs) one)).1)))

-- two runs that touch are one
merged : (a b c d : ℕ) → a ≤ b → c ≤ d → suc b ≡ c → ranks_between a d ≡ union (ranks_between a b) (ranks_between c d)
merged a b c d some more next =
    sym (union-none (ranks_between a d)) ∙ union_merged none a b c d a d some more (omega arith) (omega arith) (omega arith) (omega arith)
    ∙ ap (λ s. union s (ranks_between c d)) (union-none (ranks_between a b))

before_set : (a b : ℕ) (rs : List (ℕ × ℕ)) (least : ℕ) → a ≤ b → AreRuns least rs → ranks_of_runs (run_before a b rs) ≡ union (ranks_between a b) (ranks_of_runs rs)
before_set a b [] least le h = refl
before_set a b (r ∷ rs) least le h = go (nat_eq (suc b) r.0) refl
  where
    go : (t : Bool) → nat_eq (suc b) r.0 ≡ t → ranks_of_runs (cond t ((a, r.1) ∷ rs) ((a, b) ∷ r ∷ rs)) ≡ union (ranks_between a b) (union (ranks_between r.0 r.1) (ranks_of_runs rs))
    go true e = ap (λ s. union s (ranks_of_runs rs)) (merged a b r.0 r.1 le h.1 (eqb-true (suc b) r.0 e)) ∙ union_assoc (ranks_between a b) (ranks_between r.0 r.1) (ranks_of_runs rs)
    go false e = refl

runs_make : (xs : List ℕ) → is_strictly_increasing xs ≡ true → ((q : ℕ) → mem q xs ≡ true → q < RANK_LIMIT) → ranks_of_runs (runs_of xs) ≡ set_of xs
runs_make [] h small = refl
runs_make (x ∷ xs) h small =
    let a = and_parts (list_all (λ y. nat_lt x y) xs) (is_strictly_increasing xs) h in
    let later : (q : ℕ) → mem q xs ≡ true → q < RANK_LIMIT = λ q one. small q (or_right (eq_by_cmp nat_cmp q x) (mem q xs) one) in
    before_set x x (runs_of xs) 0 (omega arith) (runs_are 0 xs a.1 (λ q one. (omega arith, later q one)))
    ∙ ap (union (ranks_between x x)) (runs_make xs a.1 later) ∙ union_swap (ranks_between x x) (set_of xs) ∙ union_one (set_of xs) x

module _ (s : Ranks) (small : (r : ℕ) → has s r ≡ true → r < RANK_LIMIT) where
  -- the longest runs of a set are apart and in order
  pub runs_of_are : AreRuns 0 (runs_of (in_order s))
  runs_of_are = runs_are 0 (in_order s) (from_T _ s.increasing) (λ q one. (omega arith, small q (has-in_order s q ∙ one)))

  -- and make the set
  pub runs_of_make : ranks_of_runs (runs_of (in_order s)) ≡ s
  runs_of_make =
      runs_make (in_order s) (from_T _ s.increasing) (λ q one. small q (has-in_order s q ∙ one))
      ∙ same_list (set_of (in_order s)) s (in_order-increasing (in_order s) (from_T _ s.increasing))

  -- there are at most half as many runs as ranks
  pub runs_of_count : length (runs_of (in_order s)) ≤ 524288
  runs_of_count = omega (arith, runs_count 0 (runs_of (in_order s)) runs_of_are (omega arith))

-- runs are found again in their set, from the first on
runs_back : (t : ℕ → Bool) (from end : ℕ) (rs : List (ℕ × ℕ)) → RANK_LIMIT ≤ end → AreRuns from rs → ((q : ℕ) → from ≤ q → t q ≡ has (ranks_of_runs rs) q) → runs_of (members_from t from end) ≡ rs
runs_back t from end [] le h same = no_runs t from end (λ q up. same q up ∙ has-none q)
runs_back t from end (r ∷ rs) le h same =
    let split : (q : ℕ) → from ≤ q → t q ≡ (has (ranks_between r.0 r.1) q || has (ranks_of_runs rs) q) = λ q up. same q up ∙ has-union (ranks_between r.0 r.1) (ranks_of_runs rs) q in
    first_run t from r.0 r.1 end h.0 h.1 (omega (arith, h.2))
    (λ q up lt. split q up ∙ (λ i. between_low r.0 r.1 q lt i || runs_above (r.1 + 2) rs h.3 q (omega (arith, h.1)) i))
    (λ q up to. split q (omega (arith, h.0)) ∙ ap (λ b. b || has (ranks_of_runs rs) q) (between_in r.0 r.1 q up to))
    (split (suc r.1) (omega (arith, h.0, h.1)) ∙ (λ i. between_high r.0 r.1 (suc r.1) (omega arith) i || runs_above (r.1 + 2) rs h.3 (suc r.1) (omega arith) i))
    ∙ ap (λ later. (r.0, r.1) ∷ later) (runs_back t (r.1 + 1) end rs le (runs_later (r.1 + 1) (r.1 + 2) rs (omega arith) h.3)
    (λ q up. split q (omega (arith, h.0, h.1)) ∙ ap (λ b. b || has (ranks_of_runs rs) q) (between_high r.0 r.1 q (omega arith))))

numbers : (n r : ℕ) → r < n → has (set_of (range_with_len 0 n)) r ≡ true
unfolding ranks_between
numbers n r lt = let e : n ≡ suc (n - 1) - 0 = omega arith in ap (λ m. has (set_of (range_with_len 0 m)) r) e ∙ between_in 0 (n - 1) r (omega arith) (omega arith)

-- the members of a set below a number, in order
members_below : (s : Ranks) (n : ℕ) → ((r : ℕ) → has s r ≡ true → r < n) → in_order s ≡ members_from (has s) 0 n
members_below s n small =
    let whole : n ≡ n - 0 = omega arith in
    let same : those (has s) (set_of (range_with_len 0 n)) ≡ s = same_ranks _ _ (λ r. has-those (has s) (set_of (range_with_len 0 n)) r ∙ both r (has s r) refl) in
    ap in_order (sym same) ∙ in_order-those (has s) (set_of (range_with_len 0 n)) ∙ ap (filter (has s)) (in_order-increasing (range_with_len 0 n) (range_increases 0 n) ∙ ap (range_with_len 0) whole)
  where
    both : (r : ℕ) (b : Bool) → has s r ≡ b → (has (set_of (range_with_len 0 n)) r && b) ≡ b
    both r true e = ap (λ a. a && true) (numbers n r (small r e))
    both r false e = and_false (has (set_of (range_with_len 0 n)) r)
      where
        and_false : (a : Bool) → (a && false) ≡ false
        and_false true = refl
        and_false false = refl

runs_again : (rs : List (ℕ × ℕ)) (n : ℕ) → RANK_LIMIT ≤ n → AreRuns 0 rs → runs_of (in_order (ranks_of_runs rs)) ≡ rs
runs_again rs n le h =
    let s : Ranks = ranks_of_runs rs in
    ap runs_of (members_below s n (λ r one. omega (arith, runs_small 0 rs h r one))) ∙ runs_back (has s) 0 n rs le h (λ q _. refl)

-- runs that are apart and in order are the longest runs of their set
pub runs_of_ranks : (rs : List (ℕ × ℕ)) → AreRuns 0 rs → runs_of (in_order (ranks_of_runs rs)) ≡ rs
runs_of_ranks rs h = runs_again rs RANK_LIMIT (omega arith) h
