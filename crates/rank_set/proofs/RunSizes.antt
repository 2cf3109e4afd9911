-- How many ranks runs have, and the least of them.
use Rattle.std.proofs.Common.{◌≡◌, ℕ, zero, suc, ◌+◌, ◌-◌, ◌≤◌, nat_lt, Bool, true, ◌&&◌, ◌||◌, List, [], ◌∷◌, ◌++◌, length, Some, sym, ap, ◌∙◌, inl, inr, arith}
use Rattle.std.specs.Prelude.{slice_get}
use Rattle.std.specs.List.{range_with_len, list_any, list_all}
use Rattle.std.specs.Ordering.{nat_cmp, eq_by_cmp}
use Rattle.std.proofs.lemmas.Bool.{cases_lt, and_from, and_parts, lt-ltb, true≢false}
use Rattle.std.proofs.lemmas.List.{length-append}
use Rattle.std.proofs.lemmas.List.Folds.{list_all-append, list_any-append}
use Rattle.std.proofs.lemmas.List.FromFn.{length-range_with_len}
use Rattle.rank_set.specs.declared.TheConstants.{RANK_LIMIT}
use Rattle.rank_set.specs.Ranks.{Ranks, has, in_order, size, set_of, union, is_strictly_increasing, from_T, has-set_of, has-union, has-in_order, same_ranks, in_order-increasing, all_pass}
use Rattle.rank_set.specs.Runs.{ranks_between, ranks_of_runs, AreRuns}
use Rattle.rank_set.proofs.Ordered.{range_increases}
use Rattle.rank_set.proofs.RunLists.{runs_above}

mem : ℕ → List ℕ → Bool
mem r xs = list_any (eq_by_cmp nat_cmp r) xs

-- a range before a list of greater numbers is increasing with it
range_before : (a n : ℕ) (ys : List ℕ) → is_strictly_increasing ys ≡ true → ((y : ℕ) → list_any (eq_by_cmp nat_cmp y) ys ≡ true → a + n ≤ y) → is_strictly_increasing (range_with_len a n ++ ys) ≡ true
range_before a zero ys h each = h
range_before a (suc n) ys h each =
    let tail = range_increases a (suc n) in
    and_from (list_all (λ y. nat_lt a y) (range_with_len (a + 1) n ++ ys)) (is_strictly_increasing (range_with_len (a + 1) n ++ ys))
    (list_all-append (λ y. nat_lt a y) (range_with_len (a + 1) n) ys
    ∙ (λ i. (and_parts (list_all (λ y. nat_lt a y) (range_with_len (a + 1) n)) (is_strictly_increasing (range_with_len (a + 1) n)) tail).0 i && all_pass (λ y. nat_lt a y) ys (λ y one. lt-ltb a y (omega (arith, each y one))) i))
    (range_before (a + 1) n ys h (λ y one. omega (arith, each y one)))

-- the members of a run and of a set above it
members_with_run : (a b : ℕ) (s : Ranks) → ((q : ℕ) → has s q ≡ true → suc b ≤ q) → a ≤ b → in_order (union (ranks_between a b) s) ≡ range_with_len a (suc b - a) ++ in_order s
unfolding ranks_between
members_with_run a b s above le =
    let n : ℕ = suc b - a in
    let xs : List ℕ = range_with_len a n ++ in_order s in
    let same : union (ranks_between a b) s ≡ set_of xs = same_ranks _ _ (λ q.
    has-union (ranks_between a b) s q ∙ (λ i. has-set_of (range_with_len a n) q i || has-in_order s q i) ∙ sym (list_any-append (eq_by_cmp nat_cmp q) (range_with_len a n) (in_order s)) ∙ sym (has-set_of xs q)) in
    ap in_order same ∙ in_order-increasing xs (range_before a n (in_order s) (from_T _ s.increasing) (λ y one. omega (arith, above y (has-in_order s y ∙ one))))

runs_behind : (r : ℕ × ℕ) (rs : List (ℕ × ℕ)) → AreRuns (r.1 + 2) rs → (q : ℕ) → has (ranks_of_runs rs) q ≡ true → suc r.1 ≤ q
runs_behind r rs h q one = elim (cases_lt q (suc r.1)) [
  | inl lt ↦ absurd (true≢false (sym one ∙ runs_above (r.1 + 2) rs h q (omega (arith, lt))))
  | inr le ↦ omega (arith, le)
]

-- the first run has its ranks, and the others theirs
pub size_run : (least : ℕ) (r : ℕ × ℕ) (rs : List (ℕ × ℕ)) → AreRuns least (r ∷ rs) → size (ranks_of_runs (r ∷ rs)) ≡ (suc r.1 - r.0) + size (ranks_of_runs rs)
size_run least r rs h =
    ap length (members_with_run r.0 r.1 (ranks_of_runs rs) (runs_behind r rs h.3) h.1)
    ∙ length-append (range_with_len r.0 (suc r.1 - r.0)) (in_order (ranks_of_runs rs)) ∙ ap (λ n. n + size (ranks_of_runs rs)) (length-range_with_len r.0 (suc r.1 - r.0))

-- runs have no more ranks than there are from the least on
pub size_within : (least : ℕ) (rs : List (ℕ × ℕ)) → AreRuns least rs → size (ranks_of_runs rs) ≤ RANK_LIMIT - least
size_within least [] h = omega arith
size_within least (r ∷ rs) h = omega (arith, h.0, h.1, h.2, size_run least r rs h, size_within (r.1 + 2) rs h.3)

-- the first rank of the first run is the least
pub least_of_runs : (least : ℕ) (r : ℕ × ℕ) (rs : List (ℕ × ℕ)) → AreRuns least (r ∷ rs) → slice_get (in_order (ranks_of_runs (r ∷ rs))) 0 ≡ Some r.0
least_of_runs least r rs h =
    let e : suc r.1 - r.0 ≡ suc (r.1 - r.0) = omega (arith, h.1) in
    ap (λ xs. slice_get xs 0) (members_with_run r.0 r.1 (ranks_of_runs rs) (runs_behind r rs h.3) h.1 ∙ ap (λ n. range_with_len r.0 n ++ in_order (ranks_of_runs rs)) e)
