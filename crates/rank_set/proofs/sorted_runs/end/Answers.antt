use Rattle.std.proofs.Common.{◌≡◌, ℕ, ◌<◌, ◌≤◌, ◌+◌, ◌-◌, List, length, get_or, false, sym, ap, subst, ◌∙◌, arith}
use Rattle.std.proofs.lemmas.Bool.{true≢false, eqb-true, eqb-false}
use Rattle.rank_set.specs.declared.Run.{Run}
use Rattle.rank_set.specs.Runs.{run_pairs}
use Rattle.rank_set.proofs.RunSearch.{run_at, run_good, pair_at, pairs_length, last_ends, none_behind}
use Rattle.rank_set.proofs.sorted_runs.end.Goals as goal

pub returns-then-is_empty-clause-above : goal.returns-then-is_empty-clause-above
returns-then-is_empty-clause-above c = λ r one.
    let none : length c.args.runs.now ≡ 0 = eqb-true _ 0 (sym c.is_empty.ensures ∙ c.if-is_empty.true) in
    absurd (true≢false (sym one ∙ none_behind (run_pairs c.args.runs.now) c.requires 0 0 (omega arith) (λ lt. absurd (omega (arith, lt))) (omega (arith, none, pairs_length c.args.runs.now)) r (omega arith)))

some : (xs : List Run) (b : Rattle.std.proofs.Common.Bool) → b ≡ Rattle.std.proofs.Common.nat_eq (length xs) 0 → b ≡ false → 0 < length xs
some xs b is e = let ne = eqb-false (length xs) 0 (sym is ∙ e) in omega (arith, ne)

last_pair : (xs : List Run) → 0 < length xs → (run_at (run_pairs xs) (length (run_pairs xs) - 1)).1 ≡ (get_or xs (length xs - 1) (record { first = 0; last = 0 })).last
last_pair xs lt = ap (λ n. (run_at (run_pairs xs) (n - 1)).1) (pairs_length xs) ∙ ap (λ p. p.1) (pair_at xs (length xs - 1))

pub overflow_add-result : goal.overflow_add-result
overflow_add-result c =
    let lt = some c.args.runs.now c.is_empty.result c.is_empty.ensures c.if-is_empty.false in
    omega (arith, last_pair c.args.runs.now lt, run_good 0 (run_pairs c.args.runs.now) (length (run_pairs c.args.runs.now) - 1) c.requires (omega (arith, lt, pairs_length c.args.runs.now)))

pub returns-clause-above : goal.returns-clause-above
returns-clause-above c = λ r one.
    let lt = some c.args.runs.now c.is_empty.result c.is_empty.ensures c.if-is_empty.false in
    omega (arith, last_pair c.args.runs.now lt, last_ends 0 (run_pairs c.args.runs.now) c.requires (omega (arith, lt, pairs_length c.args.runs.now)) r one)

pub returns-clause-within_limit : goal.returns-clause-within_limit
returns-clause-within_limit c =
    let lt = some c.args.runs.now c.is_empty.result c.is_empty.ensures c.if-is_empty.false in
    omega (arith, last_pair c.args.runs.now lt, run_good 0 (run_pairs c.args.runs.now) (length (run_pairs c.args.runs.now) - 1) c.requires (omega (arith, lt, pairs_length c.args.runs.now)))
