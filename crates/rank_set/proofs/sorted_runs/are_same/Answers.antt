use Rattle.std.proofs.Common.{◌≡◌, ℕ, suc, ◌<◌, List, [], ◌∷◌, length, refl, sym, ap, ◌∙◌, inl, inr, arith}
use Rattle.std.proofs.lemmas.Bool.{cases_lt, true≢false}
use Rattle.rank_set.specs.declared.Run.{Run}
use Rattle.rank_set.specs.Ranks.{in_order}
use Rattle.rank_set.specs.Runs.{run_pairs, ranks_of_runs, runs_of, AreRuns}
use Rattle.rank_set.proofs.RunLists.{runs_of_ranks}
use Rattle.rank_set.proofs.RunSearch.{run_at, pair_at, pairs_length}
use Rattle.rank_set.proofs.sorted_runs.are_same.Goals.{then-run-others-via-then-run-others, then-run-others-via-else-run-others+then-run-others-2}
use Rattle.rank_set.proofs.sorted_runs.are_same.Goals as goal

-- lists that are equal at each index are equal
same_lists : (xs ys : List (ℕ × ℕ)) → length xs ≡ length ys → ((j : ℕ) → j < length xs → run_at xs j ≡ run_at ys j) → xs ≡ ys
same_lists [] [] e each = refl
same_lists [] (y ∷ ys) e each = absurd (omega (arith, e))
same_lists (x ∷ xs) [] e each = absurd (omega (arith, e))
same_lists (x ∷ xs) (y ∷ ys) e each = λ i. each 0 (omega arith) i ∷ same_lists xs ys (omega (arith, e)) (λ j lt. each (suc j) (omega (arith, lt))) i

-- sets of runs are equal only if the runs are
same_runs : (xs ys : List Run) → AreRuns 0 (run_pairs xs) → AreRuns 0 (run_pairs ys) → ranks_of_runs (run_pairs xs) ≡ ranks_of_runs (run_pairs ys) → run_pairs xs ≡ run_pairs ys
same_runs xs ys h g e = sym (runs_of_ranks (run_pairs xs) h) ∙ ap (λ s. runs_of (in_order s)) e ∙ runs_of_ranks (run_pairs ys) g

pub returns-then-runs-others : goal.returns-then-runs-others
returns-then-runs-others c = (
  (λ e. absurd (true≢false (sym e))),
  (λ e. absurd (c.if-runs-others.true (sym (pairs_length c.args.runs.now) ∙ ap length (same_runs c.args.runs.now c.args.others.now c.requires.runs c.requires.others e) ∙ pairs_length c.args.others.now))),
)

pub returns-then-run-others : goal.returns-then-run-others
returns-then-run-others c = (
  (λ e. absurd (true≢false (sym e))),
  (λ e.
      let same = sym (pair_at c.args.runs.now c.loop-i.i) ∙ ap (λ ps. run_at ps c.loop-i.i) (same_runs c.args.runs.now c.args.others.now c.requires.runs c.requires.others e) ∙ pair_at c.args.others.now c.loop-i.i in
      elim c.then-run-others.branch [
        | then-run-others-via-then-run-others w ↦ absurd (w.if-run-others.true (ap (λ p. p.0) same))
        | then-run-others-via-else-run-others+then-run-others-2 w ↦ absurd (w.if-run-others-2.true (ap (λ p. p.1) same))
      ]),
)

pub loop-i-preserved : goal.loop-i-preserved
loop-i-preserved c = record {
  same = λ j lt. elim (cases_lt j c.loop-i.i) [
    | inl before ↦ c.loop-i.invariant.same j before
    | inr at ↦
        let e : j ≡ c.loop-i.i = omega (arith, lt, at) in
        let here : run_at (run_pairs c.args.runs.now) c.loop-i.i ≡ run_at (run_pairs c.args.others.now) c.loop-i.i = pair_at c.args.runs.now c.loop-i.i ∙ (λ k. (c.if-run-others.false k, c.if-run-others-2.false k)) ∙ sym (pair_at c.args.others.now c.loop-i.i) in
        (λ k. run_at (run_pairs c.args.runs.now) (e k)) ∙ here ∙ (λ k. run_at (run_pairs c.args.others.now) (sym e k))
  ];
}

pub returns : goal.returns
returns c = (
  (λ _. ap ranks_of_runs (same_lists (run_pairs c.args.runs.now) (run_pairs c.args.others.now) (pairs_length c.args.runs.now ∙ c.if-runs-others.false ∙ sym (pairs_length c.args.others.now)) (λ j lt. c.loop-i.invariant.same j (omega (arith, lt, c.loop-i-test.false, pairs_length c.args.runs.now))))),
  (λ _. refl),
)
