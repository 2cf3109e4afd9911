use Rattle.std.proofs.Common.{◌≡◌, ℕ, ◌<◌, ◌≤◌, ◌-◌, List, length, get_or, max, false, sym, ap, subst, ◌∙◌, arith}
use Rattle.rank_set.specs.declared.Run.{Run}
use Rattle.rank_set.specs.Ranks.{Ranks, has}
use Rattle.rank_set.specs.Runs.{run_pairs, ranks_of_runs, AreRuns, IsRun}
use Rattle.rank_set.proofs.RunSearch.{run_at, run_good, pair_at, pairs_length, none_behind, found_run}
use Rattle.rank_set.proofs.run_set.RunSet.next_run.Goals as goal

module _ (s : Ranks) (xs : List Run) (h : AreRuns 0 (run_pairs xs)) (is : ranks_of_runs (run_pairs xs) ≡ s) (at from : ℕ) (le : at ≤ length xs) (before : 0 < at → (run_at (run_pairs xs) (at - 1)).1 < from) where
  none_left : length xs ≤ at → (q : ℕ) → from ≤ q → has s q ≡ false
  none_left past q up = sym (ap (λ (t : Ranks). has t q) is) ∙ none_behind (run_pairs xs) h at from (omega (arith, le, pairs_length xs)) before (omega (arith, past, pairs_length xs)) q up

  next_found : (first : ℕ) → at < length xs → (at < length xs → from ≤ (run_at (run_pairs xs) at).1) → first ≡ max (get_or xs at (record { first = 0; last = 0 })).first from → IsRun s from first (get_or xs at (record { first = 0; last = 0 })).last
  next_found first lt here first_is =
      let e = pair_at xs at in
      subst (λ t. IsRun t from first (get_or xs at (record { first = 0; last = 0 })).last) is
      (subst (λ n. IsRun (ranks_of_runs (run_pairs xs)) from first n) (ap (λ p. p.1) e)
      (found_run (run_pairs xs) h at from (omega (arith, le, pairs_length xs)) before first (omega (arith, lt, pairs_length xs)) (here lt) (first_is ∙ ap (λ n. max n from) (sym (ap (λ p. p.0) e)))))

  next_small : at < length xs → (get_or xs at (record { first = 0; last = 0 })).last < Rattle.rank_set.specs.declared.TheConstants.RANK_LIMIT
  next_small lt = omega (arith, ap (λ p. p.1) (pair_at xs at), run_good 0 (run_pairs xs) at h (omega (arith, lt, pairs_length xs)))

pub returns-then-at-runs-clause-none : goal.returns-then-at-runs-clause-none
returns-then-at-runs-clause-none c =
    none_left c.args.self.now c.as_slice-runs.result.now
    (subst (λ (xs : List Run). AreRuns 0 (run_pairs xs)) (sym c.as_slice-runs.ensures) c.self.invariant)
    (ap (λ (xs : List Run). ranks_of_runs (run_pairs xs)) c.as_slice-runs.ensures ∙ c.self.view_is)
    c.find-at.result c.args.from c.find-at.ensures.within c.find-at.ensures.before c.if-at-runs.true

pub returns-clause-run : goal.returns-clause-run
returns-clause-run c =
    next_found c.args.self.now c.as_slice-runs.result.now
    (subst (λ (xs : List Run). AreRuns 0 (run_pairs xs)) (sym c.as_slice-runs.ensures) c.self.invariant)
    (ap (λ (xs : List Run). ranks_of_runs (run_pairs xs)) c.as_slice-runs.ensures ∙ c.self.view_is)
    c.find-at.result c.args.from c.find-at.ensures.within c.find-at.ensures.before c.max.result c.if-at-runs.false c.find-at.ensures.here c.max.ensures

pub returns-clause-below_limit : goal.returns-clause-below_limit
returns-clause-below_limit c =
    next_small c.args.self.now c.as_slice-runs.result.now
    (subst (λ (xs : List Run). AreRuns 0 (run_pairs xs)) (sym c.as_slice-runs.ensures) c.self.invariant)
    (ap (λ (xs : List Run). ranks_of_runs (run_pairs xs)) c.as_slice-runs.ensures ∙ c.self.view_is)
    c.find-at.result c.args.from c.find-at.ensures.within c.find-at.ensures.before c.if-at-runs.false
