use Rattle.std.proofs.Common.{◌≡◌, ℕ, suc, ◌<◌, ◌≤◌, ◌-◌, List, length, get_or, false, nat_le, sym, ap, subst, ◌∙◌, inl, inr, arith}
use Rattle.std.proofs.lemmas.Bool.{cases_lt, le-leb, lt-leb}
use Rattle.rank_set.specs.declared.Run.{Run}
use Rattle.rank_set.specs.Ranks.{Ranks, is_subset, subset_from}
use Rattle.rank_set.specs.Runs.{run_pairs, ranks_between, ranks_of_runs, AreRuns}
use Rattle.rank_set.proofs.RunSets.{between_in}
use Rattle.rank_set.proofs.RunSearch.{run_at, pair_at, pairs_length, none_behind, in_run, in_gap, run_ends}
use Rattle.rank_set.proofs.RunWalks.{between_parts, lacks_first, not_subset}
use Rattle.rank_set.proofs.run_set.RunSet.has_run.Goals as goal

module _ (xs : List Run) (h : AreRuns 0 (run_pairs xs)) (at first last : ℕ) (some : first ≤ last) (le : at ≤ length xs) (before : 0 < at → (run_at (run_pairs xs) (at - 1)).1 < first) where
  s : Ranks
  s = ranks_of_runs (run_pairs xs)

  past : length xs ≤ at → is_subset (ranks_between first last) (ranks_of_runs (run_pairs xs)) ≡ false
  past end = lacks_first (ranks_of_runs (run_pairs xs)) first last some (none_behind (run_pairs xs) h at first (omega (arith, le, pairs_length xs)) before (omega (arith, end, pairs_length xs)) first (omega arith))

  module _ (lt : at < length xs) where
    late : first < (get_or xs at (record { first = 0; last = 0 })).first → is_subset (ranks_between first last) (ranks_of_runs (run_pairs xs)) ≡ false
    late low = lacks_first (ranks_of_runs (run_pairs xs)) first last some (in_gap 0 (run_pairs xs) at first h (omega (arith, le, pairs_length xs)) before (λ _. omega (arith, low, ap (λ p. p.0) (pair_at xs at))))

    reaches : (get_or xs at (record { first = 0; last = 0 })).first ≤ first → (at < length xs → first ≤ (run_at (run_pairs xs) at).1) → nat_le last (get_or xs at (record { first = 0; last = 0 })).last ≡ is_subset (ranks_between first last) (ranks_of_runs (run_pairs xs))
    reaches low here = elim (cases_lt (get_or xs at (record { first = 0; last = 0 })).last last) [
      | inl short ↦
          lt-leb last (get_or xs at (record { first = 0; last = 0 })).last short
          ∙ sym (not_subset (ranks_between first last) (ranks_of_runs (run_pairs xs)) (suc (run_at (run_pairs xs) at).1)
          (between_in first last (suc (run_at (run_pairs xs) at).1) (omega (arith, here lt)) (omega (arith, short, ap (λ p. p.1) (pair_at xs at))))
          (run_ends 0 (run_pairs xs) at h (omega (arith, lt, pairs_length xs))))
      | inr all ↦
          le-leb last (get_or xs at (record { first = 0; last = 0 })).last all
          ∙ sym (subset_from (ranks_between first last) (ranks_of_runs (run_pairs xs)) (λ q one.
          let inside = between_parts first last q one in
          in_run (run_pairs xs) at q (omega (arith, lt, pairs_length xs)) (omega (arith, low, inside.0, ap (λ p. p.0) (pair_at xs at))) (omega (arith, all, inside.1, ap (λ p. p.1) (pair_at xs at)))))
    ]

pub returns-then-at-runs : goal.returns-then-at-runs
returns-then-at-runs c =
    sym (past c.as_slice-runs.result.now (subst (λ (xs : List Run). AreRuns 0 (run_pairs xs)) (sym c.as_slice-runs.ensures) c.self.invariant) c.find-at.result c.args.run.first c.args.run.last c.requires c.find-at.ensures.within c.find-at.ensures.before c.if-at-runs.true)
    ∙ ap (λ (s : Ranks). is_subset (ranks_between c.args.run.first c.args.run.last) s) (ap (λ (xs : List Run). ranks_of_runs (run_pairs xs)) c.as_slice-runs.ensures ∙ c.self.view_is)

pub returns-then-runs-at : goal.returns-then-runs-at
returns-then-runs-at c =
    reaches c.as_slice-runs.result.now (subst (λ (xs : List Run). AreRuns 0 (run_pairs xs)) (sym c.as_slice-runs.ensures) c.self.invariant) c.find-at.result c.args.run.first c.args.run.last c.requires c.find-at.ensures.within c.find-at.ensures.before c.if-at-runs.false c.if-runs-at.true c.find-at.ensures.here
    ∙ ap (λ (s : Ranks). is_subset (ranks_between c.args.run.first c.args.run.last) s) (ap (λ (xs : List Run). ranks_of_runs (run_pairs xs)) c.as_slice-runs.ensures ∙ c.self.view_is)

pub returns-else-runs-at : goal.returns-else-runs-at
returns-else-runs-at c =
    lt-leb (get_or c.as_slice-runs.result.now c.find-at.result (record { first = 0; last = 0 })).first c.args.run.first c.if-runs-at.false
    ∙ sym (late c.as_slice-runs.result.now (subst (λ (xs : List Run). AreRuns 0 (run_pairs xs)) (sym c.as_slice-runs.ensures) c.self.invariant) c.find-at.result c.args.run.first c.args.run.last c.requires c.find-at.ensures.within c.find-at.ensures.before c.if-at-runs.false c.if-runs-at.false)
    ∙ ap (λ (s : Ranks). is_subset (ranks_between c.args.run.first c.args.run.last) s) (ap (λ (xs : List Run). ranks_of_runs (run_pairs xs)) c.as_slice-runs.ensures ∙ c.self.view_is)
