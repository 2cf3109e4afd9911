use Rattle.std.proofs.Common.{◌∙◌, [], ◌∷◌, ◌++◌, ap, refl, arith}
use Rattle.rank_set.specs.Ranks.{Ranks, union}
use Rattle.rank_set.specs.Runs.{ranks_of_runs, run_pair, run_pairs}
use Rattle.rank_set.proofs.RunLists.{runs_later}
use Rattle.rank_set.proofs.RunMerging.{left_none, right_none, pairs_push, ranks_with}
use Rattle.rank_set.proofs.RunStretches.{taken_apart, left_all, right_all, ranks_behind}
use Rattle.rank_set.proofs.sorted_runs.join_behind.Goals.{then-first-other+in_ok-last, else-first-other+in_ok-last-2}
use Rattle.rank_set.proofs.sorted_runs.join_behind.Goals as goal

pub returns-in_default-clause-ranks : goal.returns-in_default-clause-ranks
returns-in_default-clause-ranks c =
    ranks_behind c.args.done.now.items c.args.others.now c.extend_from_slice.new.self.items c.in_ok-extend_from_slice.ensures.ok
    ∙ ap (union (ranks_of_runs (run_pairs c.args.done.now.items))) (left_none _ _ c.args.runs.now c.in_default.ensures.cases refl)

pub returns-in_default-split_first-clause-ranks : goal.returns-in_default-split_first-clause-ranks
returns-in_default-split_first-clause-ranks c =
    ranks_behind c.args.done.now.items c.args.runs.now c.extend_from_slice-in_default-split_first.new.self.items c.in_ok-extend_from_slice-2.ensures.ok
    ∙ ap (union (ranks_of_runs (run_pairs c.args.done.now.items))) (right_none _ _ c.args.others.now c.in_default-split_first.ensures.cases refl)

pub join_both-requires-clause-done : goal.join_both-requires-clause-done
join_both-requires-clause-done c = (taken_apart c.args.done.now.items c.args.runs.now _ _ c.in-Some.ensures.cases.0 c.requires.runs).pending

pub join_both-requires-clause-runs : goal.join_both-requires-clause-runs
join_both-requires-clause-runs c = (taken_apart c.args.done.now.items c.args.runs.now _ _ c.in-Some.ensures.cases.0 c.requires.runs).rest

pub join_both-requires-clause-others : goal.join_both-requires-clause-others
join_both-requires-clause-others c = runs_later _ _ _ c.if-first-other.true (taken_apart c.args.done.now.items c.args.others.now _ _ c.in-Some-split_first.ensures.cases.0 c.requires.others).whole

pub join_both-requires-else-first-other-clause-done : goal.join_both-requires-else-first-other-clause-done
join_both-requires-else-first-other-clause-done c = (taken_apart c.args.done.now.items c.args.others.now _ _ c.in-Some-split_first.ensures.cases.0 c.requires.others).pending

pub join_both-requires-else-first-other-clause-runs : goal.join_both-requires-else-first-other-clause-runs
join_both-requires-else-first-other-clause-runs c = runs_later _ _ _ (omega (arith, c.if-first-other.false)) (taken_apart c.args.done.now.items c.args.runs.now _ _ c.in-Some.ensures.cases.0 c.requires.runs).whole

pub join_both-requires-else-first-other-clause-others : goal.join_both-requires-else-first-other-clause-others
join_both-requires-else-first-other-clause-others c = (taken_apart c.args.done.now.items c.args.others.now _ _ c.in-Some-split_first.ensures.cases.0 c.requires.others).rest

pub returns-clause-ranks : goal.returns-clause-ranks
returns-clause-ranks c =
    let D : Ranks = ranks_of_runs (run_pairs c.args.done.now.items) in
    ap ranks_of_runs (pairs_push _ _ _ c.in_ok-push.ensures.ok)
    ∙ elim c.if-first-other.branch [
      | then-first-other+in_ok-last w ↦
          (λ k. ranks_of_runs (run_pairs (w.done-is k).items ++ run_pair (w.last-is k) ∷ []))
          ∙ w.in_ok-last.ensures.ranks
          ∙ ap (λ s. union s (union (ranks_of_runs (run_pairs c.in-Some.later.now)) (ranks_of_runs (run_pairs c.args.others.now)))) (ranks_with (run_pairs c.args.done.now.items) _ _)
          ∙ left_all D (ranks_of_runs (run_pairs c.args.others.now)) c.args.runs.now _ _ c.in-Some.ensures.cases.0
      | else-first-other+in_ok-last-2 w ↦
          (λ k. ranks_of_runs (run_pairs (w.done-is k).items ++ run_pair (w.last-is k) ∷ []))
          ∙ w.in_ok-last-2.ensures.ranks
          ∙ ap (λ s. union s (union (ranks_of_runs (run_pairs c.args.runs.now)) (ranks_of_runs (run_pairs c.in-Some-split_first.others_later.now)))) (ranks_with (run_pairs c.args.done.now.items) _ _)
          ∙ right_all D (ranks_of_runs (run_pairs c.args.runs.now)) c.args.others.now _ _ c.in-Some-split_first.ensures.cases.0
    ]
