use Rattle.std.proofs.Common.{◌<◌, ◌+◌, ◌-◌, List, length, sym, ap, subst, ◌∙◌, arith}
use Rattle.rank_set.specs.declared.Run.{Run}
use Rattle.rank_set.specs.Ranks.{Ranks, union}
use Rattle.rank_set.specs.Runs.{run_pairs, ranks_between, ranks_of_runs, AreRuns}
use Rattle.rank_set.proofs.RunMerging.{pairs_push, ranks_with, only_run}
use Rattle.rank_set.proofs.RunSearch.{append_run, run_at, pairs_length}
use Rattle.rank_set.proofs.run_set.RunSet.put_run.Goals as goal

pub invariant_of-self-then-behind-first : goal.invariant_of-self-then-behind-first
invariant_of-self-then-behind-first c =
    let xs : List Run = c.self.inside.runs.items in
    let gap : 0 < length xs → (run_at (run_pairs xs) (length xs - 1)).1 + 1 < c.args.first = subst (λ (ys : List Run). 0 < length ys → (run_at (run_pairs ys) (length ys - 1)).1 + 1 < c.args.first) c.as_slice.ensures (λ lt. omega (arith, c.end-behind.ensures.last lt, c.if-behind-first.true)) in
    subst (AreRuns 0) (sym (pairs_push xs c.push.new.self.items _ c.in_ok-push.ensures.ok))
    (append_run 0 (run_pairs xs) c.args.first c.args.last c.self.invariant (omega arith)
    (λ lt. subst (λ n. (run_at (run_pairs xs) (n - 1)).1 + 1 < c.args.first) (sym (pairs_length xs)) (gap (omega (arith, lt, pairs_length xs))))
    c.requires.not_empty c.requires.below_limit)

pub returns-then-behind-first-clause-ok : goal.returns-then-behind-first-clause-ok
returns-then-behind-first-clause-ok c =
    ap ranks_of_runs (pairs_push c.self.inside.runs.items c.push.new.self.items _ c.in_ok-push.ensures.ok)
    ∙ ranks_with (run_pairs c.self.inside.runs.items) c.args.first c.args.last
    ∙ ap (λ (s : Ranks). union s (ranks_between c.args.first c.args.last)) c.self.view_is

pub returns-clause-ok : goal.returns-clause-ok
returns-clause-ok c =
    c.in_ok-self-inside.ensures.ranks
    ∙ (λ i. union (ranks_of_runs (run_pairs (c.as_slice-2.ensures i))) (only_run c.args.first c.args.last i))
    ∙ ap (λ (s : Ranks). union s (ranks_between c.args.first c.args.last)) c.self.view_is
