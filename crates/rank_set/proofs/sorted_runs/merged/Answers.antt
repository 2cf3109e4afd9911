use Rattle.std.proofs.Common.{◌≡◌, ◌∙◌, [], ◌++◌, List, ap, sym, subst}
use Rattle.std.proofs.lemmas.List.{map-append}
use Rattle.rank_set.specs.declared.Run.{Run}
use Rattle.rank_set.specs.Ranks.{union}
use Rattle.rank_set.specs.Runs.{ranks_of_runs, AreRuns, run_pair, run_pairs}
use Rattle.rank_set.proofs.RunMerging.{right_none}
use Rattle.rank_set.proofs.RunStretches.{runs_left, three_parts, gap_to, front_and_middle, front_alone, front_and_others, joined_and_back, all_ranks, first_behind}
use Rattle.rank_set.proofs.sorted_runs.merged.Goals as goal

pub returns-in_default-clause-ranks : goal.returns-in_default-clause-ranks
returns-in_default-clause-ranks c =
    right_none _ _ c.args.others.now c.in_default.ensures.cases
    (ap (λ xs. ranks_of_runs (run_pairs xs)) c.in_ok-all.ensures.ok)

pub begun-requires-clause-runs : goal.begun-requires-clause-runs
begun-requires-clause-runs c = subst (λ rs. AreRuns 0 (run_pairs rs)) (sym c.split_at.ensures.back) (runs_left c.args.runs.now c.find.result c.requires.runs)

-- the runs before the others
before : (done F new : List Run) → done ≡ [] → new ≡ done ++ F → new ≡ F
before done F new none is = is ∙ ap (λ xs. xs ++ F) none

pub join_behind-requires-clause-runs : goal.join_behind-requires-clause-runs
join_behind-requires-clause-runs c =
    let F : List Run = c.split_at.result.0.now in
    let A : List Run = c.split_at-2.result.0.now in
    let B : List Run = c.split_at-2.result.1.now in
    let parts : c.args.runs.now ≡ F ++ (A ++ B) = three_parts c.args.runs.now F c.split_at.result.1.now A B c.find.result c.begun.result c.split_at.ensures.front c.split_at.ensures.back c.split_at-2.ensures.front c.split_at-2.ensures.back in
    subst (λ xs. AreRuns 0 (run_pairs (xs ++ A))) (sym (before _ F _ c.in_ok-done.ensures.items c.in_ok-extend_from_slice.ensures.ok))
    (subst (AreRuns 0) (sym (map-append run_pair F A)) (front_and_middle c.args.runs.now F A B c.args.others.now parts c.requires.runs))

pub join_behind-requires-clause-others : goal.join_behind-requires-clause-others
join_behind-requires-clause-others c =
    let F : List Run = c.split_at.result.0.now in
    let A : List Run = c.split_at-2.result.0.now in
    let B : List Run = c.split_at-2.result.1.now in
    let O : List Run = c.args.others.now in
    let parts : c.args.runs.now ≡ F ++ (A ++ B) = three_parts c.args.runs.now F c.split_at.result.1.now A B c.find.result c.begun.result c.split_at.ensures.front c.split_at.ensures.back c.split_at-2.ensures.front c.split_at-2.ensures.back in
    let good : AreRuns 0 (run_pairs F) = front_alone c.args.runs.now F A B O parts c.requires.runs in
    subst (λ xs. AreRuns 0 (run_pairs (xs ++ O))) (sym (before _ F _ c.in_ok-done.ensures.items c.in_ok-extend_from_slice.ensures.ok))
    (subst (AreRuns 0) (sym (map-append run_pair F O))
    (front_and_others c.args.runs.now F A B O parts c.requires.runs c.in-Some.other.now c.in-Some.field-0-1.now c.in-Some.ensures.cases.0 c.requires.others
    (gap_to c.args.runs.now F c.find.result c.saturating_sub.result c.in-Some.other.now.first c.find.ensures.within c.split_at.ensures.front good c.saturating_sub.ensures c.find.ensures.before)))

pub returns-clause-runs : goal.returns-clause-runs
returns-clause-runs c =
    let F : List Run = c.split_at.result.0.now in
    let R : List Run = c.split_at.result.1.now in
    let A : List Run = c.split_at-2.result.0.now in
    let B : List Run = c.split_at-2.result.1.now in
    let O : List Run = c.args.others.now in
    let J : List Run = c.join_behind.new.done.items in
    let parts : c.args.runs.now ≡ F ++ (A ++ B) = three_parts c.args.runs.now F R A B c.find.result c.begun.result c.split_at.ensures.front c.split_at.ensures.back c.split_at-2.ensures.front c.split_at-2.ensures.back in
    let ranks = c.in_ok-join_behind.ensures.ranks ∙ ap (λ xs. union (ranks_of_runs (run_pairs xs)) (union (ranks_of_runs (run_pairs A)) (ranks_of_runs (run_pairs O)))) (before _ F _ c.in_ok-done.ensures.items c.in_ok-extend_from_slice.ensures.ok) in
    subst (λ xs. AreRuns 0 (run_pairs xs)) (sym c.in_ok-extend_from_slice-2.ensures.ok)
    (subst (AreRuns 0) (sym (map-append run_pair J B))
    (joined_and_back c.args.runs.now F A B O parts c.requires.runs J c.in_ok-join_behind.ensures.runs ranks c.end.result (λ q one. c.end.ensures.above q one)
    (first_behind R B c.begun.result c.end.result c.split_at-2.ensures.back c.begun.ensures.behind)))

pub returns-clause-ranks : goal.returns-clause-ranks
returns-clause-ranks c =
    let F : List Run = c.split_at.result.0.now in
    let A : List Run = c.split_at-2.result.0.now in
    let B : List Run = c.split_at-2.result.1.now in
    let O : List Run = c.args.others.now in
    let J : List Run = c.join_behind.new.done.items in
    let parts : c.args.runs.now ≡ F ++ (A ++ B) = three_parts c.args.runs.now F c.split_at.result.1.now A B c.find.result c.begun.result c.split_at.ensures.front c.split_at.ensures.back c.split_at-2.ensures.front c.split_at-2.ensures.back in
    let ranks = c.in_ok-join_behind.ensures.ranks ∙ ap (λ xs. union (ranks_of_runs (run_pairs xs)) (union (ranks_of_runs (run_pairs A)) (ranks_of_runs (run_pairs O)))) (before _ F _ c.in_ok-done.ensures.items c.in_ok-extend_from_slice.ensures.ok) in
    all_ranks c.args.runs.now F A B O parts c.requires.runs J c.in_ok-join_behind.ensures.runs ranks c.extend_from_slice-2.new.self.items c.in_ok-extend_from_slice-2.ensures.ok
