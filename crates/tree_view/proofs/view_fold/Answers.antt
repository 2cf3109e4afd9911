use Rattle.std.proofs.Common.{ap, ◌≡◌, ◌∙◌}
use Rattle.std.specs.FinMap as finmap
use Rattle.std.proofs.lemmas.Result.{IfOk-weaker}
use Rattle.rank_set.specs.Ranks.{Ranks}
use Rattle.call_path.specs.Pairs.{Pairs}
use Rattle.prefix_tree.specs.Tree.{Tree, pairs_of, tree_of}
use Rattle.prefix_tree.proofs.TreeLemmas.{IsTreeOf-from_equal, coverage-tree_of}
use Rattle.tree_view.specs.Views.{folded}
use Rattle.tree_view.specs.Selections.{edited, fold_ends}
use Rattle.tree_view.proofs.Laws.{fold_law}
use Rattle.tree_view.proofs.Lies.{fold_lie}
use Rattle.tree_view.proofs.view_fold.Goals as goal

pub selected-requires-after_bounds : goal.selected-requires-after_bounds
selected-requires-after_bounds g c κs within is =
    let t : Tree = g.T.PrefixTree.tree c.args.tree.now in
    fold_lie (pairs_of t) t.coverage t (IsTreeOf-from_equal (pairs_of t) t.coverage t is) c.args.frame.now c.row.result.label.now c.row.ensures.shows.label

pub returns : goal.returns
returns g c =
    let t : Tree = g.T.PrefixTree.tree c.args.tree.now in
    let f = c.args.frame.now in
    IfOk-weaker c.selected.result (λ kept. g.T.PrefixTree.tree kept ≡ tree_of (edited (fold_ends f) (finmap.entries t.below)) c.row.result.label.now)
    (λ kept. (P : Pairs) (C : Ranks) → t ≡ tree_of P C → g.T.PrefixTree.tree kept ≡ tree_of (folded f P) C)
    (λ kept e P C is. e ∙ ap (tree_of (edited (fold_ends f) (finmap.entries t.below))) (c.row.ensures.shows.label ∙ ap (λ (u : Tree). u.coverage) is ∙ coverage-tree_of P C) ∙ fold_law P C t is f)
    c.selected.ensures
