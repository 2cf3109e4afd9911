use Rattle.std.proofs.Common.{ap, ◌≡◌, ◌∙◌}
use Rattle.std.specs.FinMap as finmap
use Rattle.std.proofs.lemmas.Result.{IfOk-weaker}
use Rattle.rank_set.specs.Ranks.{Ranks, has, those}
use Rattle.call_path.specs.Path.{Path}
use Rattle.call_path.specs.Pairs.{Pairs}
use Rattle.prefix_tree.specs.Tree.{Marks, Tree, pairs_of, tree_of}
use Rattle.prefix_tree.proofs.TreeLemmas.{IsTreeOf-from_equal, coverage-tree_of}
use Rattle.tree_view.specs.Selections.{edited}
use Rattle.tree_view.proofs.Laws.{ranks_law}
use Rattle.tree_view.proofs.Lies.{ranks_lie}
use Rattle.tree_view.proofs.view_ranks.Goals as goal

pub selected-requires-after_bounds : goal.selected-requires-after_bounds
selected-requires-after_bounds g c κs within is =
    let t : Tree = g.T.PrefixTree.tree c.args.tree.now in
    ranks_lie (pairs_of t) t.coverage t (IsTreeOf-from_equal (pairs_of t) t.coverage t is) c.args.ranks.now c.in_ok-covered.covered
    (c.in_ok-covered.ensures ∙ ap (those (has c.args.ranks.now)) c.row.ensures.shows.label)

pub returns : goal.returns
returns g c =
    let t : Tree = g.T.PrefixTree.tree c.args.tree.now in
    let A = c.args.ranks.now in
    let h : Path → Marks → Ranks = λ p m. those (has A) m.1 in
    IfOk-weaker c.selected.result (λ kept. g.T.PrefixTree.tree kept ≡ tree_of (edited h (finmap.entries t.below)) c.in_ok-covered.covered)
    (λ kept. (P : Pairs) (C : Ranks) → t ≡ tree_of P C → g.T.PrefixTree.tree kept ≡ tree_of P (those (has A) C))
    (λ kept e P C is. e ∙ ap (tree_of (edited h (finmap.entries t.below))) (c.in_ok-covered.ensures ∙ ap (those (has A)) (c.row.ensures.shows.label ∙ ap (λ (u : Tree). u.coverage) is ∙ coverage-tree_of P C)) ∙ ranks_law P C t is A)
    c.selected.ensures
