use Rattle.std.proofs.Common.{ap, ◌≡◌, ◌∙◌, cond}
use Rattle.std.specs.FinMap as finmap
use Rattle.std.proofs.lemmas.Result.{IfOk-weaker}
use Rattle.rank_set.specs.Ranks.{Ranks, none}
use Rattle.call_path.specs.Path.{Path}
use Rattle.call_path.specs.Pairs.{Pairs}
use Rattle.prefix_tree.specs.Tree.{Marks, Tree, pairs_of, tree_of}
use Rattle.prefix_tree.proofs.TreeLemmas.{IsTreeOf-from_equal}
use Rattle.tree_view.specs.Views.{has_frame, ranks_with, with_frame}
use Rattle.tree_view.specs.Selections.{edited}
use Rattle.tree_view.proofs.Laws.{frame_law}
use Rattle.tree_view.proofs.Lies.{frame_lie}
use Rattle.tree_view.proofs.view_frame.Goals as goal

pub selected-requires-after_bounds : goal.selected-requires-after_bounds
selected-requires-after_bounds g c κs within is =
    let t : Tree = g.T.PrefixTree.tree c.args.tree.now in
    frame_lie (pairs_of t) t.coverage t (IsTreeOf-from_equal (pairs_of t) t.coverage t is) c.args.frame.now c.in_ok-covered.covered (c.in_ok-covered.ensures (pairs_of t) t.coverage is)

pub returns : goal.returns
returns g c =
    let t : Tree = g.T.PrefixTree.tree c.args.tree.now in
    let f = c.args.frame.now in
    let h : Path → Marks → Ranks = λ p m. cond (has_frame f p) m.1 none in
    IfOk-weaker c.selected.result (λ kept. g.T.PrefixTree.tree kept ≡ tree_of (edited h (finmap.entries t.below)) c.in_ok-covered.covered)
    (λ kept. (P : Pairs) (C : Ranks) → t ≡ tree_of P C → g.T.PrefixTree.tree kept ≡ tree_of (with_frame f P) (ranks_with f P C))
    (λ kept e P C is. e ∙ ap (tree_of (edited h (finmap.entries t.below))) (c.in_ok-covered.ensures P C is) ∙ frame_law P C t is f)
    c.selected.ensures
