use Rattle.std.proofs.lemmas.Result.{IfOk-weaker}
use Rattle.prefix_tree.specs.Tree.{Tree, pairs_of}
use Rattle.tree_view.proofs.SameViews.{own_none_empty}
use Rattle.tree_view.proofs.view_tree.Goals as goal

pub returns-clause-own : goal.returns-clause-own
returns-clause-own g c =
    let t : Tree = g.T.PrefixTree.tree c.args.tree.now in
    let tree = c.rows-lawful.ensures.lawful.tree in
    IfOk-weaker c.viewed.result _ _ (λ kept h. h (pairs_of t) t.coverage (own_none_empty t tree) tree) c.viewed.ensures
