use Rattle.std.proofs.Common.{◌≡◌, ◌∙◌, ap}
use Rattle.std.proofs.lemmas.Result.{IfOk-weaker}
use Rattle.rank_set.specs.Ranks.{Ranks, has, those}
use Rattle.call_path.specs.Pairs.{HasNoEmptyPath, Pairs}
use Rattle.prefix_tree.specs.Tree.{Tree, tree_of}
use Rattle.equiv_class.specs.ClassList.{class_views}
use Rattle.equiv_class.specs.SeenPaths.{entries_view}
use Rattle.tree_view.specs.Views.{least_ranks, reps_of}
use Rattle.tree_view.proofs.view_reps.Goals as goal

pub returns : goal.returns
returns g c =
    let t : Tree = g.T.PrefixTree.tree c.args.tree.now in
    IfOk-weaker c.view_ranks.result (λ kept. (P : Pairs) (C : Ranks) → t ≡ tree_of P C → g.T.PrefixTree.tree kept ≡ tree_of P (those (has c.in_ok-ranks.ranks) C))
    (λ kept. (P : Pairs) (C : Ranks) → HasNoEmptyPath P → t ≡ tree_of P C → g.T.PrefixTree.tree kept ≡ tree_of P (reps_of c.args.count P C))
    (λ kept h P C some is. h P C is ∙ ap (λ s. tree_of P (those (has s) C)) (c.in_ok-ranks.ensures (entries_view c.in_ok-classes.classes.seen.items) ∙ ap (λ cs. least_ranks c.args.count (class_views (entries_view c.in_ok-classes.classes.seen.items) cs)) c.deref.ensures.value ∙ ap (least_ranks c.args.count) (c.in_ok-classes.ensures.pairs P C some is)))
    c.view_ranks.ensures
