use Rattle.std.proofs.Common.{◌≡◌, ◌∙◌, ap, sym, subst, List, []}
use Rattle.rank_set.specs.Ranks.{Ranks, none}
use Rattle.arena_tree.specs.NodeViews.{NodeView}
use Rattle.arena_tree.specs.ChainForest.{count_rows}
use Rattle.arena_tree.specs.Reading.{forest_at}
use Rattle.std.proofs.lemmas.List.Elements.{All-nil}
use Rattle.arena_tree.specs.Trail.{IsLaterSibling, AreHints}
use Rattle.arena_tree.specs.TreeView.{tree_view, IsArenaTree}
use Rattle.arena_tree.proofs.Trees.{makes_none}
use Rattle.arena_tree.proofs.tree.ArenaTreePrefixTree.empty.Goals as goal

at_both : (C : Ranks) (cs : List NodeView) → none ≡ C → [] ≡ cs → IsArenaTree C cs 4294967295
at_both C cs e f = subst (λ C. IsArenaTree C cs 4294967295) e (subst (λ cs. IsArenaTree none cs 4294967295) f makes_none.tree)

pub invariant_of-result : goal.invariant_of-result
invariant_of-result c = record {
  tree = at_both _ _ (sym c.new.ensures) (sym c.new-3.ensures.items);
  rows = ap (λ (cs : List NodeView). count_rows (forest_at cs 4294967295)) (sym c.new-3.ensures.items);
  no_ranks = c.new-2.ensures;
  hints = subst (AreHints (forest_at c.new-3.result.items 4294967295)) (sym c.new-4.ensures.items) (All-nil (λ h. IsLaterSibling (forest_at c.new-3.result.items 4294967295) h.first h.later));
}

pub returns : goal.returns
returns c = (λ i. tree_view (c.new.ensures i) (c.new-3.ensures.items i) 4294967295) ∙ makes_none.is
