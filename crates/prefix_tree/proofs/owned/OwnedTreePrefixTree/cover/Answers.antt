use Rattle.std.proofs.Common.{sym, subst}
use Rattle.prefix_tree.specs.Tree.{covered, Covers}
use Rattle.prefix_tree.proofs.TreeLemmas.{covered_covers}
use Rattle.prefix_tree.proofs.OwnedLemmas.{MakesTree, makes_covered, from_equal_ranks}
use Rattle.prefix_tree.proofs.owned.OwnedTreePrefixTree.cover.Goals as goal

makes : (c : goal.In_ok-union_into) → MakesTree c.union_into.new.self c.self.inside.rows.items (covered c.args.self.now c.args.ranks.now)
makes c = from_equal_ranks _ _ _ _ c.in_ok-union_into.ensures.ok (makes_covered c.self.inside.coverage c.args.ranks.now c.self.inside.rows.items c.args.self.now c.self.view_is c.self.invariant.tree)

pub invariant_of-self-2 : goal.invariant_of-self-2
invariant_of-self-2 c = record { tree = (makes c).tree c.self.invariant.tree.within_limit; no_ranks = c.self.invariant.no_ranks }

pub returns-clause-ok : goal.returns-clause-ok
returns-clause-ok c = (makes c).is

pub returns-clause-pairs : goal.returns-clause-pairs
returns-clause-pairs c = subst (Covers c.args.self.now c.args.ranks.now) (sym (makes c).is) (covered_covers c.args.self.now c.args.ranks.now)
