use Rattle.arena_tree.proofs.Views.{tree_is}
use Rattle.std.proofs.Common.{sym, subst}
use Rattle.rank_set.specs.Ranks.{union}
use Rattle.prefix_tree.specs.Tree.{Tree, covered, Covers}
use Rattle.prefix_tree.proofs.TreeLemmas.{covered_covers}
use Rattle.arena_tree.proofs.Trees.{Makes, makes_covered}
use Rattle.arena_tree.proofs.tree.ArenaTreePrefixTree.cover.Goals as goal

makes : (c : goal.In_ok-union_into) → Makes c.union_into.new.self c.self.inside.nodes.items c.self.inside.first (covered c.args.self.now.tree c.args.ranks.now)
makes c =
    subst (λ C. Makes C c.self.inside.nodes.items c.self.inside.first (covered c.args.self.now.tree c.args.ranks.now)) (sym c.in_ok-union_into.ensures.ok)
    (subst (λ (t : Tree). Makes (union c.self.inside.coverage c.args.ranks.now) c.self.inside.nodes.items c.self.inside.first (covered t c.args.ranks.now)) (tree_is c.self.view_is)
    (makes_covered c.self.inside.coverage c.self.inside.nodes.items c.self.inside.first c.self.invariant.tree c.args.ranks.now))

pub invariant_of-self-2 : goal.invariant_of-self-2
invariant_of-self-2 c = record { tree = (makes c).tree; rows = c.self.invariant.rows; no_ranks = c.self.invariant.no_ranks; hints = c.self.invariant.hints }

pub returns-clause-ok : goal.returns-clause-ok
returns-clause-ok c = (makes c).is

pub returns-clause-pairs : goal.returns-clause-pairs
returns-clause-pairs c = subst (Covers c.args.self.now.tree c.args.ranks.now) (sym (makes c).is) (covered_covers c.args.self.now.tree c.args.ranks.now)
