use Rattle.std.proofs.Common.{ap, ◌∙◌}
use Rattle.prefix_tree.specs.Tree.{Tree, pairs_of}
use Rattle.equiv_class.specs.Classes.{classes_of}
use Rattle.equiv_class.proofs.SamePairs.{classes_of_tree}
use Rattle.wide_merge.proofs.class_parts.wide_classes.Goals as goal

pub returns-clause-own : goal.returns-clause-own
returns-clause-own g c =
    let t : Tree = g.T.PrefixTree.tree c.args.tree.now in
    (c.in_ok-all.ensures t c.in_ok-paths.ensures).classes ∙ ap (classes_of (pairs_of t)) c.row.ensures.shows.label

pub returns-clause-pairs : goal.returns-clause-pairs
returns-clause-pairs g c = λ P C some is. returns-clause-own g c ∙ classes_of_tree P C (g.T.PrefixTree.tree c.args.tree.now) some is
