use Rattle.std.proofs.Common.{◌≡◌, List, sym, ap, ◌∙◌}
use Rattle.rank_set.specs.Ranks.{Ranks}
use Rattle.prefix_tree.specs.Tree.{Tree, pairs_of}
use Rattle.equiv_class.specs.Classes.{classes_of}
use Rattle.equiv_class.specs.ClassList.{class_views}
use Rattle.equiv_class.specs.SeenPaths.{entries_view, seen_in}
use Rattle.equiv_class.specs.declared.Class.{Class}
use Rattle.equiv_class.specs.declared.SeenPath.{SeenPath}
use Rattle.equiv_class.proofs.SamePairs.{classes_of_tree}
use Rattle.equiv_class.proofs.classes.Goals as goal

own_classes : (t : Tree) (C : Ranks) (seen lent : List SeenPath) (all : List Class) → C ≡ t.coverage → entries_view seen ≡ seen_in t → lent ≡ seen
    → ((u : Tree) → entries_view lent ≡ seen_in u → class_views (entries_view lent) all ≡ classes_of (pairs_of u) C)
    → class_views (entries_view seen) all ≡ classes_of (pairs_of t) t.coverage
own_classes t C seen lent all is_C is_seen is_lent own = ap (λ s. class_views (entries_view s) all) (sym is_lent) ∙ own t (ap entries_view is_lent ∙ is_seen) ∙ ap (classes_of (pairs_of t)) is_C

pub returns-clause-own : goal.returns-clause-own
returns-clause-own g c =
    own_classes (g.T.PrefixTree.tree c.args.tree.now) c.row.result.label.now c.in_ok-seen.seen.items c.deref.result.now c.in_ok-all.all.items
    c.row.ensures.shows.label c.in_ok-seen.ensures c.deref.ensures.value c.in_ok-all.ensures.own

pub returns-clause-pairs : goal.returns-clause-pairs
returns-clause-pairs g c = λ P C some is. returns-clause-own g c ∙ classes_of_tree P C (g.T.PrefixTree.tree c.args.tree.now) some is
