use Rattle.std.proofs.Common.{◌≡◌, ℕ, List, length, sym, subst, ◌∙◌}
use Rattle.std.proofs.lemmas.List.{length-map}
use Rattle.std.proofs.lemmas.Result.{IfOk-weaker}
use Rattle.rank_set.specs.Ranks.{IsSubset, Ranks}
use Rattle.call_path.specs.Path.{Path}
use Rattle.call_path.specs.Pairs.{Pairs}
use Rattle.prefix_tree.specs.Tree.{Tree, pairs_of, tree_of}
use Rattle.equiv_class.specs.Classes.{classes_of}
use Rattle.equiv_class.specs.ClassList.{AreSeenIn, class_views, classes_over}
use Rattle.equiv_class.specs.SeenPaths.{Lists, entries_view, entry_of, seen_in}
use Rattle.equiv_class.specs.StateBlocks.{blocks_view}
use Rattle.equiv_class.specs.declared.Class.{Class}
use Rattle.equiv_class.specs.declared.SeenPath.{SeenPath}
use Rattle.equiv_class.specs.declared.rank_blocks.Blocks.{Blocks}
use Rattle.equiv_class.proofs.SamePairs.{classes_of_part}
use Rattle.equiv_class.proofs.TreePaths.{Lists-tree}
use Rattle.equiv_class.proofs.classes_of_seen.Goals as goal

own_classes : (t : Tree) (C : Ranks) (seen : List SeenPath) (count : ℕ) (all : List Class) (blocks : Blocks) → entries_view seen ≡ seen_in t → count ≡ length seen
    → ((P : Pairs) → Lists P (entries_view seen) → blocks_view (entries_view seen) blocks ≡ classes_of P C) → ((es : List (Path × Ranks)) → length es ≡ count → class_views es all ≡ blocks_view es blocks)
    → class_views (entries_view seen) all ≡ classes_of (pairs_of t) C
own_classes t C seen count all blocks is_seen is_count are views =
    views (entries_view seen) (length-map seen entry_of ∙ sym is_count)
    ∙ are (pairs_of t) (subst (Lists (pairs_of t)) (sym is_seen) (Lists-tree t))

pub returns-clause-own : goal.returns-clause-own
returns-clause-own c =
    IfOk-weaker c.take_classes.result (λ all. (es : List (Path × Ranks)) → length es ≡ c.in_ok-count.count → class_views es all.items ≡ blocks_view es c.in_ok-blocks.blocks)
    (λ all. (t : Tree) → entries_view c.args.seen.now ≡ seen_in t → classes_over c.args.seen.now all.items ≡ classes_of (pairs_of t) c.args.covered.now)
    (λ all views t is. own_classes t c.args.covered.now c.args.seen.now c.in_ok-count.count all.items c.in_ok-blocks.blocks is c.in_ok-count.ensures c.in_ok-blocks.ensures.classes views)
    c.take_classes.ensures.view

pub returns-clause-pairs : goal.returns-clause-pairs
returns-clause-pairs c =
    IfOk-weaker c.take_classes.result
    (λ all. (t : Tree) → entries_view c.args.seen.now ≡ seen_in t → classes_over c.args.seen.now all.items ≡ classes_of (pairs_of t) c.args.covered.now)
    (λ all. (P : Pairs) (C : Ranks) → AreSeenIn P C c.args.seen.now → IsSubset c.args.covered.now C → classes_over c.args.seen.now all.items ≡ classes_of P c.args.covered.now)
    (λ all own P C are part. own (tree_of P C) are.1 ∙ classes_of_part P C c.args.covered.now are.0 part)
    (returns-clause-own c)
