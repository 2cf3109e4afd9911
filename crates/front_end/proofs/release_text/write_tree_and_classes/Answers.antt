use Rattle.std.proofs.Common.{◌≡◌, subst}
use Rattle.std.specs.Prelude.{OnOk}
use Rattle.equiv_class.specs.ClassList.{classes_view}
use Rattle.front_end.proofs.Written.{tree_written}
use Rattle.front_end.proofs.release_text.write_tree_and_classes.Goals as goal

pub returns : goal.returns
returns g c =
    subst (λ ys. OnOk c.write_classes.result (c.write_classes.new.out.items ≡ ys))
    (tree_written (g.T.PrefixTree.tree c.args.tree.now) (classes_view c.in_ok-classes.classes) c.args.out.now.items c.extend_from_slice.new.self.items c.write_tree.new.out.items c.extend_from_slice-2.new.self.items
    c.in_ok-classes.ensures.own c.in_ok-extend_from_slice.ensures.items c.in_ok-write_tree.ensures c.in_ok-extend_from_slice-2.ensures.items) c.write_classes.ensures
