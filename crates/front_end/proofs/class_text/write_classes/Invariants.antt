use Rattle.std.proofs.Common.{◌≡◌, ◌++◌, drop}
use Rattle.equiv_class.specs.ClassList.{class_views, classes_view}
use Rattle.equiv_class.specs.SeenPaths.{entries_view}
use Rattle.front_end.specs.ClassText.{classes_text}
use Rattle.front_end.proofs.class_text.write_classes.Given as goal

abbrev pub invariant-loop-class : goal.invariant-loop-class
invariant-loop-class l =
    l.out.items ++ classes_text (class_views (entries_view l.classes.seen.items) (drop l.class-index l.class-items)) ≡ l.fn.out.items ++ classes_text (classes_view l.classes)
