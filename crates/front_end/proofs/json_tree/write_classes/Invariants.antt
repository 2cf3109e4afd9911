use Rattle.std.proofs.Common.{◌≡◌, ◌++◌, drop, map}
use Rattle.equiv_class.specs.ClassList.{class_views, classes_view}
use Rattle.equiv_class.specs.SeenPaths.{entries_view}
use Rattle.front_end.specs.JsonValues.{class_data, classes_data}
use Rattle.json_text.specs.Tokens.{rest_tokens, value_tokens}
use Rattle.front_end.proofs.json_tree.write_classes.Given as goal

abbrev pub invariant-loop-class : goal.invariant-loop-class
invariant-loop-class l =
    l.out ++ rest_tokens (map class_data (class_views (entries_view l.classes.seen.items) (drop l.class-index l.class-items))) ≡ l.fn.out ++ value_tokens (classes_data (classes_view l.classes))
