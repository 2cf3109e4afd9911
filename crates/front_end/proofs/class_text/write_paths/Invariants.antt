use Rattle.std.proofs.Common.{◌≡◌, ◌++◌, drop, map}
use Rattle.std.specs.List.{flat_map}
use Rattle.equiv_class.specs.ClassList.{path_of}
use Rattle.equiv_class.specs.SeenPaths.{entries_view}
use Rattle.front_end.specs.ClassText.{path_line}
use Rattle.front_end.proofs.class_text.write_paths.Given as goal

abbrev pub invariant-loop-index : goal.invariant-loop-index
invariant-loop-index l =
    l.out.items ++ flat_map path_line (map (path_of (entries_view l.seen)) (drop l.index-index l.indices)) ≡ l.fn.out.items ++ flat_map path_line (map (path_of (entries_view l.seen)) l.indices)
