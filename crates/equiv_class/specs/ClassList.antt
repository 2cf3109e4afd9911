-- Classes as blocks of ranks with their paths.
use Rattle.std.specs.Prelude.{◌≡◌, ℕ, ◌<◌, List, [], get_or, map}
use Rattle.std.specs.List.{AllByRecursion}
use Rattle.rank_set.specs.Ranks.{Ranks, none}
use Rattle.call_path.specs.Path.{Path}
use Rattle.call_path.specs.Pairs.{HasNoEmptyPath, Pairs}
use Rattle.prefix_tree.specs.Tree.{tree_of}
use Rattle.equiv_class.specs.SeenPaths.{entries_view, seen_in}
use Rattle.equiv_class.specs.declared.Class.{Class}
use Rattle.equiv_class.specs.declared.SeenPath.{SeenPath}
use Rattle.equiv_class.specs.declared.TreeClasses.{TreeClasses}

-- the path that has an index
abbrev pub path_of : List (Path × Ranks) → ℕ → Path
path_of es i = (get_or es i ([], none)).0

-- the ranks and the paths of a class
abbrev pub class_view : List (Path × Ranks) → Class → Ranks × List Path
class_view es k = (k.ranks, map (path_of es) k.paths.items)

-- those of each class
abbrev pub class_views : List (Path × Ranks) → List Class → List (Ranks × List Path)
class_views es ks = map (class_view es) ks

-- those of each class, where the list of paths is this
abbrev pub classes_over : List SeenPath → List Class → List (Ranks × List Path)
classes_over seen ks = class_views (entries_view seen) ks

-- those of each class of a tree
abbrev pub classes_view : TreeClasses → List (Ranks × List Path)
classes_view found = class_views (entries_view found.seen.items) found.all.items

-- what a class lists are indices of so many paths
abbrev pub HaveIndices : ℕ → List Class → Type 0
HaveIndices count ks = AllByRecursion (λ k. AllByRecursion (λ i. i < count) k.paths.items) ks

-- the paths are those of a tree of P over C, where no path of P is empty
abbrev pub AreSeenIn : Pairs → Ranks → List SeenPath → Type 0
AreSeenIn P C seen = HasNoEmptyPath P × (entries_view seen ≡ seen_in (tree_of P C))
