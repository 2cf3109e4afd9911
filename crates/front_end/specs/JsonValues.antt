-- Parts of a report as JSON: trees and classes. The keys of an object stand in byte order.
use Rattle.std.specs.Prelude.{ℕ, List, [], ◌∷◌, length, codes, map}
use Rattle.serde_json.specs.Data.{Data, string}
use Rattle.rank_set.specs.Ranks.{Ranks}
use Rattle.call_path.specs.Path.{Path, path_text}
use Rattle.prefix_tree.specs.Tree.{Tree, Marks, frame_of, rows_of}
use Rattle.json_text.specs.Values.{count, list_of, object_of, ranks_data}

-- a class: its paths and its ranks
abbrev pub class_data : Ranks × List Path → Data
class_data block = object_of (
    (codes "paths", list_of (map (λ path. string (path_text path)) block.1))
    ∷ (codes "ranks", ranks_data block.0) ∷ [])

-- classes, one after another
abbrev pub classes_data : List (Ranks × List Path) → Data
classes_data blocks = list_of (map class_data blocks)

-- a row of a tree: its depth, the ranks whose path ends there, its frame, and the ranks that pass
abbrev pub row_of : ℕ → Ranks → Ranks → List ℕ → Data
row_of depth label ends frame = object_of (
    (codes "depth", count depth)
    ∷ (codes "ends", ranks_data ends)
    ∷ (codes "frame", string frame)
    ∷ (codes "label", ranks_data label) ∷ [])

abbrev pub row_data : Path × Marks → Data
row_data e = row_of (length e.0) e.1.0 e.1.1 (frame_of e.0)

-- the rows of a tree
abbrev pub tree_data : Tree → Data
tree_data t = list_of (map row_data (rows_of t))
