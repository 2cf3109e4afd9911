-- The text of classes.
use Rattle.std.specs.Prelude.{ℕ, List, [], ◌∷◌, ◌++◌, length, codes}
use Rattle.std.specs.Fmt.{decimal}
use Rattle.std.specs.List.{flat_map}
use Rattle.rank_set.specs.Ranks.{Ranks}
use Rattle.rank_set.specs.Text.{text_of}
use Rattle.call_path.specs.Path.{Path, path_text}

-- a path on a line of its own, after two spaces
abbrev pub path_line : Path → List ℕ
path_line path = 32 ∷ 32 ∷ path_text path ++ 10 ∷ []

-- a class: its ranks, how many paths they were seen in, and the paths
abbrev pub class_text : Ranks × List Path → List ℕ
class_text block = codes "class " ++ text_of block.0 ++ codes " paths " ++ decimal (length block.1) ++ 10 ∷ [] ++ flat_map path_line block.1

-- one class after another
abbrev pub classes_text : List (Ranks × List Path) → List ℕ
classes_text blocks = flat_map class_text blocks
