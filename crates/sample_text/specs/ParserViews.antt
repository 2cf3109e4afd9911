-- What the parser has parsed, and how its parts fit together.
use Rattle.std.specs.Prelude.{◌≡◌, ◌≤◌, ◌<◌, ⊤, ℕ, List, [], ◌∷◌, length, slice_index_or, Ok, string_bytes, String}
use Rattle.std.specs.Global.{Global}
use Rattle.call_path.specs.Path.{Path}
use Rattle.call_path.specs.Reading.{path_of}
use Rattle.text_lines.specs.Lines.{lines}
use Rattle.stat_plan.specs.Plans.{Sampled, sampled}
use Rattle.stat_plan.specs.Samples.{all_ranks}
use Rattle.overlay_setup.specs.Topologies.{Nodes}
use Rattle.stat_plan.specs.StackLines.{lines_of, PathIndicesInRange}
use Rattle.sample_text.specs.declared.paths.Paths.{Paths}
use Rattle.sample_text.specs.declared.parser.Parser.{Parser}

-- each text is read as the path with its number
abbrev pub AreRead : List (String Global) → List Path → Type 0
AreRead [] [] = ⊤
AreRead [] (path ∷ paths) = ⊥
AreRead (text ∷ texts) [] = ⊥
AreRead (text ∷ texts) (path ∷ paths) = (path_of (string_bytes text) ≡ Ok path) × AreRead texts paths

-- the same of paths and the texts that find them
abbrev pub HoldsPaths : Paths → Type 0
HoldsPaths p = AreRead p.texts.keys p.paths.items

-- the path with a number
abbrev pub path_at : Paths → ℕ → Path
path_at p n = slice_index_or p.paths.items n []

-- the first line of a text is read as the path with a number, and this is left of the text
pub record BeginsWithPath (p : Paths) (text : List ℕ) (number : ℕ) (after : List ℕ) : Type 0 where
  pub line : List ℕ
  pub first : lines text ≡ line ∷ lines after
  pub read : path_of line ≡ Ok (path_at p number)
  pub within : number < length p.paths.items

-- the ranks and samples of a parser
abbrev pub parser_view : Parser → Sampled
parser_view parser = sampled parser.placed.items (lines_of parser.paths.paths.items parser.lines)

-- the nodes that a parser knows
abbrev pub parser_nodes : Parser → Nodes
parser_nodes parser = parser.topology.now

-- a set for each node and one of all placed ranks, and each path once: no more paths than lines
pub record IsConsistent (parser : Parser) : Type 0 where
  pub paired : length parser.placed.items ≡ length parser.topology.now.parents
  pub placed : parser.all ≡ all_ranks parser.placed.items
  pub paths : HoldsPaths parser.paths
  pub numbered : PathIndicesInRange parser.paths.paths.items parser.lines
  pub no_more_than_lines : length parser.paths.paths.items ≤ length parser.lines
