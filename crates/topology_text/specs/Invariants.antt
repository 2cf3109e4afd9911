-- What holds after each token.
use Rattle.std.specs.Prelude.{◌≡◌, ◌<◌, ◌⊎◌, ℕ, Bool, true, List, length, Option, None, Some, is_some}
use Rattle.std.specs.List.{AllByRecursion, list_any}
use Rattle.overlay_setup.specs.Names.{IsName}
use Rattle.topology_text.specs.declared.parser.Node.{Node}
use Rattle.topology_text.specs.declared.parser.ParserState.{ParserState}
use Rattle.topology_text.specs.declared.parser.ParserState.TheVariants.{Outside, AfterParent, AfterArrow, AfterChild}
use Rattle.topology_text.specs.Statements.{Parsed}

-- a parent is one of so many nodes
abbrev pub IsBelow : ℕ → Option ℕ → Type 0
IsBelow count None = Unit {0}
IsBelow count (Some p) = p < count

-- whether some node has a parent
abbrev pub has_child : List Node → Bool
has_child nodes = list_any (λ x. is_some x.parent) nodes

-- Within a statement its parent is a node. After a child, and after a whole statement, some node has a parent.
abbrev pub StateFits : List Node → ParserState → Type 0
StateFits nodes Outside = (length nodes ≡ 0) ⊎ (has_child nodes ≡ true)
StateFits nodes (AfterParent p) = p < length nodes
StateFits nodes (AfterArrow p) = p < length nodes
StateFits nodes (AfterChild p) = (p < length nodes) × (has_child nodes ≡ true)

-- as many names as nodes, all of them well formed, and parents that are nodes
pub record ParserInvariant (s : Parsed) : Type 0 where
  pub paired : length s.names ≡ length s.nodes
  pub named : AllByRecursion IsName s.names
  pub parents : AllByRecursion (λ x. IsBelow (length s.nodes) x.parent) s.nodes
  pub state : StateFits s.nodes s.state
