-- What the tokens of a topology text are parsed as, and the first error in them.
use Rattle.std.specs.Prelude.{ℕ, zero, suc, Bool, true, false, nat_le, cond, List, [], ◌∷◌, ◌++◌, length, Option, None, Some, Result, Ok, Err, is_some, slice_get}
use Rattle.overlay_setup.specs.Names.{number_of}
use Rattle.overlay_setup.specs.declared.topology.TheConstants.{NODE_LIMIT}
use Rattle.text_lines.specs.declared.text_error.TextError.{TextError}
use Rattle.text_lines.specs.declared.text_error.TextError.TheVariants.{Bad, Over}
use Rattle.text_lines.specs.declared.text_error.Reason.TheVariants.{BadToken, SecondLine, NoArrow, NoChild, SecondParent, NoSemicolon}
use Rattle.text_lines.specs.declared.text_error.Quantity.TheVariants.{Nodes}
use Rattle.topology_text.specs.declared.parser.Node.{Node}
use Rattle.topology_text.specs.declared.parser.ParserState.{ParserState}
use Rattle.topology_text.specs.declared.parser.ParserState.TheVariants.{Outside, AfterParent, AfterArrow, AfterChild}
use Rattle.topology_text.specs.Tokens.{Piece, Arrow, Semicolon, Name, End, NoToken}

-- what is parsed so far: names and nodes by number, and what may come next
pub record Parsed : Type 0 where
  pub names : List (List ℕ)
  pub nodes : List Node
  pub state : ParserState

-- before the first token
abbrev pub nothing_parsed : Parsed
nothing_parsed = record { names = []; nodes = []; state = Outside }

-- A name appears. Names are numbered from 0 in order of first appearance, and a 513th is refused.
unfoldable pub appear : Parsed → ℕ → List ℕ → Result Parsed TextError
appear s line_number name = elim (number_of name s.names) [
  | (Some n) ↦ Ok s
  | None ↦ cond (nat_le NODE_LIMIT (length s.names)) (Err (Over line_number Nodes NODE_LIMIT)) (Ok (record s {
    names = s.names ++ name ∷ [];
    nodes = s.nodes ++ record { line = line_number; parent = None; is_parent = false } ∷ [];
  }))
]

-- nodes of which node n is changed
abbrev pub at_node : List Node → ℕ → (Node → Node) → List Node
at_node [] n f = []
at_node (x ∷ xs) zero f = f x ∷ xs
at_node (x ∷ xs) (suc n) f = x ∷ at_node xs n f

-- whether a node has begun a statement
abbrev pub is_parent : Option Node → Bool
is_parent None = false
is_parent (Some x) = x.is_parent

-- whether a node has a parent
abbrev pub is_child : Option Node → Bool
is_child None = false
is_child (Some x) = is_some x.parent

-- a node that begins its statement
abbrev pub as_parent : Node → Node
as_parent x = record x { is_parent = true }

-- a node that gets a parent
abbrev pub child_of : ℕ → Node → Node
child_of p x = record x { parent = Some p }

-- Node n begins its statement, unless it has begun one before.
unfoldable pub add_parent : Parsed → ℕ → ℕ → Result Parsed TextError
add_parent s line_number n = elim (is_parent (slice_get s.nodes n)) [
  | true ↦ Err (Bad line_number SecondLine)
  | false ↦ Ok (record s { nodes = at_node s.nodes n as_parent; state = AfterParent n })
]

-- Node n becomes a child of node p, unless it has a parent already.
unfoldable pub add_child : Parsed → ℕ → ℕ → ℕ → Result Parsed TextError
add_child s line_number p n = elim (is_child (slice_get s.nodes n)) [
  | true ↦ Err (Bad line_number SecondParent)
  | false ↦ Ok (record s { nodes = at_node s.nodes n (child_of p); state = AfterChild p })
]

-- a name with its number, by the state
abbrev pub take_name : Parsed → ℕ → ParserState → ℕ → Result Parsed TextError
take_name s line_number Outside n = add_parent s line_number n
take_name s line_number (AfterParent p) n = Err (Bad line_number NoArrow)
take_name s line_number (AfterArrow p) n = add_child s line_number p n
take_name s line_number (AfterChild p) n = add_child s line_number p n

-- `=>`, by the state
abbrev pub take_arrow : Parsed → ℕ → ParserState → Result Parsed TextError
take_arrow s line_number Outside = Err (Bad line_number BadToken)
take_arrow s line_number (AfterParent p) = Ok (record s { state = AfterArrow p })
take_arrow s line_number (AfterArrow p) = Err (Bad line_number NoChild)
take_arrow s line_number (AfterChild p) = Err (Bad line_number NoSemicolon)

-- `;`, by the state
abbrev pub take_semicolon : Parsed → ℕ → ParserState → Result Parsed TextError
take_semicolon s line_number Outside = Err (Bad line_number BadToken)
take_semicolon s line_number (AfterParent p) = Err (Bad line_number NoArrow)
take_semicolon s line_number (AfterArrow p) = Err (Bad line_number NoChild)
take_semicolon s line_number (AfterChild p) = Ok (record s { state = Outside })

-- the end of the text, by the state
abbrev pub take_end : Parsed → ℕ → ParserState → Result Parsed TextError
take_end s line_number Outside = Ok s
take_end s line_number (AfterParent p) = Err (Bad line_number NoArrow)
take_end s line_number (AfterArrow p) = Err (Bad line_number NoChild)
take_end s line_number (AfterChild p) = Err (Bad line_number NoSemicolon)

-- the number of a name that has appeared
abbrev pub number_or_0 : Option ℕ → ℕ
number_or_0 None = 0
number_or_0 (Some n) = n

-- what is parsed with one token more
abbrev pub with_piece : Parsed → ℕ → Piece → Result Parsed TextError
with_piece s line_number NoToken = Err (Bad line_number BadToken)
with_piece s line_number Arrow = take_arrow s line_number s.state
with_piece s line_number End = take_end s line_number s.state
with_piece s line_number Semicolon = take_semicolon s line_number s.state
with_piece s line_number (Name name) = elim (appear s line_number name) [
  | (Err e) ↦ Err e
  | (Ok t) ↦ take_name t line_number t.state (number_or_0 (number_of name t.names))
]

-- what tokens are parsed as, or their first error
unfoldable pub with_pieces : Parsed → List (ℕ × Piece) → Result Parsed TextError
with_pieces s [] = Ok s
with_pieces s (piece ∷ rest) = elim (with_piece s piece.0 piece.1) [ (Err e) ↦ Err e | (Ok t) ↦ with_pieces t rest ]
