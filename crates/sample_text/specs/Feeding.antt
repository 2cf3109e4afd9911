-- What a feeder has read of the bytes that it was fed.
use Rattle.std.specs.Prelude.{◌≡◌, ◌≢◌, ℕ, ◌+◌, ◌^◌, ◌<◌, List, ◌++◌, length, Option, Some, None, Ok, Err}
use Rattle.overlay_setup.specs.Topologies.{Nodes}
use Rattle.text_lines.specs.Lines.{lines}
use Rattle.text_lines.specs.Parsing.{parsed_lines}
use Rattle.text_lines.specs.declared.text_error.TextError.{TextError}
use Rattle.text_lines.specs.declared.text_error.TextError.TheVariants.{OutOfMemory}
use Rattle.sample_text.specs.declared.parser.Parser.{Parser}
use Rattle.sample_text.specs.declared.feeder.Feeder.{Feeder}
use Rattle.sample_text.specs.ParserViews.{parser_view, parser_nodes, IsConsistent}
use Rattle.sample_text.specs.Steps.{with_line}
use Rattle.sample_text.specs.Whole.{nothing_parsed}

-- whatever follows a text, it begins a line
abbrev pub EndsLine : List ℕ → Type 0
EndsLine text = (rest : List ℕ) → lines (text ++ rest) ≡ lines text ++ lines rest

-- the lines of a text are parsed, so many
pub record HasParsed (t : Nodes) (parser : Parser) (count : ℕ) (text : List ℕ) : Type 0 where
  pub consistent : IsConsistent parser
  pub nodes : parser_nodes parser ≡ t
  pub ends : EndsLine text
  pub parsed : parsed_lines (with_line t) (nothing_parsed t) 1 (lines text) ≡ Ok (parser_view parser)
  pub counted : count ≡ length (lines text)

-- a text is whole lines that are parsed, and then a line that is cut
pub record IsCut (t : Nodes) (feeder : Feeder) (text : List ℕ) : Type 0 where
  pub whole : List ℕ
  pub joined : text ≡ whole ++ feeder.cut_line.items
  pub parsed : HasParsed t feeder.parser feeder.count whole

-- each text that begins so has this first error
abbrev pub IsRefused : Nodes → TextError → List ℕ → Type 0
IsRefused t e text = (rest : List ℕ) → parsed_lines (with_line t) (nothing_parsed t) 1 (lines (text ++ rest)) ≡ Err e

-- a text was read: up to its last line, or up to an error
abbrev pub ReadsTo : Nodes → Feeder → List ℕ → Option TextError → Type 0
ReadsTo t feeder text None = IsCut t feeder text
ReadsTo t feeder text (Some e) = e ≢ OutOfMemory → IsRefused t e text

-- a feeder has read this text for some nodes
abbrev pub HasRead : Nodes → Feeder → List ℕ → Type 0
HasRead t feeder text = ReadsTo t feeder text feeder.error

-- the nodes that a feeder knows
abbrev pub nodes_of : Feeder → Nodes
nodes_of feeder = parser_nodes feeder.parser

-- ---- the parts of a feed: no clause of a public call cites what follows

-- some text was read without an error, and this piece more is below 2^64 bytes
abbrev pub MayTake : Feeder → List ℕ → Type 0
MayTake feeder piece = (t : Nodes) × ((text : List ℕ) × (IsCut t feeder text × (length text + length piece < 2 ^ 64)))

-- whatever was read before, this piece is read after it
abbrev pub TakesPiece : Feeder → List ℕ → Feeder → Type 0
TakesPiece old piece new = (t : Nodes) (text : List ℕ) → IsCut t old text → IsCut t new (text ++ piece)

-- whatever was read before, with this piece there is this first error
abbrev pub RefusesPiece : Feeder → List ℕ → TextError → Type 0
RefusesPiece old piece e =
    e ≢ OutOfMemory → (t : Nodes) (text : List ℕ) → IsCut t old text → IsRefused t e (text ++ piece)
