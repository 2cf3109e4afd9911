-- How the parser takes a line.
use Rattle.std.specs.Prelude.{◌≡◌, ℕ, List, ◌∷◌}
use Rattle.text_lines.specs.Lines.{lines}
use Rattle.text_lines.specs.Parsing.{TakesBy, RefusesBy}
use Rattle.text_lines.specs.declared.text_error.TextError.{TextError}
use Rattle.sample_text.specs.declared.parser.Parser.{Parser}
use Rattle.sample_text.specs.ParserViews.{parser_view, parser_nodes}
use Rattle.sample_text.specs.Steps.{with_line}

-- a parser takes a line with its number as `with_line` says of its view, and keeps its nodes
abbrev pub takes_line : Parser → ℕ → List ℕ → Parser → Type 0
takes_line = TakesBy parser_nodes parser_view with_line

-- a parser refuses a line with its number as `with_line` says of its view, unless memory runs out
abbrev pub refuses_line : Parser → ℕ → List ℕ → TextError → Type 0
refuses_line = RefusesBy parser_nodes parser_view with_line

-- a parser takes the first line of a text with its number, and this is left of the text
pub record TakesFirstLine (old : Parser) (line_number : ℕ) (text : List ℕ) (new : Parser) (after : List ℕ) : Type 0 where
  pub line : List ℕ
  pub first : lines text ≡ line ∷ lines after
  pub taken : takes_line old line_number line new

-- a parser refuses the first line of a text with its number
pub record RefusesFirstLine (old : Parser) (line_number : ℕ) (text : List ℕ) (e : TextError) : Type 0 where
  pub line : List ℕ
  pub later : List (List ℕ)
  pub first : lines text ≡ line ∷ later
  pub refused : refuses_line old line_number line e
