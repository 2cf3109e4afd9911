-- What a line of a samples text says by its words alone, or why it is not such a line.
use Rattle.std.specs.Prelude.{ℕ, cond, List, [], ◌∷◌, Result, Ok, Err, codes}
use Rattle.std.specs.Str.{bytes_eq, is_utf8}
use Rattle.text_lines.specs.declared.text_error.TextError.{TextError}
use Rattle.text_lines.specs.declared.text_error.TextError.TheVariants.{Bad}
use Rattle.text_lines.specs.declared.text_error.Reason.TheVariants.{NotUtf8, BadDirective}
use Rattle.text_lines.specs.Lines.{words, after_blanks, after_word, says_nothing}

-- nothing, the NAME and RANKS of a daemon, or the TIME, RANKS and PATH of a sample
pub data LineView : Type 0 where
  Nothing : LineView
  Daemon : (name ranks : List ℕ) → LineView
  Stack : (time ranks path : List ℕ) → LineView

-- what follows the word `daemon`: NAME RANKS
abbrev pub daemon_words : ℕ → List (List ℕ) → Result LineView TextError
daemon_words line_number [] = Err (Bad line_number BadDirective)
daemon_words line_number (name ∷ []) = Err (Bad line_number BadDirective)
daemon_words line_number (name ∷ ranks ∷ []) = Ok (Daemon name ranks)
daemon_words line_number (name ∷ ranks ∷ more ∷ words) = Err (Bad line_number BadDirective)

-- PATH, in what follows the word `stack`: the rest of the line after two words and the blanks behind them
abbrev pub path_in : List ℕ → List ℕ
path_in rest = after_blanks (after_word (after_word rest))

-- what follows the word `stack`, and its words: TIME RANKS PATH
abbrev pub stack_words : ℕ → List ℕ → List (List ℕ) → Result LineView TextError
stack_words line_number rest [] = Err (Bad line_number BadDirective)
stack_words line_number rest (time ∷ []) = Err (Bad line_number BadDirective)
stack_words line_number rest (time ∷ ranks ∷ []) = Err (Bad line_number BadDirective)
stack_words line_number rest (time ∷ ranks ∷ path ∷ words) = Ok (Stack time ranks (path_in rest))

-- a line with these words
abbrev pub directive : ℕ → List ℕ → List (List ℕ) → Result LineView TextError
directive line_number line [] = Err (Bad line_number BadDirective)
directive line_number line (word ∷ words) =
    cond (bytes_eq word (codes "daemon")) (daemon_words line_number words)
    (cond (bytes_eq word (codes "stack")) (stack_words line_number (after_word line) words)
    (Err (Bad line_number BadDirective)))

-- a line
unfoldable pub read_line : ℕ → List ℕ → Result LineView TextError
read_line line_number line =
    cond (says_nothing line) (Ok Nothing)
    (cond (is_utf8 line) (directive line_number line (words line))
    (Err (Bad line_number NotUtf8)))
