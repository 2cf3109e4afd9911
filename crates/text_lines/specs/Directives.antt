-- Lines by their first word.
use Rattle.std.specs.Prelude.{ℕ, Bool, false, ◌&&◌, not, List, [], ◌∷◌}
use Rattle.std.specs.Str.{bytes_eq}
use Rattle.text_lines.specs.Lines.{words, is_comment}

-- whether the first of some words is this one
abbrev pub first_is : List ℕ → List (List ℕ) → Bool
first_is word [] = false
first_is word (first ∷ rest) = bytes_eq first word

-- whether a line begins with this word and is not a comment
abbrev pub is_line_of : List ℕ → List ℕ → Bool
is_line_of word line = not (is_comment line) && first_is word (words line)
