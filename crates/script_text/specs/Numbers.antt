-- Numbers that words write, with their ranges.
use Rattle.std.specs.Prelude.{ℕ, nat_lt, if◌then◌else◌, List, Option, None, Some, Result, Ok, Err}
use Rattle.text_lines.specs.Lines.{number_in}
use Rattle.text_lines.specs.declared.text_error.TextError.{TextError}
use Rattle.text_lines.specs.declared.text_error.TextError.TheVariants.{Bad}
use Rattle.text_lines.specs.declared.text_error.Reason.TheVariants.{BadNumber}

-- a number that is in its range, or the error of one that is more than the range allows
abbrev pub in_range : ℕ → ℕ → ℕ → TextError → Option ℕ → Result ℕ TextError
in_range line_number least most more None = Err (Bad line_number BadNumber)
in_range line_number least most more (Some n) =
    if nat_lt n least then Err (Bad line_number BadNumber)
    else if nat_lt most n then Err more
    else Ok n

-- the number from a least to a most one that a word writes, or its error
unfoldable pub number_from : ℕ → ℕ → ℕ → TextError → List ℕ → Result ℕ TextError
number_from line_number least most more word = in_range line_number least most more (number_in word)
