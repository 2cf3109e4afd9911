-- The ranks that a word of a line writes, or the line's error.
use Rattle.std.specs.Prelude.{ℕ, List, Result, Ok, Err}
use Rattle.rank_set.specs.Ranks.{Ranks}
use Rattle.rank_set.specs.RanksText.{ranks_text}
use Rattle.rank_set.specs.declared.TheConstants.{RANK_LIMIT}
use Rattle.rank_set.specs.declared.read.RanksError.{RanksError}
use Rattle.rank_set.specs.declared.read.RanksError.TheVariants as ranks_error
use Rattle.text_lines.specs.declared.text_error.TextError.{TextError}
use Rattle.text_lines.specs.declared.text_error.TextError.TheVariants.{Bad, Over, OutOfMemory}
use Rattle.text_lines.specs.declared.text_error.Reason.TheVariants.{BadRanks}
use Rattle.text_lines.specs.declared.text_error.Quantity.TheVariants as quantity

-- the error of a line whose RANKS are refused
abbrev pub error_of_ranks : ℕ → RanksError → TextError
error_of_ranks line_number ranks_error.Empty = Bad line_number BadRanks
error_of_ranks line_number (ranks_error.BadNumber place) = Bad line_number BadRanks
error_of_ranks line_number (ranks_error.Backward place) = Bad line_number BadRanks
error_of_ranks line_number (ranks_error.OverLimit place) = Over line_number quantity.Ranks RANK_LIMIT
error_of_ranks line_number ranks_error.OutOfMemory = OutOfMemory

-- RANKS as they are read
abbrev pub ranks_or_error : ℕ → Result Ranks RanksError → Result Ranks TextError
ranks_or_error line_number (Err e) = Err (error_of_ranks line_number e)
ranks_or_error line_number (Ok ranks) = Ok ranks

-- the ranks that RANKS write
unfoldable pub ranks_on : ℕ → List ℕ → Result Ranks TextError
ranks_on line_number word = ranks_or_error line_number (ranks_text word)
