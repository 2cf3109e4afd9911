-- What the code's values and its parser mean.
use Rattle.std.specs.Prelude.{◌≡◌, ◌≤◌, ◌<◌, ◌≤ℤ◌, ℕ, zero, suc, ℤ, pos, neg_ℤ, List, [], ◌∷◌, length, map, slice_index_or, slice_get, Option, None, Some}
use Rattle.rank_set.specs.Ranks.{Ranks, Has}
use Rattle.text_lines.specs.Parsing.{TakesBy, RefusesBy}
use Rattle.text_lines.specs.declared.text_error.TextError.{TextError}
use Rattle.value_text.specs.Numbers.{Numbers}
use Rattle.value_text.specs.Steps.{with_line}
use Rattle.value_text.specs.declared.parser.Parser.{Parser}

-- the number that an entry stands for: 0 for none, and k + 1 for the k-th of the numbers
abbrev pub number_at : List ℤ → ℕ → Option ℤ
number_at numbers zero = None
number_at numbers (suc k) = slice_get numbers k

-- a number, or none, before others; nothing where that would be none alone
abbrev pub number_before : Option ℤ → Numbers → Numbers
number_before None [] = []
number_before None (e ∷ v) = None ∷ e ∷ v
number_before (Some z) v = Some z ∷ v

-- the numbers of ranks up to the last that has one
abbrev pub up_to_last : Numbers → Numbers
up_to_last [] = []
up_to_last (e ∷ v) = number_before e (up_to_last v)

-- the numbers of ranks by their entries
abbrev pub numbers_view : List ℕ → List ℤ → Numbers
numbers_view entries numbers = up_to_last (map (number_at numbers) entries)

-- numbers from -1,000,000,000,000 to 1,000,000,000,000, and entries that stand for one of them or for none
pub record AreEntries (entries : List ℕ) (numbers : List ℤ) : Type 0 where
  pub within : (r : ℕ) → slice_index_or entries r 0 ≤ length numbers
  pub small : (k : ℕ) (z : ℤ) → slice_get numbers k ≡ Some z →
      (neg_ℤ (pos 1000000000000) ≤ℤ z) × (z ≤ℤ pos 1000000000000)

-- the numbers so far
abbrev pub parser_view : Parser → Numbers
parser_view parser = numbers_view parser.entries parser.numbers.items

-- the ranks that are on a daemon
abbrev pub parser_placed : Parser → Ranks
parser_placed parser = parser.placed.now

-- each rank of a run is one of these
abbrev pub HasRun : Ranks → ℕ → ℕ → Type 0
HasRun ranks first last = (r : ℕ) → first ≤ r → r ≤ last → Has r ranks

-- each rank of a run has this entry
abbrev pub HasEntry : List ℕ → ℕ → ℕ → ℕ → Type 0
HasEntry entries first last entry = (r : ℕ) → first ≤ r → r ≤ last → slice_index_or entries r 0 ≡ entry

-- each rank that is on a daemon has an entry, and a run of these ranks is known
pub record IsConsistent (parser : Parser) : Type 0 where
  pub room : (r : ℕ) → Has r parser.placed.now → r < length parser.entries
  pub run : HasRun parser.placed.now parser.first_run.first parser.first_run.last
  pub entries : AreEntries parser.entries parser.numbers.items

-- the parser takes a line
abbrev pub takes_line : Parser → ℕ → List ℕ → Parser → Type 0
takes_line = TakesBy parser_placed parser_view with_line

-- the parser refuses a line because of an error
abbrev pub refuses_line : Parser → ℕ → List ℕ → TextError → Type 0
refuses_line = RefusesBy parser_placed parser_view with_line
