-- A line that gives a run of ranks a number, in its usual form: `value`, the run, as `a` or `a-b`, and the number, with
-- one space between.
use Rattle.std.specs.Prelude.{◌≡◌, ◌<◌, ◌||◌, ℕ, ℤ, Bool, true, nat_eq, List, ◌∷◌, ◌++◌, length, take, Some, Result, Ok}
use Rattle.std.specs.Char.{is_ascii_digit}
use Rattle.std.specs.List.{list_all}
use Rattle.std.specs.Str.{IsUtf8}
use Rattle.rank_set.specs.Digits.{value_after}
use Rattle.rank_set.specs.Ranks.{Ranks, none, union, in_order, is_empty, is_subset}
use Rattle.rank_set.specs.RanksText.{ranks_text}
use Rattle.rank_set.specs.Runs.{ranks_between}
use Rattle.rank_set.specs.Text.{dash}
use Rattle.text_lines.specs.Lines.{lines}
use Rattle.text_lines.specs.Parsing.{if_holds}
use Rattle.text_lines.specs.declared.text_error.TextError.{TextError}
use Rattle.text_lines.specs.declared.text_error.TextError.TheVariants.{Bad}
use Rattle.text_lines.specs.declared.text_error.Reason.TheVariants.{Unplaced, ValueTwice}
use Rattle.value_text.specs.Grammar.{GivesNumber}
use Rattle.value_text.specs.Numbers.{Numbers}
use Rattle.value_text.specs.Steps.{valued, with_numbers}
use Rattle.value_text.specs.Words.{number_text}

-- a text begins with digits that write a number, and this is what stands behind the byte that follows them
pub record BeginsWithNumber (text : List ℕ) (n byte : ℕ) (rest : List ℕ) : Type 0 where
  pub word : List ℕ
  pub whole : text ≡ word ++ byte ∷ rest
  pub some : 0 < length word
  pub digits : list_all is_ascii_digit word ≡ true
  pub value : n ≡ value_after 0 word

-- the first n bytes of a text, which has more or as many
pub record IsWindow (n : ℕ) (window text : List ℕ) : Type 0 where
  pub front : window ≡ take n text
  pub long : length window ≡ n

-- the ranks of a run
abbrev pub run_ranks : ℕ → ℕ → Ranks
run_ranks first last = union none (ranks_between first last)

-- whether a byte stands in `a` or `a-b`
abbrev pub is_run_byte : ℕ → Bool
is_run_byte b = is_ascii_digit b || nat_eq b dash

-- a text begins with RANKS, which write a run, and a space, and this is what stands behind that
pub record BeginsWithRun (text : List ℕ) (first last : ℕ) (rest : List ℕ) : Type 0 where
  pub word : List ℕ
  pub whole : text ≡ word ++ 32 ∷ rest
  pub some : 0 < length word
  pub bytes : list_all is_run_byte word ≡ true
  pub read : ranks_text word ≡ Ok (run_ranks first last)

-- a line in UTF-8 that gives a run of ranks a number
pub record GivesRun (line : List ℕ) (first last : ℕ) (z : ℤ) : Type 0 where
  pub utf8 : IsUtf8 line
  pub gives : GivesNumber line (run_ranks first last) z

-- a text begins with NUMBER and a line feed, and this is what stands behind it
pub record EndsLine (text : List ℕ) (z : ℤ) (rest : List ℕ) : Type 0 where
  pub word : List ℕ
  pub whole : text ≡ word ++ 10 ∷ rest
  pub number : number_text word ≡ Some z

-- the first line of a text gives a run of ranks a number, and this is what stands behind the line
pub record BeginsWithValue (text : List ℕ) (first last : ℕ) (z : ℤ) (rest : List ℕ) : Type 0 where
  pub line : List ℕ
  pub front : lines text ≡ line ∷ lines rest
  pub run : GivesRun line first last z

-- some ranks are given a number, where these ranks are on a daemon
abbrev pub with_given : Ranks → Numbers → ℕ → Ranks → ℤ → Result Numbers TextError
with_given placed v line_number ranks z =
    if_holds (is_subset ranks placed) (Bad line_number Unplaced)
    (if_holds (is_empty (valued v ranks)) (Bad line_number ValueTwice)
    (Ok (with_numbers v (in_order ranks) z)))
