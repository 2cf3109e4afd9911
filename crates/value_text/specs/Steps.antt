-- The numbers of ranks with one line more, or the line's error; and what a values text says.
use Rattle.std.specs.Prelude.{ℕ, zero, suc, ℤ, cond, List, [], ◌∷◌, Option, None, Some, Result, Ok, Err, is_some}
use Rattle.std.specs.Str.{is_utf8}
use Rattle.rank_set.specs.Ranks.{Ranks, in_order, those, is_empty, is_subset}
use Rattle.text_lines.specs.Lines.{lines, words, says_nothing}
use Rattle.text_lines.specs.Parsing.{and_then, parsed_lines, some_or, if_holds}
use Rattle.text_lines.specs.RanksWords.{ranks_on}
use Rattle.text_lines.specs.declared.text_error.TextError.{TextError}
use Rattle.text_lines.specs.declared.text_error.TextError.TheVariants.{Bad}
use Rattle.text_lines.specs.declared.text_error.Reason.TheVariants.{NotUtf8, BadDirective, Unplaced, ValueTwice, BadValue}
use Rattle.value_text.specs.Numbers.{Numbers, number_of}
use Rattle.value_text.specs.Words.{value_words, number_text}

-- a rank has a number, in place of the one it had
abbrev pub with_number : Numbers → ℕ → ℤ → Numbers
with_number [] zero z = Some z ∷ []
with_number [] (suc r) z = None ∷ with_number [] r z
with_number (e ∷ v) zero z = Some z ∷ v
with_number (e ∷ v) (suc r) z = e ∷ with_number v r z

-- each of some ranks has a number
abbrev pub with_numbers : Numbers → List ℕ → ℤ → Numbers
with_numbers v [] z = v
with_numbers v (r ∷ ranks) z = with_number (with_numbers v ranks z) r z

-- those of some ranks that have a number
abbrev pub valued : Numbers → Ranks → Ranks
valued v ranks = those (λ r. is_some (number_of v r)) ranks

-- a line `value RANKS NUMBER`, where these ranks are on a daemon
unfoldable pub with_value : Ranks → Numbers → ℕ → List ℕ → List ℕ → Result Numbers TextError
with_value placed v line_number word number =
    and_then (ranks_on line_number word) (λ ranks.
    if_holds (is_subset ranks placed) (Bad line_number Unplaced)
    (if_holds (is_empty (valued v ranks)) (Bad line_number ValueTwice)
    (and_then (some_or (Bad line_number BadValue) (number_text number)) (λ z.
    Ok (with_numbers v (in_order ranks) z)))))

-- a line by its RANKS and NUMBER, if it has these words
abbrev pub with_words : Ranks → Numbers → ℕ → Option (List ℕ × List ℕ) → Result Numbers TextError
with_words placed v line_number None = Err (Bad line_number BadDirective)
with_words placed v line_number (Some (word, number)) = with_value placed v line_number word number

-- a line with its number
unfoldable pub with_line : Ranks → Numbers → ℕ → List ℕ → Result Numbers TextError
with_line placed v line_number line =
    cond (says_nothing line) (Ok v)
    (cond (is_utf8 line) (with_words placed v line_number (value_words (words line)))
    (Err (Bad line_number NotUtf8)))

-- what a values text says, where these ranks are on a daemon, or its first error
abbrev pub values_of_text : Ranks → List ℕ → Result Numbers TextError
values_of_text placed text = parsed_lines (with_line placed) [] 1 (lines text)
