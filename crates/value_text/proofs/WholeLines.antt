-- One line more, by its error or what it gives.
use Rattle.std.proofs.Common.{◌≡◌, ℕ, true, false, List, None, Some, Ok, Err, refl}
use Rattle.std.proofs.Math.IntN.{ℤ}
use Rattle.std.specs.Str.{is_utf8}
use Rattle.rank_set.specs.Ranks.{Ranks, in_order, is_empty, is_subset}
use Rattle.text_lines.specs.Lines.{words, says_nothing}
use Rattle.text_lines.specs.RanksWords.{ranks_on}
use Rattle.text_lines.specs.declared.text_error.TextError.{TextError}
use Rattle.text_lines.specs.declared.text_error.TextError.TheVariants.{Bad}
use Rattle.text_lines.specs.declared.text_error.Reason.TheVariants.{NotUtf8, BadDirective, Unplaced, ValueTwice, BadValue}
use Rattle.value_text.specs.Numbers.{Numbers}
use Rattle.value_text.specs.Words.{value_words, number_text}
use Rattle.value_text.specs.Steps.{valued, with_numbers, with_value, with_line}

-- a line `value RANKS NUMBER`
module _ (placed : Ranks) (v : Numbers) (line_number : ℕ) (word number : List ℕ) where
  pub value_bad_ranks : (e : TextError) → ranks_on line_number word ≡ Err e → with_value placed v line_number word number ≡ Err e
  unfolding with_value
  value_bad_ranks e read = rw (read, with_value) refl

  module _ (ranks : Ranks) (read : ranks_on line_number word ≡ Ok ranks) where
    pub value_unplaced : is_subset ranks placed ≡ false → with_value placed v line_number word number ≡ Err (Bad line_number Unplaced)
    unfolding with_value
    value_unplaced within = rw (read, within, with_value) refl

    module _ (within : is_subset ranks placed ≡ true) where
      pub value_twice : is_empty (valued v ranks) ≡ false → with_value placed v line_number word number ≡ Err (Bad line_number ValueTwice)
      unfolding with_value
      value_twice new = rw (read, within, new, with_value) refl

      module _ (new : is_empty (valued v ranks) ≡ true) where
        pub value_bad_number : number_text number ≡ None → with_value placed v line_number word number ≡ Err (Bad line_number BadValue)
        unfolding with_value
        value_bad_number written = rw (read, within, new, written, with_value) refl

        pub value_good : (z : ℤ) → number_text number ≡ Some z → with_value placed v line_number word number ≡ Ok (with_numbers v (in_order ranks) z)
        unfolding with_value
        value_good z written = rw (read, within, new, written, with_value) refl

-- a line
module _ (placed : Ranks) (v : Numbers) (line_number : ℕ) (line : List ℕ) where
  pub line_silent : says_nothing line ≡ true → with_line placed v line_number line ≡ Ok v
  unfolding with_line
  line_silent quiet = rw (quiet, with_line) refl

  module _ (says : says_nothing line ≡ false) where
    pub line_not_utf8 : is_utf8 line ≡ false → with_line placed v line_number line ≡ Err (Bad line_number NotUtf8)
    unfolding with_line
    line_not_utf8 utf8 = rw (says, utf8, with_line) refl

    module _ (utf8 : is_utf8 line ≡ true) where
      pub line_bad_words : value_words (words line) ≡ None → with_line placed v line_number line ≡ Err (Bad line_number BadDirective)
      unfolding with_line
      line_bad_words none = rw (says, utf8, none, with_line) refl

      pub line_of_value : (word number : List ℕ) → value_words (words line) ≡ Some (word, number) → with_line placed v line_number line ≡ with_value placed v line_number word number
      unfolding with_line
      line_of_value word number some = rw (says, utf8, some, with_line) refl
