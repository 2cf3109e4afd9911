-- Numbers in their ranges, where a word's number is known up to a limit.
use Rattle.std.proofs.Common.{◌≡◌, ℕ, ◌+◌, ◌<◌, ◌≤◌, min, List, Option, None, Some, Ok, Err, refl, option_map, arith}
use Rattle.std.proofs.lemmas.Bool.{lt-ltb, le-ltb}
use Rattle.text_lines.specs.Lines.{number_in}
use Rattle.text_lines.specs.declared.text_error.TextError.{TextError}
use Rattle.text_lines.specs.declared.text_error.TextError.TheVariants.{Bad}
use Rattle.text_lines.specs.declared.text_error.Reason.TheVariants.{BadNumber}
use Rattle.script_text.specs.Numbers.{in_range, number_from}

module _ (line least most : ℕ) (more : TextError) where
  none_by : (o : Option ℕ) → None ≡ option_map (min (most + 1)) o → in_range line least most more o ≡ Err (Bad line BadNumber)
  none_by None e = refl
  none_by (Some m) e = cc

  less_by : (n : ℕ) (o : Option ℕ) → Some n ≡ option_map (min (most + 1)) o → n < least → least ≤ most → in_range line least most more o ≡ Err (Bad line BadNumber)
  less_by n None e low order = cc
  less_by n (Some m) e low order = let h : n ≡ min (most + 1) m = cc in rw (lt-ltb m least (omega arith)) refl

  more_by : (n : ℕ) (o : Option ℕ) → Some n ≡ option_map (min (most + 1)) o → most < n → least ≤ n → least ≤ most → in_range line least most more o ≡ Err more
  more_by n None e high low order = cc
  more_by n (Some m) e high low order = let h : n ≡ min (most + 1) m = cc in rw (le-ltb m least (omega arith)) (rw (lt-ltb most m (omega arith)) refl)

  good_by : (n : ℕ) (o : Option ℕ) → Some n ≡ option_map (min (most + 1)) o → least ≤ n → n ≤ most → in_range line least most more o ≡ Ok n
  good_by n None e low high = cc
  good_by n (Some m) e low high = let h : n ≡ min (most + 1) m = cc in let s : m ≡ n = omega arith in rw s (rw (le-ltb n least (omega arith)) (rw (le-ltb most n (omega arith)) refl))

  module _ (word : List ℕ) where
    -- a word that writes no number
    pub number_none : None ≡ option_map (min (most + 1)) (number_in word) → number_from line least most more word ≡ Err (Bad line BadNumber)
    unfolding number_from
    number_none e = none_by (number_in word) e

    -- a number that is too small
    pub number_less : (n : ℕ) → Some n ≡ option_map (min (most + 1)) (number_in word) → n < least → least ≤ most → number_from line least most more word ≡ Err (Bad line BadNumber)
    unfolding number_from
    number_less n e low order = less_by n (number_in word) e low order

    -- a number that is too large
    pub number_more : (n : ℕ) → Some n ≡ option_map (min (most + 1)) (number_in word) → most < n → least ≤ n → least ≤ most → number_from line least most more word ≡ Err more
    unfolding number_from
    number_more n e high low order = more_by n (number_in word) e high low order

    -- a number in its range
    pub number_good : (n : ℕ) → Some n ≡ option_map (min (most + 1)) (number_in word) → least ≤ n → n ≤ most → number_from line least most more word ≡ Ok n
    unfolding number_from
    number_good n e low high = good_by n (number_in word) e low high
