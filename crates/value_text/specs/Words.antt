-- The words of a line `value RANKS NUMBER`, and the number that NUMBER writes.
use Rattle.std.specs.Prelude.{ℕ, ℤ, pos, neg_ℤ, Bool, ◌&&◌, nat_le, nat_eq, cond, List, [], ◌∷◌, length, min, Option, None, Some, codes}
use Rattle.std.specs.Char.{is_ascii_digit}
use Rattle.std.specs.List.{list_all}
use Rattle.std.specs.Option.{option_map}
use Rattle.std.specs.Str.{bytes_eq}
use Rattle.rank_set.specs.Digits.{value_after}

-- RANKS and NUMBER, where words are those of a line `value RANKS NUMBER`
abbrev pub value_words : List (List ℕ) → Option (List ℕ × List ℕ)
value_words [] = None
value_words (word ∷ []) = None
value_words (word ∷ ranks ∷ []) = None
value_words (word ∷ ranks ∷ number ∷ []) = cond (bytes_eq word (codes "value")) (Some (ranks, number)) None
value_words (word ∷ ranks ∷ number ∷ more ∷ rest) = None

-- whether digits write a size: 1 to 13 of them, from 0 to 1,000,000,000,000
abbrev pub is_size : List ℕ → Bool
is_size digits =
    nat_le 1 (length digits) && nat_le (length digits) 13 && list_all is_ascii_digit digits
    && nat_le (value_after 0 digits) 1000000000000

-- the number that digits write, or the limit where it is more; none where one of the bytes is no digit
abbrev pub capped_value : ℕ → List ℕ → Option ℕ
capped_value limit digits = cond (list_all is_ascii_digit digits) (Some (min limit (value_after 0 digits))) None

-- the size that digits write, none where they write none
abbrev pub size_in : List ℕ → Option ℕ
size_in digits = cond (is_size digits) (Some (value_after 0 digits)) None

-- the number that NUMBER writes, none where it writes none: a size, with or without a `-` before it
unfoldable pub number_text : List ℕ → Option ℤ
number_text [] = None
number_text (b ∷ rest) =
    cond (nat_eq b 45) (option_map (λ size. neg_ℤ (pos size)) (size_in rest)) (option_map pos (size_in (b ∷ rest)))
