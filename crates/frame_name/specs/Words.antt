-- The user's words for names. A `*` at a word's beginning or end stands for any bytes, and each other byte for itself.
use Rattle.std.specs.Prelude.{ℕ, Bool, ◌-◌, cond, List, length, take, drop, codes}
use Rattle.std.specs.List.{list_any}
use Rattle.std.specs.Str.{bytes_eq}
use Rattle.frame_name.specs.Texts.{begins_with, closes_with, contains}

-- whether a word has a `*` at its beginning, and what stands behind it
abbrev pub has_star_before : List ℕ → Bool
has_star_before word = begins_with (codes "*") word

abbrev pub behind_star : List ℕ → List ℕ
behind_star word = drop 1 word

-- whether a word has a `*` at its end, and what stands before it
abbrev pub has_star_behind : List ℕ → Bool
has_star_behind word = closes_with (codes "*") word

abbrev pub before_star : List ℕ → List ℕ
before_star word = take (length word - 1) word

-- a word fits a text that it is; with a `*` behind it, one that begins with it
abbrev pub fits_from_start : List ℕ → List ℕ → Bool
fits_from_start word text = cond (has_star_behind word) (begins_with (before_star word) text) (bytes_eq word text)

-- with a `*` before it, one that ends with it; with one on both sides, one that contains it
abbrev pub fits_anywhere : List ℕ → List ℕ → Bool
fits_anywhere word text = cond (has_star_behind word) (contains (before_star word) text) (closes_with word text)

abbrev pub word_fits : List ℕ → List ℕ → Bool
word_fits word text = cond (has_star_before word) (fits_anywhere (behind_star word) text) (fits_from_start word text)

-- one of the words fits
abbrev pub any_fits : List (List ℕ) → List ℕ → Bool
any_fits words text = list_any (λ word. word_fits word text) words
