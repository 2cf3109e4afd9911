-- Beginnings and ends of texts, and what stands behind them.
use Rattle.std.specs.Prelude.{ℕ, suc, Bool, ◌-◌, ◌&&◌, ◌||◌, nat_eq, nat_lt, nat_le, cond, List, [], ◌∷◌, ◌++◌, length, take, drop, Option, None, Some}
use Rattle.std.specs.Char.{is_ascii_digit}
use Rattle.std.specs.List.{flat_map, list_any, prefix_len}
use Rattle.std.specs.Str.{bytes_eq}
use Rattle.rank_set.specs.Digits.{digits_len, value_after}
use Rattle.stack_text.specs.declared.texts.TheConstants.{NUMBER_LIMIT}

-- whether a text begins with this
abbrev pub begins : List ℕ → List ℕ → Bool
begins start text = bytes_eq (take (length start) text) start

-- what is left of a text behind this beginning
abbrev pub behind : List ℕ → List ℕ → Option (List ℕ)
behind start text = cond (begins start text) (Some (drop (length start) text)) None

-- what is left of a text before this end
abbrev pub before : List ℕ → List ℕ → Option (List ℕ)
before end text =
    cond (bytes_eq (drop (length text - length end) text) end) (Some (take (length text - length end) text)) None

-- what stands in a text before this rest of it
abbrev pub before_rest : List ℕ → List ℕ → List ℕ
before_rest text rest = take (length text - length rest) text

-- a hexadecimal digit, in small letters
abbrev pub is_hex : ℕ → Bool
is_hex b = is_ascii_digit b || (nat_le 97 b && nat_le b 102)

-- how many such digits a text begins with
abbrev pub hex_len : List ℕ → ℕ
hex_len text = prefix_len is_hex text

-- what is left of a text behind hexadecimal digits, of which there is one
abbrev pub behind_hex : List ℕ → Option (List ℕ)
behind_hex text = cond (nat_lt 0 (hex_len text)) (Some (drop (hex_len text) text)) None

-- what is left of a text behind decimal digits, of which there is one
abbrev pub behind_digits : List ℕ → Option (List ℕ)
behind_digits text = cond (nat_lt 0 (digits_len text)) (Some (drop (digits_len text) text)) None

-- the number below the limit that a text begins with, and what is left behind it
abbrev pub number_of : List ℕ → Option (ℕ × List ℕ)
number_of text =
    cond (nat_lt 0 (digits_len text) && nat_lt (value_after 0 (take (digits_len text) text)) NUMBER_LIMIT)
    (Some (value_after 0 (take (digits_len text) text), drop (digits_len text) text)) None

-- how many bytes of a text stand before the first place from which on a test holds of it; all where there is none
unfoldable pub first_where : (List ℕ → Bool) → List ℕ → ℕ
first_where test [] = 0
first_where test (b ∷ rest) = cond (test (b ∷ rest)) 0 (suc (first_where test rest))

-- whether a text has a line feed
abbrev pub has_feed : List ℕ → Bool
has_feed text = list_any (λ b. nat_eq b 10) text

-- lines, each with one line feed behind it
abbrev pub joined : List (List ℕ) → List ℕ
joined lines = flat_map (λ line. line ++ 10 ∷ []) lines
