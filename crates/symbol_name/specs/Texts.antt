-- Parts of a text.
use Rattle.std.specs.Prelude.{ℕ, suc, Bool, false, ◌-◌, ◌&&◌, ◌||◌, not, nat_eq, cond, List, [], ◌∷◌, length, take, drop, Option, None, Some, is_some, option_map}
use Rattle.std.specs.Char.{is_ascii_alphanumeric, is_ascii_uppercase, is_ascii_lowercase}
use Rattle.std.specs.List.{list_any, list_all, slice_split, suffix_len}
use Rattle.std.specs.Str.{bytes_eq}

-- what is left of a text behind this beginning
abbrev pub behind : List ℕ → List ℕ → Option (List ℕ)
behind start text = cond (bytes_eq (take (length start) text) start) (Some (drop (length start) text)) None

-- whether a text begins so
abbrev pub begins_with : List ℕ → List ℕ → Bool
begins_with start text = is_some (behind start text)

-- what is left of a text before this end
abbrev pub before : List ℕ → List ℕ → Option (List ℕ)
before end text =
    cond (bytes_eq (drop (length text - length end) text) end) (Some (take (length text - length end) text)) None

-- whether a text ends so
abbrev pub ends_with : List ℕ → List ℕ → Bool
ends_with end text = is_some (before end text)

-- letters, digits and `_`
abbrev pub is_word_byte : ℕ → Bool
is_word_byte b = is_ascii_alphanumeric b || nat_eq b 95

-- one or more of them
abbrev pub is_word : List ℕ → Bool
is_word text = not (nat_eq (length text) 0) && list_all is_word_byte text

-- whether a text begins with a letter of either case
abbrev pub begins_upper : List ℕ → Bool
begins_upper [] = false
begins_upper (b ∷ rest) = is_ascii_uppercase b

abbrev pub begins_lower : List ℕ → Bool
begins_lower [] = false
begins_lower (b ∷ rest) = is_ascii_lowercase b

-- the longest run of bytes that pass at the end of a text, and the text before it
abbrev pub end_run : (ℕ → Bool) → List ℕ → List ℕ
end_run passes text = drop (length text - suffix_len passes text) text

abbrev pub before_run : (ℕ → Bool) → List ℕ → List ℕ
before_run passes text = take (length text - suffix_len passes text) text

-- the offset at which this part first stands in a text; the text's length where it doesn't stand there
unfoldable pub offset_of : List ℕ → List ℕ → ℕ
offset_of part [] = 0
offset_of part (b ∷ rest) = cond (begins_with part (b ∷ rest)) 0 (suc (offset_of part rest))

-- what stands before and behind the part there
abbrev pub cut_at : List ℕ → List ℕ → Option (List ℕ × List ℕ)
cut_at part text = option_map (λ rest. (take (offset_of part text) text, rest)) (behind part (drop (offset_of part text) text))

-- a blank or a line feed
abbrev pub is_separator : ℕ → Bool
is_separator b = nat_eq b 32 || nat_eq b 10

-- whether a name is one of those that stand in a text, parted by blanks and line feeds
abbrev pub is_one_of : List ℕ → List ℕ → Bool
is_one_of names name = list_any (λ one. bytes_eq one name) (slice_split is_separator names)
