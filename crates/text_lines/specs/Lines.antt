-- The lines of a text, the words of a line, and the numbers that words write.
use Rattle.std.specs.Prelude.{ℕ, Bool, true, false, ◌&&◌, ◌||◌, not, nat_eq, nat_lt, cond, List, [], ◌∷◌, length, map, take, drop, Option, None, Some}
use Rattle.std.specs.Char.{is_ascii_digit}
use Rattle.std.specs.List.{prefix_len, list_all}
use Rattle.rank_set.specs.Digits.{digits_len, value_after}

-- a byte before the first of the pieces
abbrev pub before_first : ℕ → List (List ℕ) → List (List ℕ)
before_first b [] = (b ∷ []) ∷ []
before_first b (piece ∷ pieces) = (b ∷ piece) ∷ pieces

-- a text cut at its line feeds; an empty last piece is no line
unfoldable pub pieces : List ℕ → List (List ℕ)
pieces [] = []
pieces (b ∷ rest) = cond (nat_eq b 10) ([] ∷ pieces rest) (before_first b (pieces rest))

-- a carriage return at the end belongs to the line's end
abbrev pub without_return : List ℕ → List ℕ
without_return [] = []
without_return (b ∷ []) = cond (nat_eq b 13) [] (b ∷ [])
without_return (b ∷ c ∷ rest) = b ∷ without_return (c ∷ rest)

-- the lines of a text: line 1 is the first
abbrev pub lines : List ℕ → List (List ℕ)
lines text = map without_return (pieces text)

-- spaces and tabs
abbrev pub is_blank : ℕ → Bool
is_blank b = nat_eq b 32 || nat_eq b 9

-- whether a word ends before this
abbrev pub ends_word : List ℕ → Bool
ends_word [] = true
ends_word (b ∷ rest) = is_blank b

-- the longest runs of bytes that are no blanks
unfoldable pub words : List ℕ → List (List ℕ)
words [] = []
words (b ∷ rest) =
    cond (is_blank b) (words rest) (cond (ends_word rest) ((b ∷ []) ∷ words rest) (before_first b (words rest)))

-- how many bytes the line that a text begins with has
abbrev pub line_len : List ℕ → ℕ
line_len text = prefix_len (λ b. not (nat_eq b 10)) text

-- how many bytes the word that a text begins with has
abbrev pub word_len : List ℕ → ℕ
word_len text = prefix_len (λ b. not (is_blank b)) text

-- how many blanks a text begins with
abbrev pub blanks_len : List ℕ → ℕ
blanks_len text = prefix_len is_blank text

-- what is left after the blanks that a line begins with
abbrev pub after_blanks : List ℕ → List ℕ
after_blanks line = drop (blanks_len line) line

-- what is left just after a line's first word
abbrev pub after_word : List ℕ → List ℕ
after_word line = drop (word_len (after_blanks line)) (after_blanks line)

-- whether a line begins with a word that a blank follows
abbrev pub begins_with_word_and_blank : List ℕ → Bool
begins_with_word_and_blank line = nat_lt 0 (word_len line) && nat_lt (word_len line) (length line)

-- whether a text begins with a blank
abbrev pub begins_with_blank : List ℕ → Bool
begins_with_blank [] = false
begins_with_blank (b ∷ rest) = is_blank b

-- whether a line begins with a number below a limit that a blank follows
abbrev pub begins_with_number_and_blank : ℕ → List ℕ → Bool
begins_with_number_and_blank limit line =
    begins_with_blank (drop (digits_len line) line) && nat_lt (value_after 0 (take (digits_len line) line)) limit && nat_lt 0 (digits_len line)

-- whether there are no words
abbrev pub are_none : List (List ℕ) → Bool
are_none [] = true
are_none (word ∷ rest) = false

-- whether a text begins with `#`
abbrev pub is_comment : List ℕ → Bool
is_comment [] = false
is_comment (b ∷ rest) = nat_eq b 35

-- whether a line says nothing: a comment, or no word
abbrev pub says_nothing : List ℕ → Bool
says_nothing line = is_comment line || are_none (words line)

-- the number that a word writes; none where it is not one or more digits
abbrev pub number_in : List ℕ → Option ℕ
number_in word = cond (nat_eq (length word) 0 || not (list_all is_ascii_digit word)) None (Some (value_after 0 word))
