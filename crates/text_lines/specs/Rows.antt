-- Texts, their lines, words and numbers.
use Rattle.std.specs.Prelude.{◌≡◌, refl, [], ◌∷◌, ◌++◌, codes, true, false, None, Some}
use Rattle.text_lines.specs.Lines.{lines, pieces, words, begins_with_word_and_blank, begins_with_number_and_blank, number_in}

-- no bytes are no line
no_line : lines [] ≡ []
unfolding pieces
no_line = refl

-- a line feed ends an empty line
empty_line : lines (10 ∷ []) ≡ [] ∷ []
unfolding pieces
empty_line = refl

-- a carriage return alone is an empty line's end
return_alone : lines (13 ∷ []) ≡ [] ∷ []
unfolding pieces
return_alone = refl

-- of two carriage returns the first is a byte of the line
two_returns : lines (codes "ab" ++ 13 ∷ 10 ∷ 13 ∷ 13 ∷ 10 ∷ codes "c") ≡ codes "ab" ∷ (13 ∷ []) ∷ codes "c" ∷ []
unfolding pieces
two_returns = refl

-- blanks at both ends of a line mean nothing
three_words : words (codes " daemon  a:0" ++ 9 ∷ codes "0-1 ") ≡ codes "daemon" ∷ codes "a:0" ∷ codes "0-1" ∷ []
unfolding words
three_words = refl

-- a tab is a blank that ends a word
tab_behind : begins_with_word_and_blank (codes "a" ++ 9 ∷ []) ≡ true
tab_behind = refl

-- a line that is one word has no blank behind it
word_alone : begins_with_word_and_blank (codes "stack") ≡ false
word_alone = refl

-- a line that begins with a blank does not begin with a word
blank_in_front : begins_with_word_and_blank (codes " stack 0") ≡ false
blank_in_front = refl

-- a number with zeros in front, and a tab behind
number_in_front : begins_with_number_and_blank 13 (codes "0012" ++ 9 ∷ codes "7") ≡ true
number_in_front = refl

-- a number that is the limit
number_at_limit : begins_with_number_and_blank 12 (codes "12 7") ≡ false
number_at_limit = refl

-- a number with another byte behind it
range_in_front : begins_with_number_and_blank 13 (codes "0-7 a") ≡ false
range_in_front = refl

-- a number that ends the line
number_alone : begins_with_number_and_blank 13 (codes "12") ≡ false
number_alone = refl

-- a blank, and no digit
no_number : begins_with_number_and_blank 13 (codes " 12 7") ≡ false
no_number = refl

-- zeros in front mean nothing
zeros : number_in (codes "0012") ≡ Some 12
zeros = refl

-- a sign is no digit
sign : number_in (codes "-1") ≡ None
sign = refl
