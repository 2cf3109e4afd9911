-- Texts of lines, and lines of words.
use Rattle.std.proofs.Common.{◌≡◌, ℕ, zero, suc, ◌<◌, Bool, true, false, not, cond, nat_eq, ◌^◌, List, [], ◌∷◌, ◌++◌, length, drop, map, Some, refl, sym, ap, ◌∙◌, arith, append_assoc, append-nil, length-append}
use Rattle.std.specs.Char.{is_ascii_digit}
use Rattle.std.specs.Fmt.{decimal}
use Rattle.std.specs.List.{list_all, AllByRecursion}
use Rattle.std.specs.Str.{IsAscii, IsUtf8}
use Rattle.std.proofs.Math.Seq.{drop-append_seam}
use Rattle.std.proofs.lemmas.Bool.{and_parts}
use Rattle.std.proofs.lemmas.Bool.Decides.{nat_tests}
use Rattle.std.proofs.lemmas.Fmt.{decimal_nonempty}
use Rattle.std.proofs.lemmas.Str.{IsUtf8-from_ascii}
use Rattle.text_lines.specs.Lines.{pieces, before_first, without_return, lines, is_blank, ends_word, words, word_len, after_blanks, after_word, number_in}
use Rattle.generated_job.specs.Texts.{text_of, line_of}
use Rattle.generated_job.specs.Written.{IsWord, IsLine, is_printable, is_graphic}
use Rattle.generated_job.proofs.Names.{decimal_digits, decimal_value}
use Rattle.generated_job.proofs.Tokens.{prefix_stops, and_all}

pub all_both : (p : ℕ → Bool) (xs ys : List ℕ) → list_all p xs ≡ true → list_all p ys ≡ true → list_all p (xs ++ ys) ≡ true
all_both p [] ys first second = second
all_both p (x ∷ xs) ys first second = let parts = and_parts (p x) (list_all p xs) first in and_all (p x) _ parts.0 (all_both p xs ys parts.1 second)

pub all_weaker : (p q : ℕ → Bool) → ((b : ℕ) → p b ≡ true → q b ≡ true) → (xs : List ℕ) → list_all p xs ≡ true → list_all q xs ≡ true
all_weaker p q weaker [] all = refl
all_weaker p q weaker (x ∷ xs) all = let parts = and_parts (p x) (list_all p xs) all in and_all (q x) _ (weaker x parts.0) (all_weaker p q weaker xs parts.1)

-- ---- the lines of a text

no_feed : (b : ℕ) → is_printable b ≡ true → nat_eq b 10 ≡ false
no_feed b e = grind (arith, nat_tests)

no_return : (b : ℕ) → is_printable b ≡ true → nat_eq b 13 ≡ false
no_return b e = grind (arith, nat_tests)

first_piece : (line rest : List ℕ) → IsLine line → pieces (line ++ 10 ∷ rest) ≡ line ∷ pieces rest
unfolding pieces
first_piece [] rest good = refl
first_piece (b ∷ line) rest good =
    let parts = and_parts (is_printable b) (list_all is_printable line) good in
    rw (no_feed b parts.0, pieces) (ap (before_first b) (first_piece line rest parts.1))

nothing_off : (line : List ℕ) → IsLine line → without_return line ≡ line
nothing_off [] good = refl
nothing_off (b ∷ []) good = rw (no_return b (and_parts (is_printable b) true good).0) refl
nothing_off (b ∷ c ∷ line) good = ap (λ t. b ∷ t) (nothing_off (c ∷ line) (and_parts (is_printable b) (list_all is_printable (c ∷ line)) good).1)

no_pieces : pieces [] ≡ []
unfolding pieces
no_pieces = refl

-- a text of lines has just these lines
pub lines_are : (ls : List (List ℕ)) → AllByRecursion IsLine ls → lines (text_of ls) ≡ ls
lines_are [] good = ap (map without_return) no_pieces
lines_are (line ∷ ls) good =
    ap lines (append_assoc line (10 ∷ []) (text_of ls))
    ∙ ap (map without_return) (first_piece line (text_of ls) good.0)
    ∙ (λ i. nothing_off line good.0 i ∷ lines_are ls good.1 i)

-- ---- the words of a line

no_blank : (b : ℕ) → is_graphic b ≡ true → is_blank b ≡ false
no_blank b e = grind (arith, nat_tests)

word_here : (b : ℕ) (word rest : List ℕ) → list_all is_graphic (b ∷ word) ≡ true → ends_word rest ≡ true → words ((b ∷ word) ++ rest) ≡ (b ∷ word) ∷ words rest
unfolding words
word_here b [] rest good ends = rw (no_blank b (and_parts (is_graphic b) true good).0, ends, words) refl
word_here b (c ∷ word) rest good ends =
    let parts = and_parts (is_graphic b) (list_all is_graphic (c ∷ word)) good in
    rw (no_blank b parts.0, words) (more (is_blank c) (no_blank c (and_parts (is_graphic c) (list_all is_graphic word) parts.1).0) (word_here c word rest parts.1 ends))
  where
    more : (t : Bool) → t ≡ false → words ((c ∷ word) ++ rest) ≡ (c ∷ word) ∷ words rest → cond t ((b ∷ []) ∷ words ((c ∷ word) ++ rest)) (before_first b (words ((c ∷ word) ++ rest))) ≡ (b ∷ c ∷ word) ∷ words rest
    more true e same = cc
    more false e same = ap (before_first b) same

next_word : (word rest : List ℕ) → IsWord word → ends_word rest ≡ true → words (word ++ rest) ≡ word ∷ words rest
next_word [] rest good ends = absurd (omega (arith, good.0))
next_word (b ∷ word) rest good ends = word_here b word rest good.1 ends

past_blank : (rest : List ℕ) → words (32 ∷ rest) ≡ words rest
unfolding words
past_blank rest = refl

no_words : words [] ≡ []
unfolding words
no_words = refl

-- a line of words has just these words
pub words_are : (ws : List (List ℕ)) → AllByRecursion IsWord ws → words (line_of ws) ≡ ws
words_are [] good = no_words
words_are (word ∷ []) good = ap words (sym (append-nil word)) ∙ next_word word [] good.0 refl ∙ ap (λ t. word ∷ t) no_words
words_are (word ∷ more ∷ ws) good = next_word word (32 ∷ line_of (more ∷ ws)) good.0 refl ∙ ap (λ t. word ∷ t) (past_blank (line_of (more ∷ ws)) ∙ words_are (more ∷ ws) good.1)

graphic_printed : (b : ℕ) → is_graphic b ≡ true → is_printable b ≡ true
graphic_printed b e = grind (arith, nat_tests)

-- a line of words is a line
pub line_good : (ws : List (List ℕ)) → AllByRecursion IsWord ws → IsLine (line_of ws)
line_good [] good = refl
line_good (word ∷ []) good = all_weaker is_graphic is_printable graphic_printed word good.0.1
line_good (word ∷ more ∷ ws) good = all_both is_printable word (32 ∷ line_of (more ∷ ws)) (all_weaker is_graphic is_printable graphic_printed word good.0.1) (line_good (more ∷ ws) good.1)

ascii_from : (line : List ℕ) → IsLine line → IsAscii line
ascii_from [] good i = omega arith
ascii_from (b ∷ line) good zero = low b (and_parts (is_printable b) (list_all is_printable line) good).0
  where
    low : (b : ℕ) → is_printable b ≡ true → b < 128
    low b e = grind (arith, nat_tests)
ascii_from (b ∷ line) good (suc i) = ascii_from line (and_parts (is_printable b) (list_all is_printable line) good).1 i

pub line_utf8 : (line : List ℕ) → IsLine line → IsUtf8 line
line_utf8 line good = IsUtf8-from_ascii line (ascii_from line good)

-- ---- what is left after words

no_blanks : (word rest : List ℕ) → IsWord word → after_blanks (word ++ rest) ≡ word ++ rest
no_blanks [] rest good = absurd (omega (arith, good.0))
no_blanks (b ∷ word) rest good = rw (no_blank b (and_parts (is_graphic b) (list_all is_graphic word) good.1).0) refl

one_blank : (word rest : List ℕ) → IsWord word → after_blanks (32 ∷ word ++ rest) ≡ word ++ rest
one_blank [] rest good = absurd (omega (arith, good.0))
one_blank (b ∷ word) rest good = rw (no_blank b (and_parts (is_graphic b) (list_all is_graphic word) good.1).0) refl

not_blank : (b : ℕ) → is_graphic b ≡ true → not (is_blank b) ≡ true
not_blank b e = ap not (no_blank b e)

word_off : (word rest : List ℕ) → IsWord word → drop (word_len (word ++ 32 ∷ rest)) (word ++ 32 ∷ rest) ≡ 32 ∷ rest
word_off word rest good =
    ap (λ n. drop n (word ++ 32 ∷ rest)) (prefix_stops (λ b. not (is_blank b)) word 32 rest (all_weaker is_graphic (λ b. not (is_blank b)) not_blank word good.1) refl)
    ∙ drop-append_seam word (32 ∷ rest)

-- the first word, and one behind a blank
pub first_off : (word rest : List ℕ) → IsWord word → after_word (word ++ 32 ∷ rest) ≡ 32 ∷ rest
first_off word rest good = ap (λ t. drop (word_len t) t) (no_blanks word (32 ∷ rest) good) ∙ word_off word rest good

pub next_off : (word rest : List ℕ) → IsWord word → after_word (32 ∷ word ++ 32 ∷ rest) ≡ 32 ∷ rest
next_off word rest good = ap (λ t. drop (word_len t) t) (one_blank word (32 ∷ rest) good) ∙ word_off word rest good

pub last_left : (word : List ℕ) → IsWord word → after_blanks (32 ∷ word) ≡ word
last_left word good = ap (λ t. after_blanks (32 ∷ t)) (sym (append-nil word)) ∙ one_blank word [] good ∙ append-nil word

-- ---- words that are numbers, or end in one

digit_graphic : (d : ℕ) → is_ascii_digit d ≡ true → is_graphic d ≡ true
digit_graphic d e = grind (arith, nat_tests)

pub decimal_graphic : (n : ℕ) → n < 2 ^ 64 → list_all is_graphic (decimal n) ≡ true
decimal_graphic n small = all_weaker is_ascii_digit is_graphic digit_graphic (decimal n) (decimal_digits n small)

pub decimal_word : (n : ℕ) → n < 2 ^ 64 → IsWord (decimal n)
decimal_word n small = (decimal_nonempty n small, decimal_graphic n small)

pub numbered_word : (word : List ℕ) (n : ℕ) → IsWord word → n < 2 ^ 64 → IsWord (word ++ decimal n)
numbered_word word n good small = (omega (arith, good.0, length-append word (decimal n)), all_both is_graphic word (decimal n) good.1 (decimal_graphic n small))

-- the number that decimal digits write
pub number_is : (n : ℕ) → n < 2 ^ 64 → number_in (decimal n) ≡ Some n
number_is n small = rw (no_none (length (decimal n)) (decimal_nonempty n small)) (rw (decimal_digits n small) (ap Some (decimal_value n small)))
  where
    no_none : (k : ℕ) → 0 < k → nat_eq k 0 ≡ false
    no_none k some = grind (arith, nat_tests)
