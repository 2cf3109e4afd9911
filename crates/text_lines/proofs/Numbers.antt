-- The number that a line begins with, where a blank follows it.
use Rattle.std.proofs.Common.{rules, ◌≡◌, ◌∙◌, ℕ, suc, ◌+◌, ◌<◌, Bool, true, false, not, cond, List, [], ◌∷◌, length, take, drop, drop-cons, drop-drop, get_or, min, Some, None, refl, sym, ap, arith, ne_eqb}
use Rattle.std.specs.Char.{is_ascii_digit}
use Rattle.std.specs.List.{list_all}
use Rattle.std.specs.Prelude.{◌||◌}
use Rattle.std.proofs.lemmas.List.{length-drop}
use Rattle.std.proofs.lemmas.List.Folds.{length-prefix_len}
use Rattle.std.proofs.lemmas.List.Sums.{prefix_len_is, prefix_len_passes}
use Rattle.rank_set.specs.Digits.{digits_len, value_after}
use Rattle.text_lines.specs.Lines.{is_blank, words, word_len, after_blanks, after_word, number_in}
use Rattle.text_lines.proofs.Cuts.{word_cut, rest_cut}

-- a digit is no blank
digit_no_blank : (b : ℕ) → is_ascii_digit b ≡ true → not (is_blank b) ≡ true
digit_no_blank b digit = search rules

-- the digits that a text begins with are digits
all_digits : (text : List ℕ) → list_all is_ascii_digit (take (digits_len text) text) ≡ true
all_digits [] = refl
all_digits (b ∷ rest) = by (is_ascii_digit b) refl (all_digits rest)
  where
    by : (t : Bool) → is_ascii_digit b ≡ t → list_all is_ascii_digit (take (digits_len rest) rest) ≡ true → list_all is_ascii_digit (take (cond t (1 + digits_len rest) 0) (b ∷ rest)) ≡ true
    by true e all = let n : 1 + digits_len rest ≡ suc (digits_len rest) = omega arith in ap (λ n. list_all is_ascii_digit (take n (b ∷ rest))) n ∙ rw e all
    by false e all = refl

-- a line is cut after its first digits, before a blank
module _ (line : List ℕ) (len : ℕ) (b : ℕ) (rest : List ℕ) (digits : len ≡ digits_len line) (some : 0 < len) (cut : drop len line ≡ b ∷ rest) (blank : is_blank b ≡ true) where
  inside : len < length line
  inside = let all = ap length cut in let left = length-drop len line in omega (arith, all, left)

  pub word_is : word_len line ≡ len
  word_is =
      prefix_len_is (λ c. not (is_blank c)) line len 0 (omega (arith, inside))
      (λ k lt. digit_no_blank (get_or line k 0) (prefix_len_passes is_ascii_digit line k 0 (omega (arith, digits, lt))))
      (λ _. let here = sym (drop-cons line len 0 inside) ∙ cut in let same : get_or line len 0 ≡ b = cc in ap (λ c. not (is_blank c)) same ∙ ap not blank)

  has_word : 0 < word_len line
  has_word = omega (arith, word_is, some)

  is_cut : drop (word_len line) line ≡ b ∷ rest
  is_cut = ap (λ n. drop n line) word_is ∙ cut

  pub number_words : words line ≡ take (word_len line) line ∷ words rest
  number_words = word_cut line b rest has_word is_cut

  pub number_rest : after_blanks (after_word line) ≡ after_blanks rest
  number_rest = rest_cut line b rest has_word is_cut

  pub number_behind : rest ≡ drop (word_len line + 1) line
  number_behind = sym (ap (drop 1) is_cut) ∙ drop-drop 1 (word_len line) line

  -- the word writes a number below the limit
  pub number_is : (number limit : ℕ) → number ≡ min limit (value_after 0 (take (digits_len line) line)) → number < limit → number_in (take (word_len line) line) ≡ Some number
  number_is number limit value below =
      let same : word_len line ≡ digits_len line = word_is ∙ digits in
      let word = take (digits_len line) line in
      let long : length word ≡ digits_len line = length-prefix_len is_ascii_digit line in
      let less : value_after 0 word ≡ number = omega (arith, value, below) in
      ap (λ n. number_in (take n line)) same
      ∙ ap (λ t. cond (t || not (list_all is_ascii_digit word)) None (Some (value_after 0 word))) (ne_eqb (length word) 0 (λ e. omega (arith, e, long, digits, some)))
      ∙ ap (λ t. cond (not t) None (Some (value_after 0 word))) (all_digits line)
      ∙ ap Some less
