-- The words of a line, and that what is left of a line is UTF-8 as the line is.
use Rattle.std.proofs.Common.{◌≡◌, ◌∙◌, ℕ, suc, ◌+◌, ◌-◌, ◌<◌, ◌≤◌, Bool, true, false, cond, not, ◌||◌, nat_eq, List, [], ◌∷◌, length, drop, get_or, Ok, Err, refl, sym, ap, subst, arith}
use Rattle.std.proofs.lemmas.Bool.Decides.{nat_tests}
use Rattle.std.specs.Str.{IsUtf8, is_utf8, IsCharBoundary}
use Rattle.std.proofs.lemmas.Str.{IsUtf8-from_is_utf8, is_utf8-from_IsUtf8, IsUtf8-drop, IsCharBoundary-after_ascii, IsCharBoundary-from_drop}
use Rattle.std.proofs.lemmas.List.{drop-drop, length-drop}
use Rattle.std.proofs.lemmas.List.Sums.{prefix_len-le-length, prefix_len_stops}
use Rattle.text_lines.specs.Lines.{words, is_blank, blanks_len, word_len, after_blanks, after_word, says_nothing, is_comment, are_none}
use Rattle.text_lines.specs.declared.text_error.TextError.TheVariants.{Bad}
use Rattle.text_lines.specs.declared.text_error.Reason.TheVariants.{NotUtf8, BadDirective}
use Rattle.text_lines.proofs.Cuts.{past_blanks, no_words, word_here}
use Rattle.sample_text.specs.Words.{Nothing, Stack, stack_words, directive, read_line}

-- three words, where the first two are read
module _ (number : ℕ) (line time ranks first second : List ℕ) (one : words line ≡ time ∷ words first) (two : words first ≡ ranks ∷ words second) where
  by_words : (ws : List (List ℕ)) → words second ≡ ws → stack_words number line (words line) ≡ stack_words number line (time ∷ ranks ∷ ws)
  by_words ws e = ap (stack_words number line) (one ∙ ap (λ ws. time ∷ ws) (two ∙ ap (λ ws. ranks ∷ ws) e))

  -- nothing stands behind them
  pub no_path : length (after_blanks second) ≡ 0 → stack_words number line (words line) ≡ Err (Bad number BadDirective)
  no_path none = by_words [] (past_blanks second ∙ no_words (after_blanks second) none)

  -- something stands behind them
  pub some_path : (path : List ℕ) → first ≡ after_word line → second ≡ after_word first → path ≡ after_blanks second → 0 < length path → stack_words number line (words line) ≡ Ok (Stack time ranks path)
  some_path path is_first is_second is some =
      by_words _ (word_here second (subst (λ p. 0 < length p) is some))
      ∙ ap (λ p. Ok (Stack time ranks p)) (sym (is ∙ ap after_blanks (is_second ∙ ap after_word is_first)))

blank_is_ascii : (b : ℕ) → is_blank b ≡ true → b < 128
blank_is_ascii b e = grind (arith, nat_tests)

past_one : (b : ℕ) (rest : List ℕ) → b < 128 → IsUtf8 (b ∷ rest) → IsUtf8 rest
past_one b rest ascii good = IsUtf8-drop (b ∷ rest) 1 good (IsCharBoundary-after_ascii (b ∷ rest) 0 good (omega arith) ascii)

-- what is left after blanks
pub blanks_utf8 : (line : List ℕ) → IsUtf8 line → IsUtf8 (after_blanks line)
blanks_utf8 [] good = good
blanks_utf8 (b ∷ rest) good = by (is_blank b) refl (blanks_utf8 rest)
  where
    by : (t : Bool) → is_blank b ≡ t → (IsUtf8 rest → IsUtf8 (after_blanks rest)) → IsUtf8 (drop (cond t (1 + blanks_len rest) 0) (b ∷ rest))
    by true e more = let n : suc (blanks_len rest) ≡ 1 + blanks_len rest = omega arith in subst (λ k. IsUtf8 (drop k (b ∷ rest))) n (more (past_one b rest (blank_is_ascii b e) good))
    by false e more = good

not_false : (b : Bool) → not b ≡ false → b ≡ true
not_false true e = refl
not_false false e = cc

word_boundary : (line : List ℕ) → IsUtf8 line → IsCharBoundary line (word_len line)
word_boundary line good = (
  prefix_len-le-length (λ b. not (is_blank b)) line,
  λ lt big. absurd (let ascii = blank_is_ascii (get_or line (word_len line) 0) (not_false (is_blank (get_or line (word_len line) 0)) (prefix_len_stops (λ b. not (is_blank b)) line 0 lt)) in omega (arith, ascii, big)),
)

-- what is left after a word
pub word_utf8 : (line : List ℕ) → IsUtf8 line → IsUtf8 (after_word line)
word_utf8 line good = let rest = blanks_utf8 line good in IsUtf8-drop (after_blanks line) (word_len (after_blanks line)) rest (word_boundary (after_blanks line) rest)

-- something is left
pub some_left : (text : List ℕ) → nat_eq (length text) 0 ≡ false → 0 < length text
some_left text e = grind (arith, nat_tests)

module _ (number : ℕ) (line : List ℕ) where
  -- a line that says nothing
  pub line_of_nothing : says_nothing line ≡ true → read_line number line ≡ Ok Nothing
  unfolding read_line
  line_of_nothing e = ap (λ b. cond b (Ok Nothing) (cond (is_utf8 line) (directive number line (words line)) (Err (Bad number NotUtf8)))) e

  -- a line that is not UTF-8
  pub not_utf8 : says_nothing line ≡ false → (IsUtf8 line → ⊥) → read_line number line ≡ Err (Bad number NotUtf8)
  unfolding read_line
  not_utf8 e wrong = (λ i. cond (e i) (Ok Nothing) (cond (test i) (directive number line (words line)) (Err (Bad number NotUtf8))))
    where
      by : (b : Bool) → is_utf8 line ≡ b → b ≡ false
      by true is = absurd (wrong (IsUtf8-from_is_utf8 line is))
      by false is = refl

      test : is_utf8 line ≡ false
      test = by (is_utf8 line) refl

  -- a line of words
  pub line_of_words : says_nothing line ≡ false → IsUtf8 line → read_line number line ≡ directive number line (words line)
  unfolding read_line
  line_of_words e good = (λ i. cond (e i) (Ok Nothing) (cond (is_utf8-from_IsUtf8 line good i) (directive number line (words line)) (Err (Bad number NotUtf8))))

-- a line of words says something
pub says_words : (line word : List ℕ) (rest : List (List ℕ)) → is_comment line ≡ false → words line ≡ word ∷ rest → says_nothing line ≡ false
says_words line word rest comment is = (λ i. comment i || are_none (is i))

-- the end of a line from one of its bytes on
IsEnd : List ℕ → List ℕ → Type 0
IsEnd end line = (n : ℕ) × (n ≤ length line) × (end ≡ drop n line)

-- the end of an end
later_end : (n : ℕ) (end line : List ℕ) → n ≤ length end → IsEnd end line → IsEnd (drop n end) line
unfolding IsEnd
later_end n end line le h =
    let at = h.1 in
    let len = ap length h.2 ∙ length-drop h.0 line in
    (h.0 + n, omega (arith, le, at, len), ap (drop n) h.2 ∙ drop-drop n h.0 line)

blanks_end : (end line : List ℕ) → IsEnd end line → IsEnd (after_blanks end) line
blanks_end end line h = later_end (blanks_len end) end line (prefix_len-le-length is_blank end) h

word_end : (end line : List ℕ) → IsEnd end line → IsEnd (after_word end) line
word_end end line h = later_end (word_len (after_blanks end)) (after_blanks end) line (prefix_len-le-length (λ b. not (is_blank b)) (after_blanks end)) (blanks_end end line h)

-- a path is the end of its line
path_end : (line : List ℕ) → IsEnd (after_blanks (after_word (after_word (after_word line)))) line
unfolding IsEnd
path_end line = blanks_end _ line (word_end _ line (word_end _ line (word_end line line (0, omega arith, refl))))

-- where a line is cut, so that its end is left
module _ (line end : List ℕ) (good : IsUtf8 line) (is : end ≡ after_blanks (after_word (after_word (after_word line)))) where
  end_is : IsEnd end line
  end_is = subst (λ e. IsEnd e line) (sym is) (path_end line)

  cut_is : length end ≤ length line × (end ≡ drop (length line - length end) line)
  unfolding IsEnd
  cut_is =
      let h = end_is in
      let at = h.1 in
      let len = ap length h.2 ∙ length-drop h.0 line in
      let n : h.0 ≡ length line - length end = omega (arith, at, len) in
      (omega (arith, at, len), h.2 ∙ ap (λ k. drop k line) n)

  pub end_fits : length end ≤ length line
  end_fits = cut_is.0

  pub end_left : end ≡ drop (length line - length end) line
  end_left = cut_is.1

  pub end_boundary : IsCharBoundary line (length line - length end)
  end_boundary =
      let utf8 = subst IsUtf8 (sym is) (blanks_utf8 _ (word_utf8 _ (word_utf8 _ (word_utf8 line good)))) in
      IsCharBoundary-from_drop line (length line - length end) (omega arith) (subst IsUtf8 end_left utf8)
