-- Lines and words from the front of a text.
use Rattle.std.proofs.Common.{◌≡◌, ℕ, suc, ◌+◌, ◌<◌, ◌≤◌, Bool, true, false, not, cond, nat_eq, List, [], ◌∷◌, ◌++◌, length, drop, take, map, get_or, drop-cons, Option, None, Some, refl, sym, ap, subst, ◌∙◌, arith}
use Rattle.std.specs.Option.{unwrap_or}
use Rattle.std.proofs.lemmas.List.{length-drop}
use Rattle.std.proofs.lemmas.List.Sums.{prefix_len_is, prefix_len_stops}
use Rattle.memchr.specs.Find.{IsFirstByte, is_byte}
use Rattle.text_lines.specs.Lines.{pieces, before_first, without_return, lines, is_blank, words, line_len, word_len, blanks_len, after_blanks, after_word}

not_true : (b : Bool) → (b ≡ true → ⊥) → not b ≡ true
not_true true h = absurd (h refl)
not_true false h = refl

-- the place of the first line feed, and else the text's length, is the length of the first line
pub first_feed : (text : List ℕ) (r : Option ℕ) → IsFirstByte (is_byte 10) text r → unwrap_or r (length text) ≡ line_len text
first_feed text None none = sym (prefix_len_is (λ b. not (nat_eq b 10)) text (length text) 0 (omega arith) (λ k below. not_true _ (none k (omega arith) below)) (λ h. absurd (omega arith)))
first_feed text (Some k) first = sym (prefix_len_is (λ b. not (nat_eq b 10)) text k 0 (let h : k < length text = first.0.high in omega arith) (λ j below. not_true _ (first.0.before j (omega arith) below)) (λ h. ap not first.1))

-- what is left after a line's line feed
abbrev pub after_feed : List ℕ → List ℕ
after_feed [] = []
after_feed (b ∷ rest) = rest

-- a first piece, where more may follow
piece_by : (b : ℕ) (rest : List ℕ) (t : Bool) → (0 < length rest → pieces rest ≡ take (line_len rest) rest ∷ pieces (after_feed (drop (line_len rest) rest))) → cond t ([] ∷ pieces rest) (before_first b (pieces rest)) ≡ take (cond (not t) (1 + line_len rest) 0) (b ∷ rest) ∷ pieces (after_feed (drop (cond (not t) (1 + line_len rest) 0) (b ∷ rest)))
unfolding pieces
piece_by b rest true first = refl
piece_by b [] false first = refl
piece_by b (c ∷ rest) false first =
    ap (before_first b) (first (omega arith))
    ∙ (let e : suc (line_len (c ∷ rest)) ≡ 1 + line_len (c ∷ rest) = omega arith in ap (λ n. take n (b ∷ c ∷ rest) ∷ pieces (after_feed (drop n (b ∷ c ∷ rest)))) e)

-- the first piece of a text is what stands before its first line feed
pub first_piece : (text : List ℕ) → 0 < length text → pieces text ≡ take (line_len text) text ∷ pieces (after_feed (drop (line_len text) text))
unfolding pieces
first_piece [] some = absurd (omega arith)
first_piece (b ∷ rest) some = piece_by b rest (nat_eq b 10) (first_piece rest)

-- a carriage return at the end goes
pub return_off : (line : List ℕ) → without_return (line ++ 13 ∷ []) ≡ line
return_off [] = refl
return_off (b ∷ []) = refl
return_off (b ∷ c ∷ rest) = ap (λ t. b ∷ t) (return_off (c ∷ rest))

-- another byte at the end stays
pub return_kept : (line : List ℕ) (b : ℕ) → nat_eq b 13 ≡ false → without_return (line ++ b ∷ []) ≡ line ++ b ∷ []
return_kept [] b e = rw e refl
return_kept (a ∷ []) b e = rw e refl
return_kept (a ∷ c ∷ rest) b e = ap (λ t. a ∷ t) (return_kept (c ∷ rest) b e)

-- no text has no line
pub no_lines : (text : List ℕ) → length text ≡ 0 → lines text ≡ []
unfolding pieces
no_lines [] e = refl
no_lines (b ∷ rest) e = absurd (omega arith)

-- the first line of a text that is cut after n bytes
module _ (text line after : List ℕ) (n : ℕ) (some : 0 < length text) (len : n ≡ line_len text) (front : line ≡ take n text) (back : after ≡ drop n text) where
  cut_line : lines text ≡ without_return line ∷ lines (after_feed after)
  cut_line = ap (map without_return) (first_piece text some) ∙ ap (λ k. without_return (take k text) ∷ lines (after_feed (drop k text))) (sym len) ∙ (λ i. without_return (sym front i) ∷ lines (after_feed (sym back i)))

  -- a line that ends at a line feed
  pub line_more : (b : ℕ) (rest : List ℕ) → after ≡ b ∷ rest → lines text ≡ without_return line ∷ lines rest
  line_more b rest parts = cut_line ∙ ap (λ t. without_return line ∷ lines (after_feed t)) parts

  -- a line that ends with the text
  pub line_last : length after ≡ 0 → lines text ≡ without_return line ∷ lines after
  line_last none = cut_line ∙ ap (λ t. without_return line ∷ lines t) (same after none)
    where
      same : (t : List ℕ) → length t ≡ 0 → after_feed t ≡ t
      same [] e = refl
      same (b ∷ t) e = absurd (omega arith)

module _ (b : ℕ) (rest : List ℕ) where
  blank_by : (t : Bool) → is_blank b ≡ t → words rest ≡ words (after_blanks rest) → words (b ∷ rest) ≡ words (drop (cond t (1 + blanks_len rest) 0) (b ∷ rest))
  unfolding words
  blank_by true e same = rw (e, words) (same ∙ (let n : suc (blanks_len rest) ≡ 1 + blanks_len rest = omega arith in ap (λ k. words (drop k (b ∷ rest))) n))
  blank_by false e same = refl

-- the words of a line are those after its blanks
pub past_blanks : (line : List ℕ) → words line ≡ words (after_blanks line)
past_blanks [] = refl
past_blanks (b ∷ rest) = blank_by b rest (is_blank b) refl (past_blanks rest)

-- no blank stands after the blanks
pub no_blank : (line : List ℕ) (b : ℕ) (rest : List ℕ) → after_blanks line ≡ b ∷ rest → is_blank b ≡ false
no_blank [] b rest e = cc
no_blank (c ∷ line) b rest e = by (is_blank c) refl e (no_blank line b rest)
  where
    by : (t : Bool) → is_blank c ≡ t → drop (cond t (1 + blanks_len line) 0) (c ∷ line) ≡ b ∷ rest → (after_blanks line ≡ b ∷ rest → is_blank b ≡ false) → is_blank b ≡ false
    by true is e later = let n : suc (blanks_len line) ≡ 1 + blanks_len line = omega arith in later (ap (λ k. drop k (c ∷ line)) n ∙ e)
    by false is e later = let h : c ≡ b = cc in ap is_blank (sym h) ∙ is

word_by : (b c : ℕ) (rest : List ℕ) (t : Bool) → is_blank c ≡ t → (is_blank c ≡ false → words (c ∷ rest) ≡ take (word_len (c ∷ rest)) (c ∷ rest) ∷ words (drop (word_len (c ∷ rest)) (c ∷ rest))) → cond t ((b ∷ []) ∷ words (c ∷ rest)) (before_first b (words (c ∷ rest))) ≡ take (1 + cond (not t) (1 + word_len rest) 0) (b ∷ c ∷ rest) ∷ words (drop (1 + cond (not t) (1 + word_len rest) 0) (b ∷ c ∷ rest))
word_by b c rest true e first = refl
word_by b c rest false e first =
    ap (before_first b) (first e)
    ∙ (let n : word_len (c ∷ rest) ≡ 1 + word_len rest = rw e refl in let s : suc (word_len (c ∷ rest)) ≡ 1 + (1 + word_len rest) = omega arith in ap (λ n. take n (b ∷ c ∷ rest) ∷ words (drop n (b ∷ c ∷ rest))) s)

-- the first word of a text that begins with no blank
pub first_word : (b : ℕ) (rest : List ℕ) → is_blank b ≡ false → words (b ∷ rest) ≡ take (word_len (b ∷ rest)) (b ∷ rest) ∷ words (drop (word_len (b ∷ rest)) (b ∷ rest))
unfolding words
first_word b [] e = rw (e, words) refl
first_word b (c ∷ rest) e = rw (e, words) (word_by b c rest (is_blank c) refl (first_word c rest))

-- no text has no word
pub no_words : (line : List ℕ) → length line ≡ 0 → words line ≡ []
unfolding words
no_words [] e = refl
no_words (b ∷ rest) e = absurd (omega arith)

-- the first word of a line, where something is left after its blanks
pub word_here : (line : List ℕ) → 0 < length (after_blanks line) → words line ≡ take (word_len (after_blanks line)) (after_blanks line) ∷ words (drop (word_len (after_blanks line)) (after_blanks line))
word_here line some = past_blanks line ∙ by (after_blanks line) refl some
  where
    by : (t : List ℕ) → after_blanks line ≡ t → 0 < length t → words t ≡ take (word_len t) t ∷ words (drop (word_len t) t)
    by [] e h = absurd (omega arith)
    by (b ∷ rest) e h = first_word b rest (no_blank line b rest e)

-- that word has a byte
pub word_some : (line : List ℕ) → 0 < length (after_blanks line) → 1 ≤ word_len (after_blanks line)
word_some line some = by (after_blanks line) refl some
  where
    len : (b : ℕ) (rest : List ℕ) (t : Bool) → t ≡ false → 1 ≤ cond (not t) (1 + word_len rest) 0
    len b rest true e = cc
    len b rest false e = omega arith

    by : (t : List ℕ) → after_blanks line ≡ t → 0 < length t → 1 ≤ word_len t
    by [] e h = absurd (omega arith)
    by (b ∷ rest) e h = len b rest (is_blank b) (no_blank line b rest e)

-- a blank in front means nothing
module _ (b : ℕ) (rest : List ℕ) (is : is_blank b ≡ true) where
  pub words_past : words (b ∷ rest) ≡ words rest
  unfolding words
  words_past = rw (is, words) refl

  pub blanks_past : after_blanks (b ∷ rest) ≡ after_blanks rest
  blanks_past = (λ i. drop (cond (is i) (1 + blanks_len rest) 0) (b ∷ rest)) ∙ (let n : 1 + blanks_len rest ≡ suc (blanks_len rest) = omega arith in ap (λ k. drop k (b ∷ rest)) n)

-- a line that is cut after the word that it begins with
module _ (line : List ℕ) (b : ℕ) (rest : List ℕ) (some : 0 < word_len line) (cut : drop (word_len line) line ≡ b ∷ rest) where
  within : word_len line < length line
  within = let all = ap length cut in let left = length-drop (word_len line) line in omega arith

  not_false : (t : Bool) → not t ≡ false → t ≡ true
  not_false true e = refl
  not_false false e = cc

  ends_at_blank : is_blank b ≡ true
  ends_at_blank =
      let here = sym cut ∙ drop-cons line (word_len line) 0 within in
      let same : get_or line (word_len line) 0 ≡ b = cc in
      not_false (is_blank b) (ap (λ x. not (is_blank x)) (sym same) ∙ prefix_len_stops (λ b. not (is_blank b)) line 0 within)

  no_blanks : after_blanks line ≡ line
  no_blanks = by line some
    where
      at : (c : ℕ) (text : List ℕ) (t : Bool) → 0 < cond (not t) (1 + word_len text) 0 → drop (cond t (1 + blanks_len text) 0) (c ∷ text) ≡ c ∷ text
      at c text true lt = absurd (omega arith)
      at c text false lt = refl

      by : (text : List ℕ) → 0 < word_len text → after_blanks text ≡ text
      by [] lt = refl
      by (c ∷ text) lt = at c text (is_blank c) lt

  pub word_cut : words line ≡ take (word_len line) line ∷ words rest
  word_cut =
      word_here line (subst (λ t. 0 < length t) (sym no_blanks) (omega (arith, within)))
      ∙ ap (λ t. take (word_len t) t ∷ words (drop (word_len t) t)) no_blanks
      ∙ ap (λ t. take (word_len line) line ∷ words t) cut
      ∙ ap (λ ws. take (word_len line) line ∷ ws) (words_past b rest ends_at_blank)

  pub rest_cut : after_blanks (after_word line) ≡ after_blanks rest
  rest_cut = ap (λ t. after_blanks (drop (word_len t) t)) no_blanks ∙ ap after_blanks cut ∙ blanks_past b rest ends_at_blank
