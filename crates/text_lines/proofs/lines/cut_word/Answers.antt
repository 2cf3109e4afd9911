use Rattle.std.proofs.Common.{◌≡◌, ◌∙◌, ◌∷◌, ◌<◌, ℕ, List, length, take, drop, drop-drop, sym, ap, nat_eq, false, arith}
use Rattle.std.proofs.lemmas.Bool.Decides.{nat_tests}
use Rattle.text_lines.specs.Lines.{words, word_len}
use Rattle.text_lines.proofs.Cuts.{word_cut, rest_cut}
use Rattle.text_lines.proofs.lines.cut_word.Goals as goal

some : (n : ℕ) → nat_eq n 0 ≡ false → 0 < n
some n e = grind (arith, nat_tests)

-- a line that is cut after its word, where the word is not empty
module _ (line word after : List ℕ) (n : ℕ) (len : n ≡ word_len line) (front : length word ≡ n) (back : after ≡ drop n line) (left : nat_eq (length word) 0 ≡ false) where
  pub has_word : 0 < word_len line
  has_word = let lt = some (length word) left in omega arith

  pub is_cut : (b : ℕ) (rest : List ℕ) → after ≡ b ∷ rest → drop (word_len line) line ≡ b ∷ rest
  is_cut b rest parts = ap (λ k. drop k line) (sym len) ∙ sym back ∙ parts

pub returns-in-Some-clause-words : goal.returns-in-Some-clause-words
returns-in-Some-clause-words c =
    let line = c.args.line.now in
    let word = c.split_at.result.0.now in
    let after = c.split_at.result.1.now in
    let left = sym c.is_empty.ensures ∙ c.if-not-is_empty.true in
    word_cut line c.in-Some.field-0-0.now c.in-Some.rest.now
    (has_word line word after c.word_len.result c.word_len.ensures.value c.split_at.ensures.front_len c.split_at.ensures.back left)
    (is_cut line word after c.word_len.result c.word_len.ensures.value c.split_at.ensures.front_len c.split_at.ensures.back left c.in-Some.field-0-0.now c.in-Some.rest.now c.in-Some.ensures.cases.0)
    ∙ (λ i. (ap (λ k. take k line) (sym c.word_len.ensures.value) ∙ sym c.split_at.ensures.front) i ∷ words c.in-Some.rest.now)

pub returns-in-Some-clause-rest : goal.returns-in-Some-clause-rest
returns-in-Some-clause-rest c =
    let line = c.args.line.now in
    let word = c.split_at.result.0.now in
    let after = c.split_at.result.1.now in
    let left = sym c.is_empty.ensures ∙ c.if-not-is_empty.true in
    rest_cut line c.in-Some.field-0-0.now c.in-Some.rest.now
    (has_word line word after c.word_len.result c.word_len.ensures.value c.split_at.ensures.front_len c.split_at.ensures.back left)
    (is_cut line word after c.word_len.result c.word_len.ensures.value c.split_at.ensures.front_len c.split_at.ensures.back left c.in-Some.field-0-0.now c.in-Some.rest.now c.in-Some.ensures.cases.0)

pub returns-in-Some-clause-behind : goal.returns-in-Some-clause-behind
returns-in-Some-clause-behind c =
    let line = c.args.line.now in
    let left = sym c.is_empty.ensures ∙ c.if-not-is_empty.true in
    let cut = is_cut line c.split_at.result.0.now c.split_at.result.1.now c.word_len.result c.word_len.ensures.value c.split_at.ensures.front_len c.split_at.ensures.back left c.in-Some.field-0-0.now c.in-Some.rest.now c.in-Some.ensures.cases.0 in
    sym (ap (drop 1) cut) ∙ drop-drop 1 (word_len line) line
