use Rattle.std.proofs.Common.{◌≡◌, ◌∙◌, ◌<◌, ◌≤◌, ◌∷◌, ℕ, List, length, take, drop, sym, ap, subst, nat_eq, false, arith}
use Rattle.std.proofs.lemmas.Bool.{eqb-true}
use Rattle.std.proofs.lemmas.Bool.Decides.{nat_tests}
use Rattle.text_lines.specs.Lines.{words, word_len, after_blanks}
use Rattle.text_lines.proofs.Cuts.{past_blanks, no_words, word_here, word_some}
use Rattle.text_lines.proofs.lines.next_word.Goals as goal

-- something is left after the blanks
some : (line rest : List ℕ) → rest ≡ after_blanks line → nat_eq (length rest) 0 ≡ false → 0 < length (after_blanks line)
some line rest e left = subst (λ t. 0 < length t) e (grind (arith, nat_tests))

-- a word with what the code cut
cut : (line rest word after : List ℕ) (n : ℕ) → rest ≡ after_blanks line → 0 < length (after_blanks line) → n ≡ word_len rest → word ≡ take n rest → after ≡ drop n rest → words line ≡ word ∷ words after
cut line rest word after n is left len front back =
    word_here line left
    ∙ (λ i. take (word_len (sym is i)) (sym is i) ∷ words (drop (word_len (sym is i)) (sym is i)))
    ∙ ap (λ k. take k rest ∷ words (drop k rest)) (sym len)
    ∙ (λ i. sym front i ∷ words (sym back i))

pub returns-then-is_empty-clause-words : goal.returns-then-is_empty-clause-words
returns-then-is_empty-clause-words c = past_blanks c.args.line.now ∙ ap words (sym c.after_blanks-rest.ensures.value) ∙ no_words c.after_blanks-rest.result.now (eqb-true _ _ (sym c.is_empty.ensures ∙ c.if-is_empty.true))

pub returns-clause-words : goal.returns-clause-words
returns-clause-words c =
    cut c.args.line.now c.after_blanks-rest.result.now c.split_at.result.0.now c.split_at.result.1.now c.word_len.result c.after_blanks-rest.ensures.value (some c.args.line.now c.after_blanks-rest.result.now c.after_blanks-rest.ensures.value (sym c.is_empty.ensures ∙ c.if-is_empty.false)) c.word_len.ensures.value c.split_at.ensures.front c.split_at.ensures.back

pub returns-clause-shorter : goal.returns-clause-shorter
returns-clause-shorter c =
    let left = some c.args.line.now c.after_blanks-rest.result.now c.after_blanks-rest.ensures.value (sym c.is_empty.ensures ∙ c.if-is_empty.false) in
    let one : 1 ≤ c.word_len.result = subst (λ n. 1 ≤ n) (sym (c.word_len.ensures.value ∙ ap word_len c.after_blanks-rest.ensures.value)) (word_some c.args.line.now left) in
    omega (arith, one, c.split_at.ensures.back_len, c.after_blanks-rest.ensures.within, c.word_len.ensures.within)
