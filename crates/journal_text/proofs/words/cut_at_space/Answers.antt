use Rattle.std.proofs.Common.{◌≡◌, ◌∙◌, ◌∷◌, ◌++◌, take, drop, length, sym, ap}
use Rattle.journal_text.specs.Words.{has_no_space, word_len}
use Rattle.journal_text.proofs.Cuts.{before_space, at_space, no_space}
use Rattle.journal_text.proofs.words.cut_at_space.Goals as goal

pub returns-in-Some : goal.returns-in-Some
returns-in-Some c =
    let text = c.args.text.now in
    let word : c.split_at.result.0.now ≡ take (word_len text) text = c.split_at.ensures.front ∙ ap (λ k. take k text) c.word_len.ensures.value in
    let rest : drop (word_len text) text ≡ c.in-Some.field-0-0.now ∷ c.in-Some.rest.now = ap (λ k. drop k text) (sym c.word_len.ensures.value) ∙ sym c.split_at.ensures.back ∙ c.in-Some.ensures.cases.0 in
    (ap has_no_space word ∙ before_space text, at_space text c.in-Some.field-0-0.now c.in-Some.rest.now rest ∙ ap (λ t. t ++ 32 ∷ c.in-Some.rest.now) (sym word))

pub returns-in-None : goal.returns-in-None
returns-in-None c =
    let text = c.args.text.now in
    no_space text (ap (λ k. length (drop k text)) (sym c.word_len.ensures.value) ∙ ap length (sym c.split_at.ensures.back) ∙ c.in-None.ensures.cases)
