use Rattle.std.proofs.Common.{◌≡◌, ◌∙◌, ◌∷◌, sym, drop}
use Rattle.text_lines.proofs.Numbers.{number_words, number_is, number_rest, number_behind}
use Rattle.text_lines.proofs.lines.cut_number.Goals.{Then-len-gt0}
use Rattle.text_lines.proofs.lines.cut_number.Goals as goal

-- a blank stands behind the digits
cut : (c : Then-len-gt0) → drop c.capped_number-number.result.1 c.args.line.now ≡ c.in-Some.b.now ∷ c.in-Some.rest.now
cut c = sym c.split_at.ensures.back ∙ c.in-Some.ensures.cases.0

pub returns-in-Some-clause-words : goal.returns-in-Some-clause-words
returns-in-Some-clause-words c =
    number_words c.args.line.now c.capped_number-number.result.1 c.in-Some.b.now c.in-Some.rest.now c.capped_number-number.ensures.len c.if-len-gt0.true (cut c) (sym c.is_blank.ensures ∙ c.if-is_blank.true)

pub returns-in-Some-clause-number : goal.returns-in-Some-clause-number
returns-in-Some-clause-number c =
    number_is c.args.line.now c.capped_number-number.result.1 c.in-Some.b.now c.in-Some.rest.now c.capped_number-number.ensures.len c.if-len-gt0.true (cut c) (sym c.is_blank.ensures ∙ c.if-is_blank.true)
    c.capped_number-number.result.0 c.args.limit c.capped_number-number.ensures.value c.if-number-limit.true

pub returns-in-Some-clause-rest : goal.returns-in-Some-clause-rest
returns-in-Some-clause-rest c =
    number_rest c.args.line.now c.capped_number-number.result.1 c.in-Some.b.now c.in-Some.rest.now c.capped_number-number.ensures.len c.if-len-gt0.true (cut c) (sym c.is_blank.ensures ∙ c.if-is_blank.true)

pub returns-in-Some-clause-behind : goal.returns-in-Some-clause-behind
returns-in-Some-clause-behind c =
    number_behind c.args.line.now c.capped_number-number.result.1 c.in-Some.b.now c.in-Some.rest.now c.capped_number-number.ensures.len c.if-len-gt0.true (cut c) (sym c.is_blank.ensures ∙ c.if-is_blank.true)
