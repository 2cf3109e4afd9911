use Rattle.std.proofs.Common.{◌≡◌, ◌≢◌, ◌∙◌, Bool, true, false, List, ℕ, refl, sym, ap, Err}
use Rattle.std.specs.Str.{IsUtf8, is_utf8}
use Rattle.std.proofs.lemmas.Str.{IsUtf8-from_is_utf8, is_utf8-from_IsUtf8}
use Rattle.text_lines.specs.declared.text_error.TextError.TheVariants.{OutOfMemory}
use Rattle.text_lines.proofs.Errors.{handed_on}
use Rattle.value_text.specs.Steps.{with_line}
use Rattle.value_text.specs.Views.{parser_view, parser_placed}
use Rattle.value_text.proofs.WholeLines.{line_silent, line_not_utf8, line_bad_words, line_of_value}
use Rattle.value_text.proofs.parser.Parser.take_any.Goals as goal

not_utf8 : (line : List ℕ) → (IsUtf8 line → ⊥) → is_utf8 line ≡ false
not_utf8 line bad = by (is_utf8 line) refl
  where
    by : (t : Bool) → is_utf8 line ≡ t → t ≡ false
    by true is = absurd (bad (IsUtf8-from_is_utf8 line is))
    by false is = refl

pub returns-then-says_nothing-clause-ok : goal.returns-then-says_nothing-clause-ok
returns-then-says_nothing-clause-ok c = line_silent (parser_placed c.args.self.now) (parser_view c.args.self.now) c.args.line_number c.args.line.now (sym c.says_nothing.ensures ∙ c.if-says_nothing.true)

pub returns-in_default-clause-err : goal.returns-in_default-clause-err
returns-in_default-clause-err c = λ _.
    line_not_utf8 (parser_placed c.args.self.now) (parser_view c.args.self.now) c.args.line_number c.args.line.now (sym c.says_nothing.ensures ∙ c.if-says_nothing.false) (not_utf8 c.args.line.now c.in_default.ensures.cases.0)
    ∙ ap Err (sym c.bad.ensures)

pub returns-in_default-value_words-clause-err : goal.returns-in_default-value_words-clause-err
returns-in_default-value_words-clause-err c = λ _.
    line_bad_words (parser_placed c.args.self.now) (parser_view c.args.self.now) c.args.line_number c.args.line.now (sym c.says_nothing.ensures ∙ c.if-says_nothing.false) (is_utf8-from_IsUtf8 c.args.line.now c.in-Ok.ensures.cases.1)
    c.in_default-value_words.ensures
    ∙ ap Err (sym c.bad-in_default-value_words.ensures)

pub returns-in_err-value-clause-err : goal.returns-in_err-value-clause-err
returns-in_err-value-clause-err c =
    let placed = parser_placed c.args.self.now in
    let v = parser_view c.args.self.now in
    handed_on c.from_residual.result c.in_err-value.field-0.0 (λ e. e ≢ OutOfMemory → with_line placed v c.args.line_number c.args.line.now ≡ Err e) c.from_residual.ensures
    (λ memory. line_of_value placed v c.args.line_number c.args.line.now (sym c.says_nothing.ensures ∙ c.if-says_nothing.false) (is_utf8-from_IsUtf8 c.args.line.now c.in-Ok.ensures.cases.1) c.in-Some.ranks.now c.in-Some.number.now c.in-Some.ensures
    ∙ c.in_err-value.ensures.err memory)

pub returns-clause-ok : goal.returns-clause-ok
returns-clause-ok c =
    line_of_value (parser_placed c.args.self.now) (parser_view c.args.self.now) c.args.line_number c.args.line.now (sym c.says_nothing.ensures ∙ c.if-says_nothing.false) (is_utf8-from_IsUtf8 c.args.line.now c.in-Ok.ensures.cases.1) c.in-Some.ranks.now c.in-Some.number.now c.in-Some.ensures
    ∙ c.in_ok-value.ensures.ok
