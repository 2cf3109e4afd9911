use Rattle.std.proofs.Common.{◌≡◌, ◌∙◌, sym, ap, Err}
use Rattle.script_text.specs.Numbers.{number_from}
use Rattle.script_text.specs.Streams.{stream_number}
use Rattle.text_lines.proofs.Errors.{handed_on}
use Rattle.script_text.proofs.Streams.{number_bad, number_second, number_new}
use Rattle.script_text.proofs.stream_line.stream_number.Goals as goal

pub returns-in_err-number-clause-err : goal.returns-in_err-number-clause-err
returns-in_err-number-clause-err c =
    handed_on c.from_residual.result c.in_err-number.field-0.0 (λ e. stream_number c.args.streams.now c.args.line_number c.args.word.now ≡ Err e) c.from_residual.ensures
    (number_bad c.args.streams.now c.args.line_number c.args.word.now c.in_err-number.field-0.0 (ap (λ m. number_from c.args.line_number 0 7 m c.args.word.now) (sym c.over-more.ensures) ∙ c.in_err-number.ensures.err))

pub returns-then-is_defined-clause-err : goal.returns-then-is_defined-clause-err
returns-then-is_defined-clause-err c =
    number_second c.args.streams.now c.args.line_number c.args.word.now c.in_ok-number.number (ap (λ m. number_from c.args.line_number 0 7 m c.args.word.now) (sym c.over-more.ensures) ∙ c.in_ok-number.ensures.ok) (sym c.is_defined.ensures ∙ c.if-is_defined.true)
    ∙ ap Err (sym c.bad.ensures)

pub returns-clause-ok : goal.returns-clause-ok
returns-clause-ok c =
    number_new c.args.streams.now c.args.line_number c.args.word.now c.in_ok-number.number (ap (λ m. number_from c.args.line_number 0 7 m c.args.word.now) (sym c.over-more.ensures) ∙ c.in_ok-number.ensures.ok) (sym c.is_defined.ensures ∙ c.if-is_defined.false)
