use Rattle.std.proofs.Common.{◌≡◌, ◌∙◌, sym, ap, Err}
use Rattle.script_text.specs.ParserViews.{mode_view}
use Rattle.script_text.specs.Numbers.{number_from}
use Rattle.script_text.specs.Streams.{mode_of}
use Rattle.text_lines.proofs.Errors.{handed_on}
use Rattle.script_text.proofs.Streams.{waits, passes, times_bad, times}
use Rattle.script_text.proofs.stream_line.mode_of.Goals as goal

pub returns-in_err-ticks-in-TimeOut-clause-err : goal.returns-in_err-ticks-in-TimeOut-clause-err
returns-in_err-ticks-in-TimeOut-clause-err c =
    handed_on c.from_residual.result c.in_err-ticks-in-TimeOut.field-0.0 (λ e. mode_of c.args.line_number (mode_view c.args.mode) ≡ Err e) c.from_residual.ensures
    (ap (λ m. mode_of c.args.line_number (mode_view m)) c.in-TimeOut.is
    ∙ times_bad c.args.line_number c.in-TimeOut.ticks.now c.in_err-ticks-in-TimeOut.field-0.0 (ap (λ m. number_from c.args.line_number 1 1000 m c.in-TimeOut.ticks.now) (sym c.bad-bad_number.ensures) ∙ c.in_err-ticks-in-TimeOut.ensures.err))

pub returns-in-WaitForAll-clause-ok : goal.returns-in-WaitForAll-clause-ok
returns-in-WaitForAll-clause-ok c = ap (λ m. mode_of c.args.line_number (mode_view m)) c.in-WaitForAll.is ∙ waits c.args.line_number

pub returns-in_ok-ticks-in-TimeOut-clause-ok : goal.returns-in_ok-ticks-in-TimeOut-clause-ok
returns-in_ok-ticks-in-TimeOut-clause-ok c =
    ap (λ m. mode_of c.args.line_number (mode_view m)) c.in-TimeOut.is
    ∙ times c.args.line_number c.in-TimeOut.ticks.now c.in_ok-ticks-in-TimeOut.ticks (ap (λ m. number_from c.args.line_number 1 1000 m c.in-TimeOut.ticks.now) (sym c.bad-bad_number.ensures) ∙ c.in_ok-ticks-in-TimeOut.ensures.ok)

pub returns-in-DontWait-clause-ok : goal.returns-in-DontWait-clause-ok
returns-in-DontWait-clause-ok c = ap (λ m. mode_of c.args.line_number (mode_view m)) c.in-DontWait.is ∙ passes c.args.line_number
