use Rattle.std.proofs.Common.{◌∙◌, sym, ap, option_map}
use Rattle.text_lines.specs.Lines.{words}
use Rattle.script_text.specs.ParserViews.{stream_view}
use Rattle.script_text.specs.Words.{after_time_out}
use Rattle.script_text.proofs.Forms.{no_number, no_mode, waits, times, passes, neither}
use Rattle.script_text.proofs.words.stream_words.Goals as goal

pub returns-in_err-number : goal.returns-in_err-number
returns-in_err-number c = ap (option_map stream_view) c.from_residual.ensures ∙ no_number (words c.args.line.now) c.in_err-number.ensures.words

pub returns-in_err-mode : goal.returns-in_err-mode
returns-in_err-mode c = ap (option_map stream_view) c.from_residual-in_err-mode.ensures ∙ no_mode (words c.args.line.now) c.in_ok-number.number.now (words c.in_ok-number.rest.now) c.in_ok-number.ensures.words c.in_err-mode.ensures.words

pub returns-then-is_word : goal.returns-then-is_word
returns-then-is_word c =
    c.after_mode.ensures
    ∙ sym (waits (words c.args.line.now) c.in_ok-number.number.now c.in_ok-mode.mode.now (words c.in_ok-number.rest.now) (words c.in_ok-mode.rest.now) c.in_ok-number.ensures.words c.in_ok-mode.ensures.words (sym c.is_word.ensures ∙ c.if-is_word.true))

pub returns-in_err-ticks : goal.returns-in_err-ticks
returns-in_err-ticks c =
    ap (option_map stream_view) c.from_residual-in_err-ticks.ensures
    ∙ sym (times (words c.args.line.now) c.in_ok-number.number.now c.in_ok-mode.mode.now (words c.in_ok-number.rest.now) (words c.in_ok-mode.rest.now) c.in_ok-number.ensures.words c.in_ok-mode.ensures.words (sym c.is_word.ensures ∙ c.if-is_word.false) (sym c.is_word-2.ensures ∙ c.if-is_word-2.true)
    ∙ ap (after_time_out c.in_ok-number.number.now) c.in_err-ticks.ensures.words)

pub returns-then-is_word-2 : goal.returns-then-is_word-2
returns-then-is_word-2 c =
    c.after_mode-then-is_word-2.ensures
    ∙ sym (times (words c.args.line.now) c.in_ok-number.number.now c.in_ok-mode.mode.now (words c.in_ok-number.rest.now) (words c.in_ok-mode.rest.now) c.in_ok-number.ensures.words c.in_ok-mode.ensures.words (sym c.is_word.ensures ∙ c.if-is_word.false) (sym c.is_word-2.ensures ∙ c.if-is_word-2.true)
    ∙ ap (after_time_out c.in_ok-number.number.now) c.in_ok-ticks.ensures.words)

pub returns-then-is_word-3 : goal.returns-then-is_word-3
returns-then-is_word-3 c =
    c.after_mode-then-is_word-3.ensures
    ∙ sym (passes (words c.args.line.now) c.in_ok-number.number.now c.in_ok-mode.mode.now (words c.in_ok-number.rest.now) (words c.in_ok-mode.rest.now) c.in_ok-number.ensures.words c.in_ok-mode.ensures.words (sym c.is_word.ensures ∙ c.if-is_word.false) (sym c.is_word-2.ensures ∙ c.if-is_word-2.false)
    (sym c.is_word-3.ensures ∙ c.if-is_word-3.true))

pub returns : goal.returns
returns c =
    sym (neither (words c.args.line.now) c.in_ok-number.number.now c.in_ok-mode.mode.now (words c.in_ok-number.rest.now) (words c.in_ok-mode.rest.now) c.in_ok-number.ensures.words c.in_ok-mode.ensures.words (sym c.is_word.ensures ∙ c.if-is_word.false) (sym c.is_word-2.ensures ∙ c.if-is_word-2.false)
    (sym c.is_word-3.ensures ∙ c.if-is_word-3.false))
