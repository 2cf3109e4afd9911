use Rattle.std.proofs.Common.{◌∙◌, sym, ap, option_map}
use Rattle.text_lines.specs.Lines.{words}
use Rattle.script_text.specs.ParserViews.{mode_view, stream_view}
use Rattle.script_text.specs.Words.{stream_seen}
use Rattle.script_text.proofs.Forms.{mode_one, mode_two, mode_three, mode_four, mode_bad, mode_good}
use Rattle.script_text.proofs.words.after_mode.Goals as goal

pub returns-in_err-waves_word : goal.returns-in_err-waves_word
returns-in_err-waves_word c = ap (option_map stream_view) c.from_residual.ensures ∙ mode_one c.args.number.now (mode_view c.args.mode) (words c.args.line.now) c.in_err-waves_word.ensures.words

pub returns-in_err-waves : goal.returns-in_err-waves
returns-in_err-waves c =
    ap (option_map stream_view) c.from_residual-in_err-waves.ensures
    ∙ mode_two c.args.number.now (mode_view c.args.mode) (words c.args.line.now) c.in_ok-waves_word.waves_word.now (words c.in_ok-waves_word.rest.now) c.in_ok-waves_word.ensures.words c.in_err-waves.ensures.words

pub returns-in_err-samples_word : goal.returns-in_err-samples_word
returns-in_err-samples_word c =
    ap (option_map stream_view) c.from_residual-in_err-samples_word.ensures
    ∙ mode_three c.args.number.now (mode_view c.args.mode) (words c.args.line.now) c.in_ok-waves_word.waves_word.now (words c.in_ok-waves_word.rest.now) c.in_ok-waves_word.ensures.words
    c.in_ok-waves.waves.now (words c.in_ok-waves.rest.now) c.in_ok-waves.ensures.words c.in_err-samples_word.ensures.words

pub returns-in_err-samples : goal.returns-in_err-samples
returns-in_err-samples c =
    ap (option_map stream_view) c.from_residual-in_err-samples.ensures
    ∙ mode_four c.args.number.now (mode_view c.args.mode) (words c.args.line.now) c.in_ok-waves_word.waves_word.now (words c.in_ok-waves_word.rest.now) c.in_ok-waves_word.ensures.words
    c.in_ok-waves.waves.now (words c.in_ok-waves.rest.now) c.in_ok-waves.ensures.words
    c.in_ok-samples_word.samples_word.now (words c.in_ok-samples_word.rest.now) c.in_ok-samples_word.ensures.words c.in_err-samples.ensures.words

pub returns-then-not-are_fixed : goal.returns-then-not-are_fixed
returns-then-not-are_fixed c =
    mode_bad c.args.number.now (mode_view c.args.mode) (words c.args.line.now) c.in_ok-waves_word.waves_word.now (words c.in_ok-waves_word.rest.now) c.in_ok-waves_word.ensures.words
    c.in_ok-waves.waves.now (words c.in_ok-waves.rest.now) c.in_ok-waves.ensures.words
    c.in_ok-samples_word.samples_word.now (words c.in_ok-samples_word.rest.now) c.in_ok-samples_word.ensures.words
    c.in_ok-samples.samples.now (words c.in_ok-samples.rest.now) c.in_ok-samples.ensures.words (sym c.are_fixed.ensures ∙ c.if-not-are_fixed.true)

pub returns-in_err-seen : goal.returns-in_err-seen
returns-in_err-seen c =
    ap (option_map stream_view) c.from_residual-in_err-seen.ensures
    ∙ ap (stream_seen c.args.number.now (mode_view c.args.mode) c.in_ok-waves.waves.now c.in_ok-samples.samples.now) c.in_err-seen.ensures
    ∙ mode_good c.args.number.now (mode_view c.args.mode) (words c.args.line.now) c.in_ok-waves_word.waves_word.now (words c.in_ok-waves_word.rest.now) c.in_ok-waves_word.ensures.words
    c.in_ok-waves.waves.now (words c.in_ok-waves.rest.now) c.in_ok-waves.ensures.words
    c.in_ok-samples_word.samples_word.now (words c.in_ok-samples_word.rest.now) c.in_ok-samples_word.ensures.words
    c.in_ok-samples.samples.now (words c.in_ok-samples.rest.now) c.in_ok-samples.ensures.words (sym c.are_fixed.ensures ∙ c.if-not-are_fixed.false)

pub returns : goal.returns
returns c =
    ap (stream_seen c.args.number.now (mode_view c.args.mode) c.in_ok-waves.waves.now c.in_ok-samples.samples.now) c.in_ok-seen.ensures
    ∙ mode_good c.args.number.now (mode_view c.args.mode) (words c.args.line.now) c.in_ok-waves_word.waves_word.now (words c.in_ok-waves_word.rest.now) c.in_ok-waves_word.ensures.words
    c.in_ok-waves.waves.now (words c.in_ok-waves.rest.now) c.in_ok-waves.ensures.words
    c.in_ok-samples_word.samples_word.now (words c.in_ok-samples_word.rest.now) c.in_ok-samples_word.ensures.words
    c.in_ok-samples.samples.now (words c.in_ok-samples.rest.now) c.in_ok-samples.ensures.words (sym c.are_fixed.ensures ∙ c.if-not-are_fixed.false)
