use Rattle.std.proofs.Common.{◌∙◌, sym, ap, option_map}
use Rattle.text_lines.specs.Lines.{words}
use Rattle.script_text.specs.ParserViews.{seen_view}
use Rattle.script_text.proofs.Forms.{no_on, grain_good, grain_bad}
use Rattle.script_text.proofs.words.after_grain.Goals as goal

pub returns-in_err-on : goal.returns-in_err-on
returns-in_err-on c = ap (option_map seen_view) c.from_residual.ensures ∙ no_on c.args.grain (words c.args.line.now) c.in_err-on.ensures.words

pub returns-then-not-is_on : goal.returns-then-not-is_on
returns-then-not-is_on c =
    grain_bad c.args.grain (words c.args.line.now) c.in_ok-on.on.now (words c.in_ok-on.names.now) c.in_ok-on.ensures.words (sym c.is_on.ensures ∙ c.if-not-is_on.true)

pub returns : goal.returns
returns c = grain_good c.args.grain (words c.args.line.now) c.in_ok-on.on.now (words c.in_ok-on.names.now) c.in_ok-on.ensures.words (sym c.is_on.ensures ∙ c.if-not-is_on.false)
