use Rattle.std.proofs.Common.{◌∙◌, ap, option_map}
use Rattle.text_lines.specs.Lines.{words}
use Rattle.script_text.specs.ParserViews.{seen_view}
use Rattle.script_text.proofs.Forms.{no_grain, other_grain, some_grain}
use Rattle.script_text.proofs.words.after_by.Goals as goal

pub returns-in_err-word : goal.returns-in_err-word
returns-in_err-word c = ap (option_map seen_view) c.from_residual.ensures ∙ no_grain (words c.args.line.now) c.in_err-word.ensures.words

pub returns-in_err-grain : goal.returns-in_err-grain
returns-in_err-grain c =
    ap (option_map seen_view) c.from_residual-in_err-grain.ensures
    ∙ other_grain (words c.args.line.now) c.in_ok-word.word.now (words c.in_ok-word.rest.now) c.in_ok-word.ensures.words c.in_err-grain.ensures

pub returns : goal.returns
returns c =
    c.after_grain.ensures
    ∙ some_grain (words c.args.line.now) c.in_ok-word.word.now (words c.in_ok-word.rest.now) c.in_ok-grain.grain c.in_ok-word.ensures.words c.in_ok-grain.ensures
