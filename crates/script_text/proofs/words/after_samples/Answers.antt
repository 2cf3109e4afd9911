use Rattle.std.proofs.Common.{◌∙◌, sym, ap, option_map}
use Rattle.text_lines.specs.Lines.{words}
use Rattle.script_text.specs.ParserViews.{seen_view}
use Rattle.script_text.proofs.Forms.{no_seen, says_by, says_no_by}
use Rattle.script_text.proofs.words.after_samples.Goals as goal

pub returns-in_err-word : goal.returns-in_err-word
returns-in_err-word c = ap (option_map seen_view) c.from_residual.ensures ∙ no_seen (words c.args.line.now) c.in_err-word.ensures.words

pub returns-then-is_word : goal.returns-then-is_word
returns-then-is_word c = c.after_by.ensures ∙ says_by (words c.args.line.now) c.in_ok-word.word.now (words c.in_ok-word.rest.now) c.in_ok-word.ensures.words (sym c.is_word.ensures ∙ c.if-is_word.true)

pub returns : goal.returns
returns c = c.after_grain.ensures ∙ says_no_by (words c.args.line.now) c.in_ok-word.word.now (words c.in_ok-word.rest.now) c.in_ok-word.ensures.words (sym c.is_word.ensures ∙ c.if-is_word.false)
