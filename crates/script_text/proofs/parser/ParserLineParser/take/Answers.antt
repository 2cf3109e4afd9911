use Rattle.std.proofs.Common.{◌≡◌, ◌≢◌, ◌∙◌, refl, sym, Err}
use Rattle.text_lines.specs.declared.text_error.TextError.TheVariants.{OutOfMemory}
use Rattle.text_lines.proofs.Errors.{handed_on}
use Rattle.script_text.specs.ParserViews.{parser_view, parser_nodes}
use Rattle.script_text.specs.Whole.{with_line}
use Rattle.script_text.proofs.WholeScript.{line_skipped, line_by_words}
use Rattle.script_text.proofs.parser.ParserLineParser.take.Goals as goal

pub returns-then-says_nothing-clause-taken : goal.returns-then-says_nothing-clause-taken
returns-then-says_nothing-clause-taken c = (line_skipped (parser_nodes c.args.self) (parser_view c.args.self) c.args.line_number c.args.line.now (sym c.says_nothing.ensures ∙ c.if-says_nothing.true), refl)

pub returns-clause-taken : goal.returns-clause-taken
returns-clause-taken c = (
  line_by_words (parser_nodes c.args.self) (parser_view c.args.self) c.args.line_number c.args.line.now (sym c.says_nothing.ensures ∙ c.if-says_nothing.false) ∙ c.in_ok-directive.ensures.ok,
  c.in_ok-directive.ensures.nodes,
)

pub returns-in_err-directive-clause-refused : goal.returns-in_err-directive-clause-refused
returns-in_err-directive-clause-refused c =
    handed_on c.from_residual.result c.in_err-directive.field-0.0 (λ e. e ≢ OutOfMemory → with_line (parser_nodes c.args.self) (parser_view c.args.self) c.args.line_number c.args.line.now ≡ Err e) c.from_residual.ensures
    (λ memory. line_by_words (parser_nodes c.args.self) (parser_view c.args.self) c.args.line_number c.args.line.now (sym c.says_nothing.ensures ∙ c.if-says_nothing.false) ∙ c.in_err-directive.ensures.err memory)
