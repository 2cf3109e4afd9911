use Rattle.std.proofs.Common.{ap, ◌≡◌, ◌∙◌, sym, subst, Ok, Err, IfOk, IfErr}
use Rattle.text_lines.specs.Lines.{words, says_nothing}
use Rattle.sample_text.specs.Words.{read_line, directive}
use Rattle.sample_text.specs.LineViews.{line_view}
use Rattle.sample_text.proofs.LineWords.{line_of_nothing, line_of_words}
use Rattle.sample_text.proofs.words.read_line.Goals as goal

pub returns-then-says_nothing-clause-ok : goal.returns-then-says_nothing-clause-ok
returns-then-says_nothing-clause-ok c = line_of_nothing c.args.line_number c.args.line.now (ap says_nothing (sym c.as_bytes.ensures.value) ∙ sym c.says_nothing.ensures ∙ c.if-says_nothing.true)

-- a line that says something
is_directive : (c : goal.After-directive) → read_line c.args.line_number c.args.line.now ≡ directive c.args.line_number c.args.line.now (words c.args.line.now)
is_directive c = line_of_words c.args.line_number c.args.line.now (ap says_nothing (sym c.as_bytes.ensures.value) ∙ sym c.says_nothing.ensures ∙ c.if-says_nothing.false) c.utf8.line

pub returns-clause-ok : goal.returns-clause-ok
returns-clause-ok c = subst (λ x. IfOk c.directive.result (λ view. x ≡ Ok (line_view view))) (sym (is_directive c)) c.directive.ensures.ok

pub returns-clause-err : goal.returns-clause-err
returns-clause-err c = subst (λ x. IfErr c.directive.result (λ e. x ≡ Err e)) (sym (is_directive c)) c.directive.ensures.err
