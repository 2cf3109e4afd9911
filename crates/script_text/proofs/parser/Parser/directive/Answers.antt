use Rattle.std.proofs.Common.{◌≡◌, ◌≢◌, ◌∙◌, sym, ap, subst, Ok, Err, OnOk, IfErr}
use Rattle.text_lines.specs.Lines.{words}
use Rattle.text_lines.specs.declared.text_error.TextError.TheVariants.{OutOfMemory}
use Rattle.script_text.specs.ParserViews.{parser_view}
use Rattle.script_text.proofs.WholeScript.{words_none, words_stream, words_lose, words_other}
use Rattle.script_text.proofs.parser.Parser.directive.Goals as goal

pub returns-then-is_word-clause-ok : goal.returns-then-is_word-clause-ok
returns-then-is_word-clause-ok c =
    subst (λ x. OnOk c.stream.result (x ≡ Ok (parser_view c.stream.new.self)))
    (sym (words_stream c.args.self.now.topology.now (parser_view c.args.self.now) c.args.line_number (words c.args.line.now) c.in-Some.word.now (words c.in-Some.rest.now) c.in-Some.ensures.words (sym c.is_word.ensures ∙ c.if-is_word.true))) c.stream.ensures.ok

pub returns-then-is_word-clause-err : goal.returns-then-is_word-clause-err
returns-then-is_word-clause-err c =
    subst (λ x. IfErr c.stream.result (λ e. e ≢ OutOfMemory → x ≡ Err e))
    (sym (words_stream c.args.self.now.topology.now (parser_view c.args.self.now) c.args.line_number (words c.args.line.now) c.in-Some.word.now (words c.in-Some.rest.now) c.in-Some.ensures.words (sym c.is_word.ensures ∙ c.if-is_word.true))) c.stream.ensures.err

pub returns-then-is_word-2-clause-ok : goal.returns-then-is_word-2-clause-ok
returns-then-is_word-2-clause-ok c =
    subst (λ x. OnOk c.lose.result (x ≡ Ok (parser_view c.lose.new.self)))
    (sym (words_lose c.args.self.now.topology.now (parser_view c.args.self.now) c.args.line_number (words c.args.line.now) c.in-Some.word.now (words c.in-Some.rest.now) c.in-Some.ensures.words (sym c.is_word.ensures ∙ c.if-is_word.false) (sym c.is_word-in-Some.ensures ∙ c.if-is_word-2.true))) c.lose.ensures.ok

pub returns-then-is_word-2-clause-err : goal.returns-then-is_word-2-clause-err
returns-then-is_word-2-clause-err c =
    subst (λ x. IfErr c.lose.result (λ e. e ≢ OutOfMemory → x ≡ Err e))
    (sym (words_lose c.args.self.now.topology.now (parser_view c.args.self.now) c.args.line_number (words c.args.line.now) c.in-Some.word.now (words c.in-Some.rest.now) c.in-Some.ensures.words (sym c.is_word.ensures ∙ c.if-is_word.false) (sym c.is_word-in-Some.ensures ∙ c.if-is_word-2.true))) c.lose.ensures.err

pub returns-else-is_word-2-clause-err : goal.returns-else-is_word-2-clause-err
returns-else-is_word-2-clause-err c = λ _.
    words_other c.args.self.now.topology.now (parser_view c.args.self.now) c.args.line_number (words c.args.line.now) c.in-Some.word.now (words c.in-Some.rest.now) c.in-Some.ensures.words (sym c.is_word.ensures ∙ c.if-is_word.false) (sym c.is_word-in-Some.ensures ∙ c.if-is_word-2.false)
    ∙ ap Err (sym c.bad.ensures)

pub returns-in-None-clause-err : goal.returns-in-None-clause-err
returns-in-None-clause-err c = λ _. words_none c.args.self.now.topology.now (parser_view c.args.self.now) c.args.line_number (words c.args.line.now) c.in-None.ensures.words ∙ ap Err (sym c.bad-in-None.ensures)
