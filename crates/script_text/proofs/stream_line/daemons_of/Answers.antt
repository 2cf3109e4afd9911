use Rattle.std.proofs.Common.{◌≡◌, ◌≢◌, ◌∙◌, sym, ap, subst, Ok, Err, IfOk, IfErr}
use Rattle.text_lines.specs.Lines.{words}
use Rattle.text_lines.specs.declared.text_error.TextError.TheVariants.{OutOfMemory}
use Rattle.script_text.proofs.Streams.{on_none, on_all, on_names}
use Rattle.script_text.proofs.stream_line.daemons_of.Goals as goal

pub returns-then-is_word-clause-ok : goal.returns-then-is_word-clause-ok
returns-then-is_word-clause-ok c =
    on_all c.args.topology.now c.args.line_number (words c.args.names.now) c.in-Some.name.now (words c.in-Some.field-0-1.now) c.in-Some.ensures.words (sym c.is_word.ensures ∙ c.if-is_word.true)
    ∙ ap Ok (sym c.in_ok-all_daemons-in-Some.ensures)

pub returns-else-is_word-clause-ok : goal.returns-else-is_word-clause-ok
returns-else-is_word-clause-ok c =
    subst (λ x. IfOk c.named.result (λ daemons. x ≡ Ok daemons.items)) (sym (on_names c.args.topology.now c.args.line_number (words c.args.names.now) c.in-Some.name.now (words c.in-Some.field-0-1.now) c.in-Some.ensures.words (sym c.is_word.ensures ∙ c.if-is_word.false))) c.named.ensures.ok

pub returns-else-is_word-clause-err : goal.returns-else-is_word-clause-err
returns-else-is_word-clause-err c =
    subst (λ x. IfErr c.named.result (λ e. e ≢ OutOfMemory → x ≡ Err e)) (sym (on_names c.args.topology.now c.args.line_number (words c.args.names.now) c.in-Some.name.now (words c.in-Some.field-0-1.now) c.in-Some.ensures.words (sym c.is_word.ensures ∙ c.if-is_word.false))) c.named.ensures.err

pub returns-in-None-clause-err : goal.returns-in-None-clause-err
returns-in-None-clause-err c = λ _. on_none c.args.topology.now c.args.line_number (words c.args.names.now) c.in-None.ensures.words ∙ ap Err (sym c.bad.ensures)
