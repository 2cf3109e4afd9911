use Rattle.std.proofs.Common.{◌≡◌, ◌≢◌, ◌∙◌, sym, ap, subst, Ok, Err}
use Rattle.std.specs.Prelude.{OnOk}
use Rattle.text_lines.specs.Parsing.{IsErrorOf}
use Rattle.text_lines.specs.declared.text_error.TextError.TheVariants.{OutOfMemory}
use Rattle.sample_text.specs.ParserViews.{parser_view}
use Rattle.sample_text.specs.Steps.{with_stack, with_sample}
use Rattle.sample_text.proofs.Room.{is_many, are_few}
use Rattle.text_lines.proofs.Errors.{handed_on}
use Rattle.sample_text.proofs.Steps.{stack_over, stack_bad_time, stack_bad_ranks, stack_read}
use Rattle.sample_text.proofs.parser.Parser.stack.Goals as goal

pub returns-then-is_full-clause-err : goal.returns-then-is_full-clause-err
returns-then-is_full-clause-err c = λ _.
    stack_over (parser_view c.args.self.now) c.args.line_number c.args.time.now c.args.word.now c.args.text.now
    (is_many c.args.self.now.paths.paths.items c.args.self.now.lines (sym c.is_full.ensures ∙ c.if-is_full.true))
    ∙ ap Err (sym c.over.ensures)

pub returns-in_err-time-clause-err : goal.returns-in_err-time-clause-err
returns-in_err-time-clause-err c =
    handed_on c.from_residual.result c.in_err-time.field-0.0 (λ e. e ≢ OutOfMemory → with_stack (parser_view c.args.self.now) c.args.line_number c.args.time.now c.args.word.now c.args.text.now ≡ Err e) c.from_residual.ensures
    (λ _. stack_bad_time (parser_view c.args.self.now) c.args.line_number c.args.time.now c.args.word.now c.args.text.now
    (are_few c.args.self.now.paths.paths.items c.args.self.now.lines (sym c.is_full.ensures ∙ c.if-is_full.false))
    c.in_err-time.field-0.0 c.in_err-time.ensures.err)

pub returns-in_err-ranks-clause-err : goal.returns-in_err-ranks-clause-err
returns-in_err-ranks-clause-err c =
    handed_on c.from_residual-in_err-ranks.result c.in_err-ranks.field-0.0 (λ e. e ≢ OutOfMemory → with_stack (parser_view c.args.self.now) c.args.line_number c.args.time.now c.args.word.now c.args.text.now ≡ Err e) c.from_residual-in_err-ranks.ensures
    (λ memory. stack_bad_ranks (parser_view c.args.self.now) c.args.line_number c.args.time.now c.args.word.now c.args.text.now
    (are_few c.args.self.now.paths.paths.items c.args.self.now.lines (sym c.is_full.ensures ∙ c.if-is_full.false))
    c.in_ok-time.time c.in_ok-time.ensures.ok c.in_err-ranks.field-0.0 (c.in_err-ranks.ensures.err memory))

-- the line is a sample of what was read
is_sample : (c : goal.After-sample) → with_stack (parser_view c.args.self.now) c.args.line_number c.args.time.now c.args.word.now c.args.text.now ≡ with_sample (parser_view c.args.self.now) c.args.line_number c.in_ok-time.time c.in_ok-ranks.ranks c.args.text.now
is_sample c =
    stack_read (parser_view c.args.self.now) c.args.line_number c.args.time.now c.args.word.now c.args.text.now
    (are_few c.args.self.now.paths.paths.items c.args.self.now.lines (sym c.is_full.ensures ∙ c.if-is_full.false))
    c.in_ok-time.time c.in_ok-time.ensures.ok c.in_ok-ranks.ranks c.in_ok-ranks.ensures.ok

pub returns-clause-ok : goal.returns-clause-ok
returns-clause-ok c = subst (λ r. OnOk c.sample.result (r ≡ Ok (parser_view c.sample.new.self))) (sym (is_sample c)) c.sample.ensures.ok

pub returns-clause-err : goal.returns-clause-err
returns-clause-err c = subst (λ r. IsErrorOf c.sample.result r) (sym (is_sample c)) c.sample.ensures.err
