use Rattle.std.proofs.Common.{◌≡◌, ◌≢◌, sym, subst, Err, IfOk, []}
use Rattle.overlay_setup.specs.Scripts.{ScriptFits, scripted}
use Rattle.text_lines.specs.Lines.{lines}
use Rattle.text_lines.specs.Parsing.{IsValueOf, IsErrorOf}
use Rattle.text_lines.specs.declared.text_error.TextError.TheVariants.{OutOfMemory}
use Rattle.text_lines.proofs.Errors.{handed_on, value_has}
use Rattle.text_lines.proofs.Parsing.{all_parsed, same_context, first_error}
use Rattle.script_text.specs.Grammar.{IsAcceptable}
use Rattle.script_text.proofs.Acceptance.{acceptable, is_acceptable}
use Rattle.script_text.specs.Invariants.{ParserInvariant}
use Rattle.script_text.specs.ParserViews.{parser_view, parser_nodes}
use Rattle.script_text.specs.Whole.{with_line, script_of}
use Rattle.script_text.proofs.InvariantLemmas.{nothing_holds, lines_holds}
use Rattle.script_text.proofs.WholeScript.{script_bad, script_good}
use Rattle.script_text.proofs.read.Goals as goal

pub returns-in_err-parser-clause-err : goal.returns-in_err-parser-clause-err
returns-in_err-parser-clause-err c =
    let t = c.args.topology.now in
    let text = c.args.text.now in
    handed_on c.from_residual.result c.in_err-parser.field-0.0 (λ e. e ≢ OutOfMemory → script_of t text ≡ Err e) c.from_residual.ensures
    (λ memory. script_bad t text c.in_err-parser.field-0.0
    (first_error parser_nodes parser_view with_line t (scripted [] []) (lines text) c.new-empty.result c.new-empty.ensures.nodes c.new-empty.ensures.view c.in_err-parser.field-0.0 c.in_err-parser.ensures.refused memory))

pub finish-requires : goal.finish-requires
finish-requires c =
    let t = c.args.topology.now in
    let new = c.in_ok-parser.parser in
    let parsed = all_parsed parser_nodes parser_view with_line t (scripted [] []) (lines c.args.text.now) c.new-empty.result c.new-empty.ensures.nodes c.new-empty.ensures.view new c.in_ok-parser.ensures.taken in
    let same = same_context parser_nodes parser_view with_line t (scripted [] []) (lines c.args.text.now) c.new-empty.result c.new-empty.ensures.nodes c.new-empty.ensures.view new c.in_ok-parser.ensures.taken in
    subst (λ t. ParserInvariant t (parser_view new)) (sym same)
    (subst (λ r. IfOk r (ParserInvariant t)) parsed (lines_holds t c.invariant.ensures (lines c.args.text.now) (scripted [] []) 1 (nothing_holds t)))

pub returns-clause-ok : goal.returns-clause-ok
returns-clause-ok c =
    let t = c.args.topology.now in
    let text = c.args.text.now in
    let new = c.in_ok-parser.parser in
    subst (IsValueOf c.finish.result) (sym (script_good t text (parser_view new) (all_parsed parser_nodes parser_view with_line t (scripted [] []) (lines text) c.new-empty.result c.new-empty.ensures.nodes c.new-empty.ensures.view new c.in_ok-parser.ensures.taken)))
    c.finish.ensures.ok

pub returns-clause-fits : goal.returns-clause-fits
returns-clause-fits c =
    subst (λ t. IfOk c.finish.result (ScriptFits t))
    (same_context parser_nodes parser_view with_line c.args.topology.now (scripted [] []) (lines c.args.text.now) c.new-empty.result c.new-empty.ensures.nodes c.new-empty.ensures.view c.in_ok-parser.parser c.in_ok-parser.ensures.taken)
    c.finish.ensures.fits

pub returns-clause-err : goal.returns-clause-err
returns-clause-err c =
    let t = c.args.topology.now in
    let text = c.args.text.now in
    let new = c.in_ok-parser.parser in
    subst (IsErrorOf c.finish.result) (sym (script_good t text (parser_view new) (all_parsed parser_nodes parser_view with_line t (scripted [] []) (lines text) c.new-empty.result c.new-empty.ensures.nodes c.new-empty.ensures.view new c.in_ok-parser.ensures.taken)))
    c.finish.ensures.err

pub returns-clause-written : goal.returns-clause-written
returns-clause-written c =
    let t = c.args.topology.now in
    let text = c.args.text.now in
    let new = c.in_ok-parser.parser in
    value_has c.finish.result (script_of t text) (IsAcceptable t text)
    (subst (IsValueOf c.finish.result) (sym (script_good t text (parser_view new) (all_parsed parser_nodes parser_view with_line t (scripted [] []) (lines text) c.new-empty.result c.new-empty.ensures.nodes c.new-empty.ensures.view new c.in_ok-parser.ensures.taken)))
    c.finish.ensures.ok) (is_acceptable t c.invariant.ensures text)

pub returns-clause-accepted : goal.returns-clause-accepted
returns-clause-accepted c = acceptable c.args.topology.now c.invariant.ensures c.args.text.now

pub returns-in_err-parser-clause-accepted : goal.returns-in_err-parser-clause-accepted
returns-in_err-parser-clause-accepted c = acceptable c.args.topology.now c.invariant.ensures c.args.text.now
