use Rattle.std.proofs.Common.{◌≡◌, ◌≢◌, sym, subst, Err, Result, Ok, IfOk}
use Rattle.overlay_setup.specs.Topologies.{Nodes, IsTopology}
use Rattle.text_lines.specs.declared.text_error.TextError.{TextError}
use Rattle.text_lines.specs.Parsing.{IsValueOf, IsErrorOf}
use Rattle.text_lines.specs.declared.text_error.TextError.TheVariants.{OutOfMemory}
use Rattle.text_lines.proofs.Errors.{handed_on}
use Rattle.topology_text.specs.Grammar.{IsAcceptable}
use Rattle.topology_text.specs.ParserViews.{parser_view}
use Rattle.topology_text.specs.Whole.{topology_of}
use Rattle.topology_text.proofs.Repeats.{is_acceptable}
use Rattle.topology_text.proofs.Acceptance.{acceptable}
use Rattle.topology_text.proofs.InvariantLemmas.{holds_at_end}
use Rattle.topology_text.proofs.WholeFile.{topology_at_end, topology_bad}
use Rattle.topology_text.proofs.read.Goals as goal

pub returns-in_err-end-clause-err : goal.returns-in_err-end-clause-err
returns-in_err-end-clause-err c =
    handed_on c.from_residual.result c.in_err-end.field-0.0 (λ e. e ≢ OutOfMemory → topology_of c.args.text.now ≡ Err e) c.from_residual.ensures
    (λ memory. topology_bad c.args.text.now (parser_view c.new-parser.result) c.in_err-end.field-0.0 c.new-parser.ensures (c.in_err-end.ensures.err memory))

pub finish-requires : goal.finish-requires
finish-requires c = holds_at_end c.args.text.now (parser_view c.new-parser.result) (parser_view c.read_tokens.new.parser) c.in_ok-end.end c.new-parser.ensures c.in_ok-end.ensures.ok

pub returns-clause-ok : goal.returns-clause-ok
returns-clause-ok c =
    subst (IsValueOf c.finish.result) (sym (topology_at_end c.args.text.now (parser_view c.new-parser.result) (parser_view c.read_tokens.new.parser) c.in_ok-end.end c.new-parser.ensures c.in_ok-end.ensures.ok)) c.finish.ensures.ok

distinct_value : (result : Result Nodes TextError) (parsed : Result Nodes TextError) (P : Nodes → Type 0) → IsValueOf result parsed → IfOk result IsTopology → ((n : Nodes) → parsed ≡ Ok n → IsTopology n → P n) → IfOk result P
distinct_value (Ok n) parsed P is topology has = has n is topology
distinct_value (Err e) parsed P is topology has = tt

pub returns-clause-written : goal.returns-clause-written
returns-clause-written c =
    distinct_value c.finish.result (topology_of c.args.text.now) (IsAcceptable c.args.text.now)
    (subst (IsValueOf c.finish.result) (sym (topology_at_end c.args.text.now (parser_view c.new-parser.result) (parser_view c.read_tokens.new.parser) c.in_ok-end.end c.new-parser.ensures c.in_ok-end.ensures.ok)) c.finish.ensures.ok)
    c.finish.ensures.topology
    (is_acceptable c.args.text.now)

pub returns-clause-err : goal.returns-clause-err
returns-clause-err c =
    subst (IsErrorOf c.finish.result) (sym (topology_at_end c.args.text.now (parser_view c.new-parser.result) (parser_view c.read_tokens.new.parser) c.in_ok-end.end c.new-parser.ensures c.in_ok-end.ensures.ok)) c.finish.ensures.err

pub returns-clause-accepted : goal.returns-clause-accepted
returns-clause-accepted c = acceptable c.args.text.now

pub returns-in_err-end-clause-accepted : goal.returns-in_err-end-clause-accepted
returns-in_err-end-clause-accepted c = acceptable c.args.text.now
