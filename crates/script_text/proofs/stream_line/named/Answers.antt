use Rattle.std.proofs.Common.{◌≡◌, ◌≢◌, ◌<◌, ◌∙◌, sym, ap, Ok, Err, [], length, false, true, replicate, arith}
use Rattle.std.proofs.Math.ListN.{length-set}
use Rattle.text_lines.specs.Lines.{words}
use Rattle.text_lines.specs.declared.text_error.TextError.TheVariants.{OutOfMemory}
use Rattle.script_text.specs.Marks.{marked_from}
use Rattle.script_text.specs.Streams.{with_named}
use Rattle.script_text.proofs.Marking.{one_more, none_marked}
use Rattle.text_lines.proofs.Errors.{handed_on}
use Rattle.script_text.proofs.Streams.{named_none, named_bad, named_next}
use Rattle.script_text.proofs.stream_line.named.Goals as goal

pub loop-name-init : goal.loop-name-init
loop-name-init c =
    let none : c.in_ok-marks.marks.items ≡ replicate c.nodes.result false = c.in_ok-marks.ensures.items_if_clones_equal (λ y same. same) in
    record {
      marks = omega (arith, c.in_ok-marks.ensures.len, c.in_ok-marks.marks.ok.0, c.nodes.ensures);
      parser_view = ap (λ ms. with_named c.args.topology.now c.args.line_number (marked_from 0 ms) (words c.args.names.now)) none ∙ ap (λ ds. with_named c.args.topology.now c.args.line_number ds (words c.args.names.now)) (none_marked c.nodes.result 0);
    }

pub returns-in_err-daemon-clause-err : goal.returns-in_err-daemon-clause-err
returns-in_err-daemon-clause-err c =
    handed_on c.from_residual-in_err-daemon.result c.in_err-daemon.field-0.0 (λ e. e ≢ OutOfMemory → with_named c.args.topology.now c.args.line_number [] (words c.args.names.now) ≡ Err e) c.from_residual-in_err-daemon.ensures
    (λ _. sym c.loop-name.invariant.parser_view
    ∙ named_bad c.args.topology.now c.args.line_number (marked_from 0 c.loop-name.marks.items) (words c.loop-name.rest.now) c.in-Some.name.now (words c.in-Some.after.now) c.in_err-daemon.field-0.0 c.in-Some.ensures.words c.in_err-daemon.ensures.err)

pub loop-name-preserved : goal.loop-name-preserved
loop-name-preserved c =
    let lt : c.in_ok-daemon.daemon < length c.loop-name.marks.items = omega (arith, c.loop-name.invariant.marks, c.in_ok-daemon.ensures.node) in
    record {
      marks = length-set c.loop-name.marks.items c.in_ok-daemon.daemon true ∙ c.loop-name.invariant.marks;
      parser_view = ap (λ ds. with_named c.args.topology.now c.args.line_number ds (words c.in-Some.after.now)) (one_more c.loop-name.marks.items c.in_ok-daemon.daemon lt)
          ∙ sym (named_next c.args.topology.now c.args.line_number (marked_from 0 c.loop-name.marks.items) (words c.loop-name.rest.now) c.in-Some.name.now (words c.in-Some.after.now) c.in_ok-daemon.daemon c.in-Some.ensures.words c.in_ok-daemon.ensures.ok)
          ∙ c.loop-name.invariant.parser_view;
    }

pub returns-clause-ok : goal.returns-clause-ok
returns-clause-ok c =
    sym c.loop-name.invariant.parser_view
    ∙ named_none c.args.topology.now c.args.line_number (marked_from 0 c.loop-name.marks.items) (words c.loop-name.rest.now) c.in_default.ensures.words
    ∙ ap Ok (ap (marked_from 0) (sym c.deref.ensures.value) ∙ sym c.in_ok-marked.ensures)
