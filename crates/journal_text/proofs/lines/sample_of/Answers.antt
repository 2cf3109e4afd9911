use Rattle.std.proofs.Common.{sym, subst, ◌++◌, codes}
use Rattle.journal_text.specs.Reading.{IsEventRead}
use Rattle.journal_text.proofs.LineReading.{sample_unknown, sample_no_wave, sample_read}
use Rattle.journal_text.proofs.lines.sample_of.Goals as goal

pub returns-in_err-node : goal.returns-in_err-node
returns-in_err-node c =
    subst (IsEventRead c.args.plan.now (codes "sample " ++ c.args.text.now)) (sym c.from_residual-in_err-node.ensures)
    (sample_unknown c.args.plan.now c.invariant.ensures c.args.text.now c.in_ok-name.name.now c.in_ok-name.wave.now c.in_ok-name.ensures.0 c.in_ok-name.ensures.1 c.in_err-node.ensures)

pub returns-in_err-stream : goal.returns-in_err-stream
returns-in_err-stream c =
    subst (IsEventRead c.args.plan.now (codes "sample " ++ c.args.text.now)) (sym c.from_residual-in_err-stream.ensures)
    (sample_no_wave c.args.plan.now c.invariant.ensures c.args.text.now c.in_ok-name.name.now c.in_ok-name.wave.now c.in_ok-name.ensures.0 c.in_ok-name.ensures.1 c.in_err-stream.ensures)

pub returns : goal.returns
returns c =
    sample_read c.args.plan.now c.invariant.ensures c.args.text.now c.in_ok-name.name.now c.in_ok-name.wave.now c.in_ok-name.ensures.0 c.in_ok-name.ensures.1 c.in_ok-node.node c.in_ok-stream.stream c.in_ok-stream.wave c.in_ok-node.ensures c.in_ok-stream.ensures
