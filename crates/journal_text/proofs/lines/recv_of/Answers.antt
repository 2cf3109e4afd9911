use Rattle.std.proofs.Common.{sym, subst, ◌++◌, codes}
use Rattle.journal_text.specs.Reading.{IsEventRead}
use Rattle.journal_text.proofs.LineReading.{recv_unknown, from_unknown, recv_read}
use Rattle.journal_text.proofs.lines.recv_of.Goals as goal

pub returns-in_err-node : goal.returns-in_err-node
returns-in_err-node c =
    subst (IsEventRead c.args.plan.now (codes "recv " ++ c.args.text.now)) (sym c.from_residual-in_err-node.ensures)
    (recv_unknown c.args.plan.now c.invariant.ensures c.args.text.now c.in_ok-name.name.now c.in_ok-name.from.now c.in_ok-name.ensures.0 c.in_ok-name.ensures.1 c.in_err-node.ensures)

pub returns-in_err-from : goal.returns-in_err-from
returns-in_err-from c =
    subst (IsEventRead c.args.plan.now (codes "recv " ++ c.args.text.now)) (sym c.from_residual-in_err-from.ensures)
    (from_unknown c.args.plan.now c.invariant.ensures c.args.text.now c.in_ok-name.name.now c.in_ok-name.from.now c.in_ok-name.ensures.0 c.in_ok-name.ensures.1 c.in_err-from.ensures)

pub returns : goal.returns
returns c =
    recv_read c.args.plan.now c.invariant.ensures c.args.text.now c.in_ok-name.name.now c.in_ok-name.from.now c.in_ok-name.ensures.0 c.in_ok-name.ensures.1 c.in_ok-node.node c.in_ok-from.from c.in_ok-node.ensures c.in_ok-from.ensures
