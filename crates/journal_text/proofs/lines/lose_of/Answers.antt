use Rattle.std.proofs.Common.{sym, subst, ◌++◌, codes}
use Rattle.journal_text.specs.Reading.{IsEventRead}
use Rattle.journal_text.proofs.LineReading.{known_lose, unknown_lose}
use Rattle.journal_text.proofs.lines.lose_of.Goals as goal

pub returns-in_err-node : goal.returns-in_err-node
returns-in_err-node c =
    subst (IsEventRead c.args.plan.now (codes "lose " ++ c.args.name.now)) (sym c.from_residual.ensures) (unknown_lose c.args.plan.now c.invariant.ensures c.args.name.now c.in_err-node.ensures)

pub returns : goal.returns
returns c = known_lose c.args.plan.now c.invariant.ensures c.args.name.now c.in_ok-node.node c.in_ok-node.ensures
