use Rattle.std.proofs.Common.{ap, ◌∙◌}
use Rattle.stat_tool.proofs.Losses.{loses_none, loses_one}
use Rattle.stat_tool.proofs.output.losses_of.Goals as goal
use Rattle.stat_tool.proofs.output.losses_of.Goals.{in-Lose+in_ok-push, in_default}

pub loop-number-preserved : goal.loop-number-preserved
loop-number-preserved c =
    let old = c.loop-number.lost.items in
    let events = c.args.journal.now in
    let i = c.loop-number.number in
    elim c.match-at.branch [
      | in-Lose+in_ok-push w ↦ loses_one old c.match-at.lost.items events i w.in-Lose.node c.at.result c.at.ensures w.in-Lose.is (ap (λ v. v.items) w.lost-is ∙ w.in_ok-push.ensures.items) c.loop-number.invariant
      | in_default w ↦ loses_none old c.match-at.lost.items events i c.at.result c.at.ensures w.in_default.not-Lose (ap (λ v. v.items) w.lost-is) c.loop-number.invariant
    ]
