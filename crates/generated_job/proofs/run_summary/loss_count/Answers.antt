use mir.Val.{bool_byte}
use Rattle.std.proofs.Common.{◌≡◌, ◌∙◌, ◌+◌, ap, cond, arith, length, filter, drop, suc}
use Rattle.generated_job.specs.Summary.{is_loss}
use Rattle.generated_job.proofs.Counting.{counted, byte_is, at_most_one}
use Rattle.generated_job.proofs.run_summary.loss_count.Goals as goal

pub loop-i-preserved : goal.loop-i-preserved
loop-i-preserved c =
    let step = counted is_loss c.args.journal.now c.loop-i.i c.at.result c.at.ensures in
    let one = c.from-count.ensures in
    let this = c.is_loss.ensures in
    let n : c.loop-i.i + 1 ≡ suc c.loop-i.i = omega arith in
    let left : length (filter is_loss (drop (c.loop-i.i + 1) c.args.journal.now)) ≡ length (filter is_loss (drop (suc c.loop-i.i) c.args.journal.now)) = ap (λ k. length (filter is_loss (drop k c.args.journal.now))) n in
    let value : c.from-count.result ≡ cond (is_loss c.at.result) 1 0 = one ∙ ap bool_byte this ∙ byte_is (is_loss c.at.result) in
    let most = at_most_one (is_loss c.at.result) in
    record { rest = omega arith; bounded = omega arith }
