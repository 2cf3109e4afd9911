use Rattle.std.proofs.Common.{arith}
use Rattle.node_inbox.proofs.Sending.{runs_beyond, runs_enough}
use Rattle.node_inbox.proofs.delivery.most_to_one.Goals as goal
use Rattle.node_inbox.proofs.delivery.most_to_one.Goals.{else-to-next, then-to-next}

pub loop-to-preserved : goal.loop-to-preserved
loop-to-preserved g c =
    let sends = c.args.sends.now in
    let i = c.loop-to.to-index in
    let v = c.loop-to-item.result in
    let more = c.if-to-next.runs in
    let before = c.loop-to.invariant in
    let is = c.from-to.ensures in
    let at_least = before.at_least in
    let at_most = before.at_most in
    let later = before.later in
    elim c.if-to-next.branch [
      | then-to-next w ↦
          let same = w.runs-is in
          let in_new = w.if-to-next.true in
          record {
            enough = runs_enough i c.loop-to.runs c.loop-to.next more sends v c.loop-to-test.true c.loop-to-item.is before.enough before.beyond (omega arith) (λ new. omega arith);
            beyond = λ b past. runs_beyond i c.loop-to.runs c.loop-to.next more sends v c.loop-to-test.true c.loop-to-item.is before.enough before.beyond (omega arith) (λ new. omega arith) b (omega arith);
            started = λ some. omega arith;
            at_least = omega arith;
            at_most = omega arith;
            later = λ some. omega arith;
          }
      | else-to-next w ↦
          let same = w.runs-is in
          let in_run = w.if-to-next.false in
          record {
            enough = runs_enough i c.loop-to.runs c.loop-to.next more sends v c.loop-to-test.true c.loop-to-item.is before.enough before.beyond (omega arith) (λ new. omega arith);
            beyond = λ b past. runs_beyond i c.loop-to.runs c.loop-to.next more sends v c.loop-to-test.true c.loop-to-item.is before.enough before.beyond (omega arith) (λ new. omega arith) b (omega arith);
            started = λ some. omega arith;
            at_least = omega arith;
            at_most = omega arith;
            later = λ some. omega arith;
          }
    ]
