use Rattle.std.proofs.Common.{arith}
use Rattle.stack_path.proofs.RemarkSteps.{range_more}
use Rattle.stack_path.proofs.remarks.push_range.Goals as goal

pub loop-i-preserved : goal.loop-i-preserved
loop-i-preserved c =
    range_more c.args.path.now c.args.out.now c.loop-i.out c.push.new.self c.args.from c.loop-i.i c.frame.result.now
    (omega arith) c.frame.ensures.frame (omega arith) c.loop-i.invariant c.in_ok-push.ensures.ok
