use Rattle.std.proofs.Common.{arith}
use Rattle.call_path.proofs.TextOrders.{agree_more}
use Rattle.call_path.proofs.text_order.shared_blocks.Goals as goal

pub loop-offset-preserved : goal.loop-offset-preserved
loop-offset-preserved c =
    let block = c.shares_block.ensures in
    let left = block.left c.loop-offset-test.true in
    let right = block.right c.loop-offset-test.true in
    record {
      left = omega arith;
      right = omega arith;
      same = agree_more c.args.text.now c.args.other.now c.loop-offset.offset 16 c.loop-offset.invariant.same (block.same c.loop-offset-test.true);
    }
