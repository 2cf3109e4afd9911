use Rattle.std.proofs.Common.{arith}
use Rattle.control_cast.proofs.Numbers.{one_number_more, all_numbers}
use Rattle.control_cast.proofs.node.to_one.Goals as goal

pub loop-i-preserved : goal.loop-i-preserved
loop-i-preserved c = record {
  above = omega (arith, c.loop-i.invariant.above);
  within = omega (arith, c.loop-i.invariant.within, c.loop-i-test.true);
  sends = one_number_more c.args.to c.args.k c.loop-i.i c.loop-i.sends.items c.push.new.self.items c.loop-i.invariant.above c.loop-i.invariant.sends c.in_ok-push.ensures.items;
}

pub returns : goal.returns
returns c = all_numbers c.args.to c.args.k c.loop-i.i c.args.seen c.loop-i.sends.items c.loop-i.invariant.within (omega (arith, c.loop-i-test.false)) c.loop-i.invariant.sends
