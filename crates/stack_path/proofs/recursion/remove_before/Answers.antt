use Rattle.std.proofs.Common.{◌+◌, ◌-◌, arith}
use Rattle.stack_path.proofs.Views.{removed_one, middle_view}
use Rattle.stack_path.proofs.recursion.remove_before.Goals as goal

pub loop-preserved : goal.loop-preserved
loop-preserved c =
    removed_one c.args.stack.now.items c.loop.stack.items c.remove.new.self.items (c.len.result - (c.args.n + c.args.n)) c.loop.counter
    (omega arith) c.loop.invariant c.remove.ensures.items

pub returns : goal.returns
returns c =
    middle_view c.args.stack.now.items c.loop.stack.items c.args.n (c.len.result - (c.args.n + c.args.n)) c.loop.counter
    c.requires (omega arith) (omega arith) c.loop.invariant
