use Rattle.std.proofs.Common.{◌∙◌, sym, arith}
use Rattle.stack_path.specs.StackViews.{stack_view}
use Rattle.stack_path.proofs.Cycles.{search_begins, found_here, not_here, found_none}
use Rattle.stack_path.proofs.recursion.cycle_len.Goals as goal

pub loop-n-init : goal.loop-n-init
loop-n-init c = search_begins (stack_view c.args.stack.now)

pub returns-then-ends_twice-clause-value : goal.returns-then-ends_twice-clause-value
returns-then-ends_twice-clause-value c =
    found_here c.loop-n.n (stack_view c.args.stack.now) c.loop-n-test.true c.loop-n.invariant
    (sym c.ends_twice.ensures ∙ c.if-ends_twice.true)

pub loop-n-preserved : goal.loop-n-preserved
loop-n-preserved c =
    not_here c.loop-n.n (stack_view c.args.stack.now) c.loop-n-test.true c.loop-n.invariant
    (sym c.ends_twice.ensures ∙ c.if-ends_twice.false)

pub returns-clause-value : goal.returns-clause-value
returns-clause-value c =
    found_none c.loop-n.n (stack_view c.args.stack.now) (omega arith) c.loop-n.invariant
