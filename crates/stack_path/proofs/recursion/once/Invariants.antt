use Rattle.std.proofs.Common.{◌≡◌, drop}
use Rattle.stack_path.specs.ChoiceViews.{recursion_view}
use Rattle.stack_path.specs.Recursion.{once, with_calls}
use Rattle.stack_path.specs.StackViews.{stack_view}
use Rattle.stack_path.proofs.recursion.once.Given as goal

abbrev pub invariant-loop-frame : goal.invariant-loop-frame
invariant-loop-frame l = once (recursion_view l.recursion) (stack_view l.calls) ≡
    with_calls (recursion_view l.recursion) (stack_view l.shown.items) (stack_view (drop l.frame-index l.calls))
