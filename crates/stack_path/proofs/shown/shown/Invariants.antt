use Rattle.std.proofs.Common.{◌≡◌, ◌++◌, drop}
use Rattle.stack_path.specs.Shown.{shown_below, shown}
use Rattle.stack_path.specs.StackViews.{stack_view}
use Rattle.stack_path.proofs.shown.shown.Given as goal

-- what is shown is what the frames so far show, and what those that are left show
abbrev pub invariant-loop-frame : goal.invariant-loop-frame
invariant-loop-frame l = shown l.is_named l.stack ≡ stack_view l.frames.items ++ shown_below l.is_named l.is_below (drop l.frame-index l.stack)
