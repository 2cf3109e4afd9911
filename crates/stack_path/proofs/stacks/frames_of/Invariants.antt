use Rattle.std.proofs.Common.{◌≡◌, ◌++◌, length, map}
use Rattle.std.specs.Prelude.{reverse}
use Rattle.frame_name.specs.CallViews.{call_view}
use Rattle.frame_name.specs.RuleViews.{rules_view}
use Rattle.stack_path.specs.Stacks.{frames_of}
use Rattle.stack_path.proofs.stacks.frames_of.Given as goal

-- the frames so far, and those of the calls that are left
abbrev pub invariant-loop-call : goal.invariant-loop-call
invariant-loop-call l = frames_of (rules_view l.rules) (reverse (map call_view l.fn.calls))
    ≡ l.frames.items ++ frames_of (rules_view l.rules) (reverse (map call_view l.rest))

abbrev pub decreases-loop-call : goal.decreases-loop-call
decreases-loop-call l = length l.rest
