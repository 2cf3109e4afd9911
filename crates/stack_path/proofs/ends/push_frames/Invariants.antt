use Rattle.std.proofs.Common.{◌≡◌, ◌++◌, map, take}
use Rattle.frame_name.specs.Frames.{frame_text}
use Rattle.stack_path.specs.StackViews.{stack_view}
use Rattle.stack_path.proofs.ends.push_frames.Given as goal

abbrev pub invariant-loop-frame : goal.invariant-loop-frame
invariant-loop-frame l = l.path ≡ l.initial.path ++ map frame_text (stack_view (take l.frame-index l.frames))
