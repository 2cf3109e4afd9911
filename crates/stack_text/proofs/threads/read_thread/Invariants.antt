use Rattle.std.proofs.Common.{◌≡◌, length}
use Rattle.text_lines.specs.Lines.{pieces}
use Rattle.stack_text.specs.StackViews.{thread_view}
use Rattle.stack_text.specs.Threads.{with_lines, thread_of}
use Rattle.stack_text.proofs.threads.read_thread.Given as goal

-- the lines that are left make the whole of what was read
abbrev pub invariant-loop-line : goal.invariant-loop-line
invariant-loop-line l = with_lines (thread_view l.thread) (pieces l.rest) ≡ thread_of (pieces l.text)

abbrev pub decreases-loop-line : goal.decreases-loop-line
decreases-loop-line l = length l.rest
