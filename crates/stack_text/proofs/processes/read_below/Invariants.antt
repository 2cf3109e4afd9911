use Rattle.std.proofs.Common.{◌≡◌, ◌≤◌, length}
use Rattle.text_lines.specs.Lines.{lines}
use Rattle.stack_text.specs.Processes.{parted}
use Rattle.stack_text.specs.StackViews.{thread_view}
use Rattle.stack_text.specs.Threads.{thread_of, with_lines}
use Rattle.stack_text.proofs.processes.read_below.Given as goal

-- the lines that are left make the whole of the thread, and the threads below
abbrev pub invariant-loop-line : goal.invariant-loop-line
invariant-loop-line l = record {
  thread : with_lines (thread_view l.thread) (parted (lines l.rest)).head ≡ thread_of (parted (lines l.text)).head;
  threads : (parted (lines l.rest)).threads ≡ (parted (lines l.text)).threads;
  within : length l.rest ≤ length l.text;
}

abbrev pub decreases-loop-line : goal.decreases-loop-line
decreases-loop-line l = length l.rest
