use Rattle.std.proofs.Common.{◌≡◌, ◌≤◌, length}
use Rattle.std.specs.Prelude.{◌||◌}
use Rattle.text_lines.specs.Lines.{lines}
use Rattle.stack_text.specs.Processes.{has_odd_head, parted}
use Rattle.stack_text.proofs.processes.read_head.Given as goal

-- the lines that are left make the head and the threads
abbrev pub invariant-loop-line : goal.invariant-loop-line
invariant-loop-line l = record {
  head : (l.is_odd || has_odd_head l.pid (parted (lines l.rest)).head) ≡ has_odd_head l.pid (parted (lines l.text)).head;
  threads : (parted (lines l.rest)).threads ≡ (parted (lines l.text)).threads;
  within : length l.rest ≤ length l.text;
}

abbrev pub decreases-loop-line : goal.decreases-loop-line
decreases-loop-line l = length l.rest
