use Rattle.std.proofs.Common.{◌≡◌, ℕ, suc, ◌++◌, List, length, map, Option, None, Some, Bor}
use Rattle.std.specs.Prelude.{option_map}
use Rattle.text_lines.specs.Lines.{lines}
use Rattle.stack_text.specs.Processes.{parted, printed_below, threads_from}
use Rattle.stack_text.specs.StackViews.{thread_view}
use Rattle.stack_text.proofs.processes.read_process.Given as goal

-- the threads that were read and those that are left make the whole
abbrev pub invariant-loop-next : goal.invariant-loop-next
invariant-loop-next l =
    map (λ t. (t.0, thread_view t.1)) l.threads.items
    ++ map printed_below (threads_from (option_map (λ n. (n.0, n.1.now)) l.next))
    ≡ map printed_below (parted (lines l.text)).threads

-- how many bytes are left
abbrev bytes_left : Option (ℕ × Bor (List ℕ)) → ℕ
bytes_left None = 0
bytes_left (Some next) = suc (length next.1.now)

abbrev pub decreases-loop-next : goal.decreases-loop-next
decreases-loop-next l = bytes_left l.next
