-- What the code's threads and processes stand for.
use Rattle.std.specs.Prelude.{map, reverse}
use Rattle.frame_name.specs.CallViews.{call_view}
use Rattle.stack_text.specs.declared.processes.Process.{Process}
use Rattle.stack_text.specs.declared.threads.Thread.{Thread}
use Rattle.stack_text.specs.Processes.{ProcessView}
use Rattle.stack_text.specs.Threads.{ThreadView}

-- the calls, turned round
abbrev pub thread_view : Thread → ThreadView
thread_view t = record { calls = reverse (map call_view t.calls.items); is_odd = t.is_odd }

abbrev pub process_view : Process → ProcessView
process_view p = record { threads = map (λ t. (t.0, thread_view t.1)) p.threads.items; is_odd = p.is_odd }
