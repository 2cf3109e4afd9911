use Rattle.std.proofs.Common.{◌≡◌, ◌++◌, drop}
use Rattle.script_text.specs.Marks.{marked_from}
use Rattle.script_text.proofs.stream_line.marked.Given as goal

abbrev pub invariant-loop-n : goal.invariant-loop-n
invariant-loop-n l = l.nodes.items ++ marked_from l.n (drop l.n l.marks) ≡ marked_from 0 l.marks
