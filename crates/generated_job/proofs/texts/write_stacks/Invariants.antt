use Rattle.std.proofs.Common.{◌≡◌, ◌++◌, map}
use Rattle.std.specs.List.{range_with_len}
use Rattle.generated_job.specs.Texts.{text_of, stack_line}
use Rattle.generated_job.proofs.texts.write_stacks.Given as goal

abbrev pub invariant-loop-r : goal.invariant-loop-r
invariant-loop-r l = l.out.items ≡ l.fn.out.items ++ text_of (map (stack_line l.remainder l.time) (range_with_len 0 l.r))
