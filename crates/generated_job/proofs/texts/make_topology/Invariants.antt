use Rattle.std.proofs.Common.{◌≡◌, ◌++◌, ◌∷◌, [], map}
use Rattle.std.specs.List.{range_with_len}
use Rattle.generated_job.specs.Texts.{text_of, numbers, statement, front_name, middle_name, middle_count, middle_line}
use Rattle.generated_job.proofs.texts.make_topology.Given as goal

abbrev pub invariant-loop-i : goal.invariant-loop-i
invariant-loop-i l = l.out.items ≡ (statement front_name (map middle_name (numbers (middle_count l.size))) ++ 10 ∷ []) ++ text_of (map (middle_line l.size) (range_with_len 0 l.i))
