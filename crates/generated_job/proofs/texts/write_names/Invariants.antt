use Rattle.std.proofs.Common.{◌≡◌, ◌++◌}
use Rattle.std.specs.Fmt.{decimal}
use Rattle.std.specs.List.{flat_map, range_with_len}
use Rattle.generated_job.proofs.texts.write_names.Given as goal

abbrev pub invariant-loop-k : goal.invariant-loop-k
invariant-loop-k l = l.out.items ≡ l.fn.out.items ++ flat_map (λ i. l.word ++ decimal i) (range_with_len l.first l.k)
