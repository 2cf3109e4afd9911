use Rattle.std.proofs.Common.{◌≡◌}
use Rattle.sample_text.specs.Whole.{empty_sets}
use Rattle.sample_text.proofs.parser.empty_sets.Given as goal

abbrev pub invariant-loop : goal.invariant-loop
invariant-loop l = l.sets.items ≡ empty_sets l.counter
