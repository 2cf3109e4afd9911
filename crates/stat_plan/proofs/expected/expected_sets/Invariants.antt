use Rattle.std.proofs.Common.{take}
use Rattle.stat_plan.specs.Files.{plan_in}
use Rattle.stat_plan.specs.Tables.{AreExpected}
use Rattle.stat_plan.proofs.expected.expected_sets.Given as goal

abbrev pub invariant-loop-d : goal.invariant-loop-d
invariant-loop-d l = AreExpected (plan_in l.fn.files) (take l.d-index l.daemons) l.sets.items
