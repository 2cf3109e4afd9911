use Rattle.std.proofs.Common.{ℕ, ◌≡◌, ◌==◌, length, get_or, take, None}
use Rattle.std.specs.Prelude.{find}
use Rattle.overlay_setup.specs.declared.script.Fault.{Fault}
use Rattle.stat_plan.specs.Plans.{nodes}
use Rattle.stat_plan.specs.Files.{plan_in}
use Rattle.stat_plan.proofs.plan.fault_table.Given as goal

abbrev pub invariant-loop-f : goal.invariant-loop-f
invariant-loop-f l = record {
  paired : length l.table.items ≡ nodes (plan_in l.fn.files);
  each : (n : ℕ) → get_or l.table.items n None ≡ find (λ (f : Fault). f.node == n) (take l.f-index l.f-items);
}
