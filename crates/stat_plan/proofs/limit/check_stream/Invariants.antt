use Rattle.std.proofs.Common.{◌≡◌, ℕ, None, map}
use Rattle.std.specs.Prelude.{find}
use Rattle.stat_plan.specs.Limits.{is_over}
use Rattle.overlay_setup.specs.NodeSets.{up_to}
use Rattle.stat_plan.specs.Files.{plan_in}
use Rattle.stat_plan.proofs.limit.check_stream.Given as goal

abbrev pub invariant-loop-wave : goal.invariant-loop-wave
invariant-loop-wave l = find (is_over (plan_in l.fn.files)) (map (λ (w : ℕ). (l.stream.number, w)) (up_to l.wave)) ≡ None
