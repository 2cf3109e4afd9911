use Rattle.stat_plan.proofs.PlanFacts.{plan_facts}
use Rattle.overlay_core.proofs.Growth.{coverage_grows}
use Rattle.overlay_core.proofs.coverages_only_grow.Goals as goal

pub returns : goal.returns
returns c = record { grows = λ p journal e plan legal n s w. coverage_grows p journal e n s w (plan_facts p plan) legal }
