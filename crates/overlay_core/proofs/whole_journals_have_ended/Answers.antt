use Rattle.stat_plan.proofs.PlanFacts.{plan_facts}
use Rattle.overlay_core.proofs.Ended.{whole_has_ended}
use Rattle.overlay_core.proofs.whole_journals_have_ended.Goals as goal

pub returns : goal.returns
returns c = record { ended = λ p journal plan. whole_has_ended p journal (plan_facts p plan) }
