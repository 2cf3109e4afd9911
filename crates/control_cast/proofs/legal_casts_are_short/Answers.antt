use Rattle.stat_plan.proofs.PlanFacts.{plan_facts}
use Rattle.control_cast.proofs.Short.{legal_is_short}
use Rattle.control_cast.proofs.legal_casts_are_short.Goals as goal

pub returns : goal.returns
returns c = record { within_bound = λ p commands journal plan. legal_is_short p commands journal (plan_facts p plan) }
