use Rattle.stat_plan.proofs.PlanFacts.{plan_facts}
use Rattle.overlay_core.proofs.Potential.{legal_is_short}
use Rattle.overlay_core.proofs.Journals.{legal_has_room}
use Rattle.overlay_core.proofs.legal_journals_are_short.Goals as goal

pub returns : goal.returns
returns c = record { within_bound = λ p journal plan. legal_is_short p journal (plan_facts p plan); below_bound = λ p journal plan legal e. legal_has_room p journal e (plan_facts p plan) legal }
