use Rattle.stat_plan.proofs.PlanFacts.{plan_facts}
use Rattle.overlay_core.proofs.Whole.{legal_is_sound}
use Rattle.overlay_core.proofs.legal_journals_are_sound.Goals as goal

pub returns : goal.returns
returns c = record { sound = λ p journal plan. legal_is_sound p journal (plan_facts p plan) }
