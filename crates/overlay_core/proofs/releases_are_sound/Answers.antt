use Rattle.stat_plan.proofs.PlanFacts.{plan_facts}
use Rattle.overlay_core.proofs.Releases.{legal_log}
use Rattle.overlay_core.proofs.releases_are_sound.Goals as goal

pub returns : goal.returns
returns c = record { sound = λ p journal plan. legal_log p journal (plan_facts p plan) }
