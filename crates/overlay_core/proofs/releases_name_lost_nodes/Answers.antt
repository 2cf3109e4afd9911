use Rattle.overlay_core.proofs.NamedLosses.{named_is_lost}
use Rattle.stat_plan.proofs.PlanFacts.{plan_facts}
use Rattle.overlay_core.proofs.releases_name_lost_nodes.Goals as goal

pub returns : goal.returns
returns c = record { named = λ p journal plan legal r n. named_is_lost p journal r n (plan_facts p plan) legal }
