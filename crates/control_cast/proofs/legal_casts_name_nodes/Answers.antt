use Rattle.stat_plan.proofs.PlanFacts.{plan_facts}
use Rattle.control_cast.proofs.Picked.{legal_is_named}
use Rattle.control_cast.proofs.legal_casts_name_nodes.Goals as goal

pub returns : goal.returns
returns c = record { nodes = λ p commands journal plan. legal_is_named p commands journal (plan_facts p plan) }
