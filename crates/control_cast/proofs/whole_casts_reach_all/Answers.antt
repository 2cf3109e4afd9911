use Rattle.stat_plan.proofs.PlanFacts.{plan_facts}
use Rattle.control_cast.proofs.Quiet.{whole_is_obeyed}
use Rattle.control_cast.proofs.whole_casts_reach_all.Goals as goal

pub returns : goal.returns
returns c = record { reached = λ p commands journal plan. whole_is_obeyed p commands journal (plan_facts p plan) }
