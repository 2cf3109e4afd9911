use Rattle.stat_plan.proofs.PlanFacts.{plan_facts}
use Rattle.overlay_core.proofs.Ended.{waits_for_all}
use Rattle.overlay_core.proofs.waiting_streams_release_once.Goals as goal

pub returns : goal.returns
returns c = record { once = λ p journal plan whole s w. waits_for_all p journal s w (plan_facts p plan) whole }
