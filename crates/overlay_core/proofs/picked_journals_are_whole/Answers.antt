use Rattle.stat_plan.proofs.PlanFacts.{plan_facts}
use Rattle.overlay_core.proofs.Picks.{picked_is_whole}
use Rattle.overlay_core.proofs.picked_journals_are_whole.Goals as goal

pub returns : goal.returns
returns c = record { whole = λ p seed plan. picked_is_whole p seed (plan_facts p plan) }
