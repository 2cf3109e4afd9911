use Rattle.stat_plan.proofs.PlanFacts.{plan_facts}
use Rattle.overlay_core.proofs.Picks.{picked_is_picked, picked_is_one}
use Rattle.overlay_core.proofs.seeds_pick_one_journal.Goals as goal

pub returns : goal.returns
returns c = record { exists = λ p seed plan. picked_is_picked p seed (plan_facts p plan); unique = λ p seed journal plan. picked_is_one p seed journal (plan_facts p plan) }
