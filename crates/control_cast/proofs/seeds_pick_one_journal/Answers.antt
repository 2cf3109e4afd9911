use Rattle.stat_plan.proofs.PlanFacts.{plan_facts}
use Rattle.control_cast.specs.Picked.{picked}
use Rattle.control_cast.proofs.Picked.{picked_is_picked, picked_is_legal, picked_is_quiet, one_is_picked}
use Rattle.control_cast.proofs.seeds_pick_one_journal.Goals as goal

pub returns : goal.returns
returns c = record {
  exists = λ p commands seed plan. picked_is_picked p commands seed (plan_facts p plan);
  unique = λ p commands seed journal plan. one_is_picked p commands seed journal (plan_facts p plan);
  legal = λ p commands seed plan. picked_is_legal p commands seed (picked p commands seed) (plan_facts p plan) (picked_is_picked p commands seed (plan_facts p plan));
  quiet = λ p commands seed plan. picked_is_quiet p commands seed (picked p commands seed) (plan_facts p plan) (picked_is_picked p commands seed (plan_facts p plan));
}
