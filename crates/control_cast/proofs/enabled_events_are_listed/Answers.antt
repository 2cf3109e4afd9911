use Rattle.stat_plan.proofs.PlanFacts.{plan_facts}
use Rattle.control_cast.specs.Machine.{after}
use Rattle.control_cast.proofs.Sound.{legal_is_sound}
use Rattle.control_cast.proofs.Picked.{lists_enabled}
use Rattle.control_cast.proofs.enabled_events_are_listed.Goals as goal

pub returns : goal.returns
returns c = record { listed = λ p commands journal plan l e. let lists = lists_enabled p commands (plan_facts p plan) in (λ en. lists.listed (after p journal) e (legal_is_sound p commands journal (plan_facts p plan) l) en, λ i. lists.may_come (after p journal) e i) }
