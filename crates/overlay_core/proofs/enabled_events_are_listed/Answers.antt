use Rattle.stat_plan.proofs.PlanFacts.{plan_facts}
use Rattle.overlay_core.proofs.Journals.{listed_where_enabled, quiet_where_empty}
use Rattle.overlay_core.proofs.enabled_events_are_listed.Goals as goal

pub returns : goal.returns
returns c = record { listed = λ p journal plan legal e. listed_where_enabled p journal e (plan_facts p plan) legal; quiet = λ p journal plan. quiet_where_empty p journal (plan_facts p plan) }
