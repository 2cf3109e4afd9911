use Rattle.stat_plan.proofs.PlanFacts.{plan_facts}
use Rattle.control_cast.proofs.Sound.{legal_is_sound}
use Rattle.control_cast.proofs.casts_obey_in_order.Goals as goal

pub returns : goal.returns
returns c = record { order = λ p commands journal plan l. let h = legal_is_sound p commands journal (plan_facts p plan) l in record { order = h.order; above = λ n q un uq u. h.above n q uq u } }
