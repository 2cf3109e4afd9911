use Rattle.rank_sums.proofs.PartSamples.{samples_carry}
use Rattle.rank_sums.proofs.PartPlan.{part_plan_is_plan}
use Rattle.rank_sums.proofs.part_plans_carry_parts.Goals as goal

pub returns : goal.returns
returns c = record { plan = λ p v f has. part_plan_is_plan p v f has.plan has.fits; carry = λ p v f s w has. samples_carry p v f s w has.plan has.fits }
