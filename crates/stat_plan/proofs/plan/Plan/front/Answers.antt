use Rattle.std.proofs.Common.{ap, ◌∙◌}
use Rattle.stat_plan.specs.Plans.{Plan, front}
use Rattle.overlay_setup.specs.Trees.{root_of}
use Rattle.stat_plan.proofs.plan.Plan.front.Goals as goal

pub returns-clause-value : goal.returns-clause-value
unfolding front
returns-clause-value c = c.front.ensures.value ∙ ap (λ (p : Plan). root_of p.parents) c.self.view_is
