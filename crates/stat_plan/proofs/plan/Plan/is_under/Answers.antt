use Rattle.std.proofs.Common.{ap, ◌∙◌}
use Rattle.overlay_setup.specs.NodeSets.{member}
use Rattle.stat_plan.specs.Plans.{is_under}
use Rattle.stat_plan.proofs.LookupLemmas.{member-contains}
use Rattle.stat_plan.proofs.plan.Plan.is_under.Goals as goal

pub returns : goal.returns
unfolding is_under
returns c = c.contains.ensures.value ∙ member-contains c.args.m c.ancestors.result.now ∙ ap (member c.args.m) c.ancestors.ensures
