use Rattle.std.proofs.Common.{◌∙◌, ◌<◌, sym, subst}
use Rattle.std.specs.List.{AllByRecursion}
use Rattle.stat_plan.specs.Plans.{nodes}
use Rattle.stat_plan.proofs.LookupLemmas.{daemons_at}
use Rattle.front_end.proofs.Daemons.{daemons_are_nodes, no_daemons}
use Rattle.front_end.proofs.release_text.daemons_of.Goals as goal

pub returns-in-Some-clause-value : goal.returns-in-Some-clause-value
returns-in-Some-clause-value c = c.daemons.ensures ∙ daemons_at c.args.plan.now c.args.stream c.in-Some.stream.now c.in-Some.ensures

pub returns-in-Some-clause-nodes : goal.returns-in-Some-clause-nodes
returns-in-Some-clause-nodes c =
    subst (AllByRecursion (λ d. d < nodes c.args.plan.now)) (sym c.daemons.ensures) (daemons_are_nodes c.args.plan.now c.args.stream c.in-Some.stream.now c.invariant.ensures c.in-Some.ensures)

pub returns-in-None-clause-value : goal.returns-in-None-clause-value
returns-in-None-clause-value c = no_daemons c.args.plan.now c.args.stream c.in-None.ensures
