use Rattle.std.proofs.Common.{◌≡◌, ◌∙◌, ap, arith, filter}
use Rattle.overlay_setup.specs.NodeSets.{up_to}
use Rattle.overlay_setup.specs.Trees.{is_daemon}
use Rattle.stat_plan.specs.Plans.{nodes}
use Rattle.cast_text.proofs.Lines.{daemons_below}
use Rattle.cast_text.proofs.report.daemons_of.Goals as goal

pub returns-clause-value : goal.returns-clause-value
returns-clause-value c =
    let e : c.loop-n.n ≡ nodes c.args.plan.now = omega (arith, c.loop-n-test.false, c.loop-n.auto.n-end, c.nodes-n-end.ensures) in
    c.loop-n.invariant ∙ ap (λ k. filter (is_daemon c.args.plan.now.parents) (up_to k)) e

pub returns-clause-nodes : goal.returns-clause-nodes
returns-clause-nodes c =
    let e : c.loop-n.n ≡ nodes c.args.plan.now = omega (arith, c.loop-n-test.false, c.loop-n.auto.n-end, c.nodes-n-end.ensures) in
    daemons_below c.args.plan.now c.loop-n.daemons.items (c.loop-n.invariant ∙ ap (λ k. filter (is_daemon c.args.plan.now.parents) (up_to k)) e)
