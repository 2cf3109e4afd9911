use Rattle.std.proofs.Common.{◌≡◌, ◌+◌, ap, refl, arith}
use Rattle.overlay_core.specs.TreeReleases.{releases_view}
use Rattle.overlay_node.specs.NodeViews.{NodeView, node_kin}
use Rattle.overlay_node.proofs.Handling.{Handles, handles_by, may_by}
use Rattle.overlay_node.proofs.node.Node.handle.Given as given
use Rattle.overlay_node.proofs.node.Node.handle.Goals as goal

pub step-requires-clause-event : goal.step-requires-clause-event
step-requires-clause-event g c κs within =
    may_by c.args.plan.now c.args.self c.self.inside.kin c.self.inside.book c.self.inside.held.items c.args.event c.args.frame
    (ap (λ (v : NodeView). node_kin v) c.self.view_is) (ap (λ (v : NodeView). v.book) c.self.view_is) (ap (λ (v : NodeView). v.held) c.self.view_is) c.requires.event

-- the node and the output after the event
after : (g : given.Over) (c : goal.In_ok-step g)
    → Handles c.args.plan.now c.args.self
    (record { number = c.step.new.kin.node; kin = c.step.new.kin.kin; book = c.step.new.self.work.book; held = c.step.new.self.held.items; count = c.self.inside.count + 1 })
    c.args.event c.args.frame c.step.new.self.work.effects
after g c =
    let count : c.self.inside.count ≡ c.args.self.count = ap (λ (v : NodeView). v.count) c.self.view_is in
    handles_by c.args.plan.now c.args.self _ c.args.event c.args.frame c.self.inside.kin c.self.inside.book c.self.inside.held.items c.step.new.self.held.items _ _ c.invariant.ensures c.requires.node
    (ap (λ (v : NodeView). node_kin v) c.self.view_is) (ap (λ (v : NodeView). v.book) c.self.view_is) (ap (λ (v : NodeView). v.held) c.self.view_is) refl
    (λ i. record { sends = c.new.ensures.items i; releases = releases_view {X = g.row.T.Denot} g.T.PrefixTree.tree (c.new-2.ensures.items i) })
    c.in_ok-step.ensures.kin c.in_ok-step.ensures.fits (omega (arith, count)) c.in_ok-step.ensures.steps

pub returns-clause-node : goal.returns-clause-node
returns-clause-node g c = (after g c).node

pub returns-clause-sends : goal.returns-clause-sends
returns-clause-sends g c = (after g c).sends

pub returns-clause-packets : goal.returns-clause-packets
returns-clause-packets g c = (after g c).packets

pub returns-clause-frames : goal.returns-clause-frames
returns-clause-frames g c = (after g c).frames

pub returns-clause-releases : goal.returns-clause-releases
returns-clause-releases g c = (after g c).releases

pub returns-clause-fits : goal.returns-clause-fits
returns-clause-fits g c = (after g c).fits

pub returns-clause-trees : goal.returns-clause-trees
returns-clause-trees g c = (after g c).trees

pub returns-clause-numbers : goal.returns-clause-numbers
returns-clause-numbers g c = (after g c).numbers

pub returns-clause-counts : goal.returns-clause-counts
returns-clause-counts g c = (after g c).counts
