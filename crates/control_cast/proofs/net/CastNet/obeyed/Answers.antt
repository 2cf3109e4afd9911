use Rattle.std.proofs.Common.{◌≡◌, ◌≤◌, ◌<◌, ◌∙◌, length, take, get_or, sym, ap, subst, arith}
use Rattle.std.proofs.lemmas.List.{length-take}
use Rattle.stat_plan.specs.Plans.{nodes}
use Rattle.control_cast.specs.CastNodes.{obeyed_of}
use Rattle.control_cast.specs.CastNets.{node_at}
use Rattle.control_cast.specs.CastViews.{NetView}
use Rattle.control_cast.proofs.Starting.{obeyed_are}
use Rattle.control_cast.proofs.net.CastNet.obeyed.Goals as goal

are : (c : goal.After-as_slice) → (c.seen-seen.result ≤ length c.as_slice.result.now) × (take c.seen-seen.result c.as_slice.result.now ≡ obeyed_of (node_at c.self.inside.plan.now c.self.inside.state.nodes.members.items c.args.n))
are c =
    let st = c.self.inside.state.nodes in
    obeyed_are c.self.inside.plan.now c.self.inside.commands st.alive.items st.members.items st.inboxes.items c.args.n c.index-members-n.result c.seen-seen.result c.as_slice.result.now c.invariant.ensures c.self.invariant.0
    (c.self.invariant.2 (ap (λ (v : NetView). v.failed) c.self.view_is ∙ c.requires.usable)).net
    (subst (λ (v : NetView). c.args.n < nodes v.plan) (sym c.self.view_is) c.requires.below)
    (c.index-members-n.is ∙ ap (λ xs. get_or xs c.args.n c.index-members-n.result) c.as_slice-members.ensures.value) c.seen-seen.ensures (c.as_slice.ensures.value ∙ c.self.invariant.1)

pub slice_bounds-result-end : goal.slice_bounds-result-end
slice_bounds-result-end c =
    let le = (are c).0 in
    let e = length-take c.seen-seen.result c.as_slice.result.now in
    omega (arith, le, e)

pub returns : goal.returns
returns c = subst (λ (v : NetView). take c.seen-seen.result c.as_slice.result.now ≡ obeyed_of (node_at v.plan v.members c.args.n)) c.self.view_is (are c).1
