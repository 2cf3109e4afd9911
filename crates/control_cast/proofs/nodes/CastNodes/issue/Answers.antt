use Rattle.std.proofs.Common.{◌≡◌, ◌∙◌, ap, length, subst, sym}
use Rattle.std.proofs.lemmas.List.{length-set, with_items_is}
use Rattle.loss_adoption.specs.NodeKins.{IsKinOf}
use Rattle.control_cast.specs.CastNets.{node_at}
use Rattle.control_cast.specs.CastNodes.{node_kin}
use Rattle.control_cast.proofs.CastNets.{part_at}
use Rattle.control_cast.proofs.Doing.{issue_below, issue_left}
use Rattle.control_cast.proofs.nodes.CastNodes.issue.Goals as goal

pub obey_at-requires-clause-number : goal.obey_at-requires-clause-number
obey_at-requires-clause-number c =
    let p = c.args.plan.now in
    let st = c.args.self.now in
    subst (λ xs. (node_at p xs c.front-n.result).number ≡ c.front-n.result) (sym c.as_mut_slice.ensures.value) (part_at p st.alive.items st.members.items st.inboxes.items c.front-n.result c.requires.parts c.front-n.ensures.node).0

pub obey_at-requires-clause-kin : goal.obey_at-requires-clause-kin
obey_at-requires-clause-kin c =
    let p = c.args.plan.now in
    let st = c.args.self.now in
    subst (λ xs. IsKinOf p (node_kin (node_at p xs c.front-n.result))) (sym c.as_mut_slice.ensures.value) (part_at p st.alive.items st.members.items st.inboxes.items c.front-n.result c.requires.parts c.front-n.ensures.node).1

pub send-requires : goal.send-requires
send-requires c =
    let p = c.args.plan.now in
    let st = c.args.self.now in
    let n = c.front-n.result in
    issue_below p st.alive.items st.members.items c.as_mut_slice.result.now c.obey_at.new.nodes st.inboxes.items c.as_mut_slice-2.result.now n c.in_ok-sends.sends.items c.as_mut_slice.ensures.value c.as_mut_slice-2.ensures.value c.front-n.ensures.node c.requires.parts c.in_ok-sends.ensures

pub returns : goal.returns
returns c =
    let p = c.args.plan.now in
    let st = c.args.self.now in
    let n = c.front-n.result in
    issue_left p st.alive.items c.as_slice-2.result.now st.members.items c.as_mut_slice.result.now c.obey_at.new.nodes _ st.inboxes.items c.as_mut_slice-2.result.now c.send.new.inboxes _ n c.in_ok-sends.sends.items c.as_slice.result.now c.in_ok-changed.changed.items
    c.as_slice-2.ensures.value c.as_mut_slice.ensures.value
    (with_items_is st.members c.obey_at.new.nodes (ap length c.in_ok-sends.ensures.all ∙ length-set c.as_mut_slice.result.now n c.in_ok-sends.ensures.node ∙ c.as_mut_slice.ensures.len))
    c.as_mut_slice-2.ensures.value
    (with_items_is st.inboxes c.send.new.inboxes (c.in_ok-send.ensures.inbox_count ∙ c.as_mut_slice-2.ensures.len))
    c.as_slice.ensures.value c.front-n.ensures.value c.front-n.ensures.node c.requires.parts c.in_ok-sends.ensures c.in_ok-send.ensures
    (issue_below p st.alive.items st.members.items c.as_mut_slice.result.now c.obey_at.new.nodes st.inboxes.items c.as_mut_slice-2.result.now n c.in_ok-sends.sends.items c.as_mut_slice.ensures.value c.as_mut_slice-2.ensures.value c.front-n.ensures.node c.requires.parts c.in_ok-sends.ensures)
    c.in_ok-changed.ensures
