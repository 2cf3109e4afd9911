use Rattle.std.proofs.Common.{◌≡◌, ◌∙◌, ap, length, subst, sym}
use Rattle.std.specs.Vec.{with_items}
use Rattle.std.proofs.lemmas.List.{length-set, with_items_is}
use Rattle.loss_adoption.specs.NodeKins.{IsKinOf}
use Rattle.stat_plan.proofs.PlanFacts.{plan_facts}
use Rattle.control_cast.specs.CastNets.{node_at}
use Rattle.control_cast.specs.CastNodes.{node_kin}
use Rattle.control_cast.proofs.CastNets.{part_at}
use Rattle.control_cast.proofs.Doing.{receive_below, receive_left}
use Rattle.control_cast.proofs.nodes.CastNodes.receive.Goals as goal

pub receive_at-requires-clause-number : goal.receive_at-requires-clause-number
receive_at-requires-clause-number c =
    let p = c.args.plan.now in
    let st = c.args.self.now in
    subst (λ xs. (node_at p xs c.args.n).number ≡ c.args.n) (sym c.as_mut_slice-2.ensures.value) (part_at p st.alive.items st.members.items st.inboxes.items c.args.n c.requires.parts c.requires.below).0

pub receive_at-requires-clause-kin : goal.receive_at-requires-clause-kin
receive_at-requires-clause-kin c =
    let p = c.args.plan.now in
    let st = c.args.self.now in
    subst (λ xs. IsKinOf p (node_kin (node_at p xs c.args.n))) (sym c.as_mut_slice-2.ensures.value) (part_at p st.alive.items st.members.items st.inboxes.items c.args.n c.requires.parts c.requires.below).1

pub send-requires : goal.send-requires
send-requires c =
    let p = c.args.plan.now in
    let st = c.args.self.now in
    let taken = c.take_packet-packet.new.inboxes in
    let mid_is = c.as_mut_slice-3.ensures.value ∙ with_items_is st.inboxes taken (c.take_packet-packet.ensures.inbox_count ∙ c.as_mut_slice.ensures.len) in
    receive_below p st.alive.items st.members.items c.as_mut_slice-2.result.now c.receive_at.new.nodes st.inboxes.items c.as_mut_slice.result.now taken c.as_mut_slice-3.result.now c.args.n c.args.from c.take_packet-packet.result c.in_ok-sends.sends.items c.as_mut_slice-2.ensures.value c.as_mut_slice.ensures.value mid_is
    (plan_facts p c.invariant.ensures) c.requires.below c.requires.parts c.requires.fits c.take_packet-packet.ensures c.in_ok-sends.ensures

pub returns : goal.returns
returns c =
    let p = c.args.plan.now in
    let st = c.args.self.now in
    let n = c.args.n in
    let taken = c.take_packet-packet.new.inboxes in
    let mid_is = c.as_mut_slice-3.ensures.value ∙ with_items_is st.inboxes taken (c.take_packet-packet.ensures.inbox_count ∙ c.as_mut_slice.ensures.len) in
    receive_left p st.alive.items c.as_slice-2.result.now st.members.items c.as_mut_slice-2.result.now c.receive_at.new.nodes _ st.inboxes.items c.as_mut_slice.result.now taken c.as_mut_slice-3.result.now c.send.new.inboxes _ n c.args.from c.take_packet-packet.result c.in_ok-sends.sends.items c.as_slice.result.now c.in_ok-changed.changed.items
    c.as_slice-2.ensures.value c.as_mut_slice-2.ensures.value
    (with_items_is st.members c.receive_at.new.nodes (ap length c.in_ok-sends.ensures.all ∙ length-set c.as_mut_slice-2.result.now n c.in_ok-sends.ensures.node ∙ c.as_mut_slice-2.ensures.len))
    c.as_mut_slice.ensures.value mid_is
    (with_items_is (with_items st.inboxes taken) c.send.new.inboxes (c.in_ok-send.ensures.inbox_count ∙ c.as_mut_slice-3.ensures.len))
    c.as_slice.ensures.value c.requires.below c.requires.parts c.take_packet-packet.ensures c.in_ok-sends.ensures c.in_ok-send.ensures
    (receive_below p st.alive.items st.members.items c.as_mut_slice-2.result.now c.receive_at.new.nodes st.inboxes.items c.as_mut_slice.result.now taken c.as_mut_slice-3.result.now n c.args.from c.take_packet-packet.result c.in_ok-sends.sends.items c.as_mut_slice-2.ensures.value c.as_mut_slice.ensures.value mid_is
    (plan_facts p c.invariant.ensures) c.requires.below c.requires.parts c.requires.fits c.take_packet-packet.ensures c.in_ok-sends.ensures)
    c.in_ok-changed.ensures
