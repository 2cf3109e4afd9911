use Rattle.std.proofs.Common.{◌∙◌, refl}
use Rattle.std.specs.Vec.{with_items}
use Rattle.std.proofs.lemmas.List.{with_items_is}
use Rattle.stat_plan.proofs.PlanFacts.{plan_facts}
use Rattle.control_cast.proofs.Doing.{loss_below, loss_left}
use Rattle.control_cast.proofs.nodes.CastNodes.lose.Goals as goal

pub send-requires : goal.send-requires
send-requires c =
    let p = c.args.plan.now in
    let st = c.args.self.now in
    let cut = c.cut_links.new.inboxes in
    let mid_is = c.as_mut_slice-2.ensures.value ∙ with_items_is st.inboxes cut (c.cut_links.ensures.inbox_count ∙ c.as_mut_slice.ensures.len) in
    loss_below p st.alive.items st.members.items st.inboxes.items c.as_mut_slice.result.now cut c.as_mut_slice-2.result.now c.args.n c.in_ok-sends.sends.items c.as_mut_slice.ensures.value mid_is c.requires.parts c.cut_links.ensures c.in_ok-sends.ensures

pub returns : goal.returns
returns c =
    let p = c.args.plan.now in
    let st = c.args.self.now in
    let cut = c.cut_links.new.inboxes in
    let mid_is = c.as_mut_slice-2.ensures.value ∙ with_items_is st.inboxes cut (c.cut_links.ensures.inbox_count ∙ c.as_mut_slice.ensures.len) in
    loss_left p st.alive.items c.as_slice.result.now _ st.members.items st.inboxes.items c.as_mut_slice.result.now cut c.as_mut_slice-2.result.now c.send.new.inboxes _ c.args.n c.in_ok-sends.sends.items c.in_ok-changed.changed.items
    c.as_slice.ensures.value c.as_mut_slice.ensures.value mid_is
    (with_items_is (with_items st.inboxes cut) c.send.new.inboxes (c.in_ok-send.ensures.inbox_count ∙ c.as_mut_slice-2.ensures.len))
    (plan_facts p c.invariant.ensures) c.requires.below c.requires.parts c.cut_links.ensures c.in_ok-sends.ensures c.in_ok-send.ensures refl c.in_ok-changed.ensures
