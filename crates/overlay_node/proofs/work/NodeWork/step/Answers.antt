use Rattle.std.proofs.Common.{◌∙◌, Option, Some, List, ℕ, ap, subst, sym}
use Rattle.std.proofs.lemmas.Result.{on_ok_weaker}
use Rattle.overlay_node.specs.Acting.{AreDistinct, receive_step, step_of}
use Rattle.overlay_node.specs.Contexts.{node_during}
use Rattle.overlay_node.specs.Frames.{bare_packet, packet_of}
use Rattle.overlay_node.specs.NodeViews.{MayHandle, MayTake, held_keys}
use Rattle.overlay_node.proofs.Distinct.{waves_at_distinct}
use Rattle.overlay_node.proofs.Frames.{bare_tree}
use Rattle.overlay_node.proofs.Handling.{may_sample, may_take}
use Rattle.overlay_node.proofs.Stepping.{steps_as}
use Rattle.overlay_node.proofs.work.NodeWork.step.Goals as goal

pub on_sample-requires-clause-distinct : goal.on_sample-requires-clause-distinct
on_sample-requires-clause-distinct g c κs within = subst AreDistinct (sym c.requires.held_keys) (waves_at_distinct c.args.plan.now c.args.kin.now.node c.invariant.ensures)

pub on_sample-requires-clause-known : goal.on_sample-requires-clause-known
on_sample-requires-clause-known g c κs within =
    (may_sample c.args.plan.now c.args.kin.now c.args.self.now.work.book c.args.self.now.held.items _ _ _ c.args.frame c.requires.held_keys (subst (λ e. MayHandle c.args.plan.now (node_during c.args.kin.now c.args.self.now) e c.args.frame) c.in-Sample.is c.requires.event)).known

pub on_sample-requires-clause-wave : goal.on_sample-requires-clause-wave
on_sample-requires-clause-wave g c κs within =
    (may_sample c.args.plan.now c.args.kin.now c.args.self.now.work.book c.args.self.now.held.items _ _ _ c.args.frame c.requires.held_keys (subst (λ e. MayHandle c.args.plan.now (node_during c.args.kin.now c.args.self.now) e c.args.frame) c.in-Sample.is c.requires.event)).wave

pub on_sample-requires-clause-empty : goal.on_sample-requires-clause-empty
on_sample-requires-clause-empty g c κs within =
    (may_sample c.args.plan.now c.args.kin.now c.args.self.now.work.book c.args.self.now.held.items _ _ _ c.args.frame c.requires.held_keys (subst (λ e. MayHandle c.args.plan.now (node_during c.args.kin.now c.args.self.now) e c.args.frame) c.in-Sample.is c.requires.event)).empty

pub receive-requires-clause-packet : goal.receive-requires-clause-packet
receive-requires-clause-packet g c κs within =
    let p = c.args.plan.now in
    let n = c.args.kin.now.node in
    let may = subst (λ (f : Option (List ℕ)). MayHandle p (node_during c.args.kin.now c.args.self.now) c.args.event f) c.in-Some.is c.requires.event in
    let received = subst (λ e. MayHandle p (node_during c.args.kin.now c.args.self.now) e (Some c.in-Some.frame)) c.in-Recv.is may in
    subst (MayTake p n c.in-Recv.from) (sym c.in_ok-packet-in-Some.ensures) (may_take p n c.in-Recv.from (packet_of c.in-Some.frame) received.2)

pub on_tick-requires-clause-distinct : goal.on_tick-requires-clause-distinct
on_tick-requires-clause-distinct g c κs within = subst AreDistinct (sym c.requires.held_keys) (waves_at_distinct c.args.plan.now c.args.kin.now.node c.invariant.ensures)

pub returns-in_ok-packet-in-Some-clause-steps : goal.returns-in_ok-packet-in-Some-clause-steps
returns-in_ok-packet-in-Some-clause-steps g c =
    let p = c.args.plan.now in
    let n = c.args.kin.now.node in
    let kin = c.args.kin.now.kin in
    let keys = held_keys c.args.self.now.held.items in
    let brought = ap bare_packet c.in_ok-packet-in-Some.ensures ∙ bare_tree p (packet_of c.in-Some.frame) in
    on_ok_weaker c.receive.result
    (λ steps. steps_as p n _ _ _ _ _ _ _ _
    (ap (receive_step p n kin keys c.in-Recv.from) brought ∙ (λ i. step_of p n kin keys (sym c.in-Recv.is i) (sym c.in-Some.is i))) steps)
    c.receive.ensures.steps
