use Rattle.std.proofs.Common.{◌∙◌, subst, sym}
use Rattle.std.proofs.lemmas.Result.{on_ok_weaker}
use Rattle.stat_plan.specs.Machine.Kin.{after_loss, is_parent}
use Rattle.loss_adoption.specs.NodeKins.{NodeKin}
use Rattle.overlay_core.specs.Nodes.{Effects, act, act_each}
use Rattle.overlay_node.specs.NodeViews.{held_keys}
use Rattle.overlay_node.specs.Acting.{AreDistinct, StepsHeld, adopt, each_by}
use Rattle.overlay_node.proofs.Stepping.{steps_as, steps_then}
use Rattle.overlay_node.proofs.Ticking.{each_is}
use Rattle.overlay_node.proofs.work.NodeWork.on_down.Goals as goal

pub act_on_each-requires-clause-keys : goal.act_on_each-requires-clause-keys
act_on_each-requires-clause-keys g c κs within = c.in_ok-take_parent.ensures.steps.held_keys ∙ c.requires.keys ∙ sym c.in_ok-take_parent.ensures.steps.keys

pub act_on_each-requires-clause-distinct : goal.act_on_each-requires-clause-distinct
act_on_each-requires-clause-distinct g c κs within = subst AreDistinct (sym c.in_ok-take_parent.ensures.steps.held_keys) c.requires.distinct

pub returns-clause-steps : goal.returns-clause-steps
returns-clause-steps g c =
    let p = c.args.plan.now in
    let v = c.args.kin.now in
    let kin = after_loss p v.node v.kin c.args.lost in
    let old = c.args.self.now in
    let mid = c.take_parent.new.self in
    let new = c.act_on_each.new.self in
    let keys = held_keys old.held.items in
    let first : Effects → Effects = adopt (is_parent v.kin.parent c.args.lost) kin in
    on_ok_weaker c.act_on_each.result
    (λ steps.
    steps_then p v.node first (act_each p v.node kin keys) old.held.items mid.held.items new.held.items old.work.book mid.work.book new.work.book old.work.effects mid.work.effects new.work.effects
    c.in_ok-take_parent.ensures.steps
    (steps_as p v.node (each_by (act p v.node kin) keys) (act_each p v.node kin keys) _ _ _ _ _ _ (λ i k. each_is p v.node kin keys k i)
    (subst (λ l. StepsHeld p v.node (each_by (act p v.node kin) l) mid.held.items new.held.items mid.work.book new.work.book mid.work.effects new.work.effects) c.in_ok-take_parent.ensures.steps.held_keys
    (subst (λ (x : NodeKin). StepsHeld p x.node (each_by (act p x.node x.kin) (held_keys mid.held.items)) mid.held.items new.held.items mid.work.book new.work.book mid.work.effects new.work.effects)
    c.in_ok-take_parent.ensures.kin steps))))
    c.act_on_each.ensures
