use Rattle.std.proofs.Common.{sym, ap, ◌∙◌}
use Rattle.stat_plan.specs.Machine.Kin.{nearest}
use Rattle.loss_adoption.proofs.Adoption.{adopted, some_parent, stays}
use Rattle.loss_adoption.proofs.kin.Kin.on_down.Goals as goal

pub returns-then-not-is_parent-clause-fits : goal.returns-then-not-is_parent-clause-fits
returns-then-not-is_parent-clause-fits c =
    let k = c.self.inside in
    (stays c.args.plan.now c.args.self.now k.node k.parent k.children.items c.remove_number.new.numbers.items k.lost.items c.insert_number.new.numbers.items c.args.lost c.self.view_is c.requires.kin c.requires.not_front
    (sym c.is_parent.ensures ∙ c.if-not-is_parent.true) c.in_ok-insert_number.ensures.ok c.remove_number.ensures).fits

pub unreachable-requires : goal.unreachable-requires
unreachable-requires c =
    let k = c.self.inside in
    some_parent c.args.plan.now c.args.self.now k.node k.parent k.children.items k.lost.items c.insert_number.new.numbers.items c.args.lost c.self.view_is c.invariant.ensures c.requires.kin c.requires.not_front
    (sym c.is_parent.ensures ∙ c.if-not-is_parent.false) c.in_ok-insert_number.ensures.ok
    (ap (λ above. nearest above c.insert_number.new.numbers.items) (sym c.ancestors.ensures) ∙ ap (nearest c.ancestors.result.now) (sym c.as_slice.ensures.value) ∙ sym c.nearest.ensures ∙ c.in-None.is)

pub returns-clause-fits : goal.returns-clause-fits
returns-clause-fits c =
    let k = c.self.inside in
    (adopted c.args.plan.now c.args.self.now k.node k.parent k.children.items k.lost.items c.insert_number.new.numbers.items c.args.lost c.in-Some.parent c.self.view_is c.requires.kin c.requires.not_front
    (sym c.is_parent.ensures ∙ c.if-not-is_parent.false) c.in_ok-insert_number.ensures.ok
    (ap (λ above. nearest above c.insert_number.new.numbers.items) (sym c.ancestors.ensures) ∙ ap (nearest c.ancestors.result.now) (sym c.as_slice.ensures.value) ∙ sym c.nearest.ensures ∙ c.in-Some.is)).fits
