use Rattle.std.proofs.Common.{◌<◌, sym, ap, subst, ◌∙◌, length}
use Rattle.stat_plan.specs.Plans.{ancestors, nodes, plan_of}
use Rattle.stat_plan.proofs.TableLemmas.{ancestors_row, length-ancestors}
use Rattle.stat_plan.proofs.plan.Plan.ancestors.Goals as goal

pub index-requires : goal.index-requires
index-requires c =
    let within : c.args.n < nodes (plan_of c.self.inside.topology c.self.inside.samples c.self.inside.script) = subst (λ p. c.args.n < nodes p) (sym c.self.view_is) c.requires in
    subst (λ k. c.args.n < k) (sym (c.self.inside.ancestors.ok.0 ∙ length-ancestors c.self.inside.topology.parents c.self.inside.ancestors.items c.self.invariant.1.above)) within

pub returns : goal.returns
returns c =
    let plan = plan_of c.self.inside.topology c.self.inside.samples c.self.inside.script in
    let within : c.args.n < nodes plan = subst (λ p. c.args.n < nodes p) (sym c.self.view_is) c.requires in
    let inside : c.args.n < length c.self.inside.ancestors.items = subst (λ k. c.args.n < k) (sym (length-ancestors plan.parents c.self.inside.ancestors.items c.self.invariant.1.above)) within in
    c.as_slice.ensures.value
    ∙ ancestors_row plan c.self.inside.ancestors.items c.args.n c.index.result.now c.self.invariant.1.above within inside c.index.ensures
    ∙ ap (λ p. ancestors p c.args.n) c.self.view_is
