use Rattle.std.proofs.Common.{◌∙◌, ◌<◌, ap, arith, ◌∷◌, []}
use Rattle.std.proofs.Common.{length, drop, ◌+◌, ◌-◌}
use Rattle.arena_tree.specs.Plans.{plan_with}
use Rattle.arena_tree.proofs.Sharing.{drop_some, step_cut}
use Rattle.arena_tree.proofs.plan.ChangePlan.share.Goals as goal

pub returns-clause-plan : goal.returns-clause-plan
returns-clause-plan c =
    let frames = c.args.node.now.frames in
    let kept = c.args.into.skip + c.args.shared in
    let long = ap length c.frames.ensures in
    let some : 0 < length (drop kept frames) = drop_some frames kept (omega (arith, c.requires.within, c.if-kept-len.false, c.len-len.ensures.len, long)) in
    c.in_ok-place.ensures.plan
    ∙ ap (λ s. plan_with c.args.self.now (s ∷ []))
    (step_cut c.args.into.place (c.args.shared - 1) (drop kept frames) (c.args.node.now.label, c.args.node.now.ends) (c.args.marks.label.now, c.args.marks.ends.now) c.args.node.now.first some)
