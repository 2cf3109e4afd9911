use Rattle.std.proofs.Common.{subst, sym, ◌∙◌}
use Rattle.merge_filter.specs.Contributions.{coverage_of}
use Rattle.overlay_core.specs.Nodes.{Up}
use Rattle.stat_plan.specs.Machine.Overlays.{to_parent}
use Rattle.overlay_node.specs.Outputs.{Sends}
use Rattle.overlay_node.proofs.Frames.{sends_one}
use Rattle.overlay_node.proofs.sending.send_up.Goals as goal

pub returns-in_ok-push : goal.returns-in_ok-push
returns-in_ok-push g c =
    let part = c.args.part.now in
    subst (λ o. Sends c.args.context.now.plan.now (to_parent o (Up part.stream part.wave (coverage_of part))) c.args.sends.now.items c.push.new.self.items)
    (sym c.in-Some.is ∙ c.parent.ensures)
    (sends_one c.args.context.now.plan.now (Up part.stream part.wave (coverage_of part)) c.in-Some.parent c.in_ok-frame.frame _ _ c.in_ok-frame.ensures c.in_ok-push.ensures.items)
