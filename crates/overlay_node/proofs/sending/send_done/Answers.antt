use Rattle.std.proofs.Common.{subst, sym, cond, ◌∷◌, [], ◌∙◌}
use Rattle.overlay_core.specs.Nodes.{Done}
use Rattle.overlay_node.specs.Outputs.{Sends}
use Rattle.overlay_node.proofs.Frames.{sends_one}
use Rattle.overlay_node.proofs.sending.send_done.Goals as goal

pub returns-in_ok-push : goal.returns-in_ok-push
returns-in_ok-push g c =
    subst (λ b. Sends c.args.plan.now (cond b ((c.args.to, Done c.args.s c.args.w) ∷ []) []) c.args.sends.now.items c.push.new.self.items)
    (sym c.if-serves.true ∙ c.serves.ensures)
    (sends_one c.args.plan.now (Done c.args.s c.args.w) c.args.to c.in_ok-frame.frame _ _ c.in_ok-frame.ensures c.in_ok-push.ensures.items)
