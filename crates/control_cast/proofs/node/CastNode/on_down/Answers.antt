use Rattle.std.proofs.Common.{◌≡◌, subst}
use Rattle.std.proofs.lemmas.Result.{IfOk-weaker}
use Rattle.control_cast.specs.CastNodes.{NodeView, left_of, obeyed_of}
use Rattle.control_cast.specs.Machine.{received_down}
use Rattle.control_cast.proofs.CastNodes.{heard}
use Rattle.control_cast.proofs.node.CastNode.on_down.Goals as goal

pub returns-clause-outcome : goal.returns-clause-outcome
returns-clause-outcome c =
    let h : NodeView = record { number = c.self.inside.kin.node; kin = c.self.inside.kin.kin; seen = c.self.inside.seen; count = c.self.inside.count } in
    IfOk-weaker c.attach_to.result _ _
    (λ sends e. subst (λ (y : NodeView). left_of (record { number = c.on_down.new.self.node; kin = c.on_down.new.self.kin; seen = h.seen; count = h.count }) sends.items ≡ received_down c.args.plan.now y.number y.kin (obeyed_of y) c.args.m) c.self.view_is
    (heard c.args.plan.now h c.args.m c.on_down.new.self c.in_ok-reaction.reaction sends.items c.in_ok-reaction.ensures.kin c.in_ok-reaction.ensures.reaction e))
    c.attach_to.ensures
