use Rattle.std.proofs.Common.{◌≡◌, ap, subst}
use Rattle.std.proofs.lemmas.Result.{IfOk-weaker}
use Rattle.loss_adoption.specs.NodeKins.{NodeKin}
use Rattle.control_cast.specs.CastNodes.{NodeView, left_of, obeyed_of}
use Rattle.control_cast.specs.Machine.{received_attach}
use Rattle.control_cast.proofs.CastNodes.{attached}
use Rattle.control_cast.proofs.node.CastNode.on_attach.Goals as goal

pub returns-clause-outcome : goal.returns-clause-outcome
returns-clause-outcome c =
    let h : NodeView = record { number = c.self.inside.kin.node; kin = c.self.inside.kin.kin; seen = c.self.inside.seen; count = c.self.inside.count } in
    IfOk-weaker c.to_one.result _ _
    (λ sends e. subst (λ (y : NodeView). left_of (record { number = h.number; kin = c.on_attach.new.self.kin; seen = h.seen; count = h.count }) sends.items ≡ received_attach y.kin (obeyed_of y) c.args.m c.args.k) c.self.view_is
    (attached h c.args.m c.args.k c.on_attach.new.self.kin sends.items (ap (λ (x : NodeKin). x.kin) c.in_ok-on_attach.ensures.kin) e))
    c.to_one.ensures
