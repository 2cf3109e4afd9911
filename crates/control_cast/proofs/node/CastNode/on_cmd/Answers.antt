use Rattle.std.proofs.Common.{◌≡◌, ◌∙◌, ◌+◌, ap, sym, subst}
use Rattle.std.specs.Prelude.{IfOk}
use Rattle.control_cast.specs.CastNodes.{NodeView, left_of}
use Rattle.stat_plan.proofs.Overlays.{ne_false}
use Rattle.control_cast.proofs.CastNodes.{cmd_now, cmd_dropped}
use Rattle.control_cast.proofs.node.CastNode.on_cmd.Goals as goal

pub returns-then-i-self-clause-outcome : goal.returns-then-i-self-clause-outcome
returns-then-i-self-clause-outcome c =
    subst (λ o. IfOk c.obey.result (λ sends. left_of c.obey.new.self sends.items ≡ o))
    (sym (cmd_now c.args.self.now c.args.i (c.if-i-self.true ∙ ap (λ (y : NodeView). y.seen + 1) c.self.view_is)))
    c.obey.ensures.outcome

pub returns-clause-outcome : goal.returns-clause-outcome
returns-clause-outcome c = cmd_dropped c.args.self.now c.args.i c.new.result.items (ne_false c.args.i (c.args.self.now.seen + 1) (λ e. c.if-i-self.false (e ∙ ap (λ (y : NodeView). y.seen + 1) (sym c.self.view_is)))) c.new.ensures.items
