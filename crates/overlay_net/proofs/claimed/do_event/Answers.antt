use Rattle.std.proofs.Common.{◌∙◌, ap, map}
use Rattle.overlay_node.specs.NodeViews.{NodeView}
use Rattle.overlay_node.specs.Outputs.{Output}
use Rattle.overlay_net.proofs.Working.{handled_leaves, lose_leaves}
use Rattle.overlay_net.proofs.claimed.do_event.Goals as goal
use Rattle.overlay_net.proofs.claimed.do_event.Goals.{in-Lose+in_ok-effects-in-Lose, in_default+in_ok-after-in_default}

pub returns-clause-leaves : goal.returns-clause-leaves
returns-clause-leaves g c =
    let p = c.args.plan.now in
    let x = c.args.node in
    let y = c.match-event.after.0 in
    let o = c.match-event.after.1 in
    elim c.match-event.branch [
      | in-Lose+in_ok-effects-in-Lose w ↦
          lose_leaves p x y c.args.event w.in-Lose.n c.args.frame o w.in_ok-effects-in-Lose.effects w.in-Lose.is (ap (λ (v : NodeView × Output). v.0) w.after-is) (ap (λ (v : NodeView × Output). v.1) w.after-is)
          w.in_ok-effects-in-Lose.ensures.sent w.in_ok-effects-in-Lose.ensures.frames w.in_ok-effects-in-Lose.ensures.silent
      | in_default+in_ok-after-in_default w ↦
          let r = w.in_ok-after-in_default in
          let h = r.ensures in
          handled_leaves p x y r.after c.args.event c.args.frame o r.effects w.in_default.not-Lose (ap (λ (v : NodeView × Output). v.0) w.after-is) (ap (λ (v : NodeView × Output). v.1) w.after-is)
          (record { number = h.number; node = h.node; sent = h.packets; released = h.releases; fits = h.fits; packets = h.frames; trees = h.trees; numbers = h.numbers; counts = h.counts })
    ]

pub returns-clause-receivers : goal.returns-clause-receivers
returns-clause-receivers g c = c.in_ok-receivers.ensures ∙ ap (map (λ v. v.0)) (c.as_slice.ensures.value ∙ ap (λ (o : Output). o.sends) c.effects.view_is)
