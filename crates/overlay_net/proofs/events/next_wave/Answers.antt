use Rattle.std.proofs.Common.{◌≡◌, ◌∙◌, ℕ, true, false, option_map, sym, ap}
use Rattle.stat_plan.specs.Plans.{serves}
use Rattle.overlay_setup.specs.Trees.{is_daemon}
use Rattle.overlay_core.specs.Machine.{next_sample}
use Rattle.overlay_node.specs.NodeViews.{node_of}
use Rattle.overlay_net.proofs.Offers.{next_is_sample, no_daemon, no_sample, samples_it, serves_not}
use Rattle.overlay_net.proofs.events.next_wave.Goals as goal
use Rattle.overlay_net.proofs.events.next_wave.Goals.{else-is_daemon-via-then-is_daemon+else-serves, else-is_daemon-via-else-is_daemon}

pub returns-then-serves : goal.returns-then-serves
returns-then-serves g c =
    let p = c.args.plan.now in
    let x = c.args.node.now in
    let s = c.args.stream.now in
    let leaf : is_daemon p.parents x.number ≡ true = ap (is_daemon p.parents) (sym c.number-n.ensures) ∙ sym c.is_daemon.ensures ∙ c.if-is_daemon.true in
    let there : serves p x.number s.number ≡ true = ap (λ k. serves p k s.number) (sym c.number-n.ensures) ∙ ap (serves p c.number-n.result) (sym c.number.ensures) ∙ sym c.serves.ensures ∙ c.if-serves.true in
    next_is_sample p x s c.next_sample.result (samples_it p s x.number c.invariant.ensures c.requires.stream leaf there)
    (c.next_sample.ensures p c.invariant.ensures c.requires.node (ap (serves p x.number) c.number-then-serves.ensures ∙ there)
    ∙ ap (λ k. option_map (λ (v : ℕ × ℕ). v.1) (next_sample p (node_of x) k)) c.number-then-serves.ensures)

pub returns-else-is_daemon : goal.returns-else-is_daemon
returns-else-is_daemon g c =
    let p = c.args.plan.now in
    let x = c.args.node.now in
    let s = c.args.stream.now in
    elim c.else-is_daemon.branch [
      | else-is_daemon-via-then-is_daemon+else-serves w ↦
          let away : serves p x.number s.number ≡ false = ap (λ k. serves p k s.number) (sym c.number-n.ensures) ∙ ap (serves p c.number-n.result) (sym w.number.ensures) ∙ sym w.serves.ensures ∙ w.if-serves.false in
          no_sample p x s (serves_not p s x.number c.invariant.ensures c.requires.stream away)
      | else-is_daemon-via-else-is_daemon w ↦
          let inner : is_daemon p.parents x.number ≡ false = ap (is_daemon p.parents) (sym c.number-n.ensures) ∙ sym c.is_daemon.ensures ∙ w.if-is_daemon.false in
          no_sample p x s (no_daemon p s x.number c.invariant.ensures c.requires.stream inner)
    ]
