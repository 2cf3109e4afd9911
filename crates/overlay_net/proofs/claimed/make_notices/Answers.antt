use Rattle.std.proofs.Common.{◌∙◌, ap}
use Rattle.overlay_net.proofs.Working.{frames_more, is_told, no_kin, not_itself, not_told, same_frames, told}
use Rattle.overlay_net.proofs.claimed.make_notices.Goals as goal
use Rattle.overlay_net.proofs.claimed.make_notices.Goals.{then-b-n+then-is_kin+in_ok-frame+in_ok-push, else-b-n, else-b-n-via-then-b-n+else-is_kin, else-b-n-via-else-b-n}

pub loop-b-preserved : goal.loop-b-preserved
loop-b-preserved g c = elim c.if-b-n.branch [
  | then-b-n+then-is_kin+in_ok-frame+in_ok-push w ↦ record {
    sent = told c.args.plan.now c.args.n c.loop-b.b c.loop-b.sends.items c.if-b-n.sends.items w.in_ok-frame.frame
        (is_told c.args.plan.now c.args.n c.loop-b.b w.is_kin.result w.if-b-n.true w.is_kin.ensures w.if-is_kin.true)
        w.in_ok-frame.ensures (ap (λ v. v.items) w.sends-is ∙ w.in_ok-push.ensures.items) c.loop-b.invariant.sent;
    frames = frames_more c.args.plan.now c.loop-b.b c.loop-b.sends.items c.if-b-n.sends.items w.in_ok-frame.frame
        w.in_ok-frame.ensures (ap (λ v. v.items) w.sends-is ∙ w.in_ok-push.ensures.items) c.loop-b.invariant.frames;
  }
  | else-b-n w ↦ record {
    sent = not_told c.args.plan.now c.args.n c.loop-b.b c.loop-b.sends.items c.if-b-n.sends.items
        (elim w.else-b-n.branch [
          | else-b-n-via-then-b-n+else-is_kin v ↦ no_kin c.args.plan.now c.args.n c.loop-b.b v.is_kin.result v.is_kin.ensures v.if-is_kin.false
          | else-b-n-via-else-b-n v ↦ not_itself c.args.plan.now c.args.n c.loop-b.b v.if-b-n.false
        ])
        (ap (λ v. v.items) w.sends-is) c.loop-b.invariant.sent;
    frames = same_frames c.args.plan.now c.loop-b.sends.items c.if-b-n.sends.items (ap (λ v. v.items) w.sends-is) c.loop-b.invariant.frames;
  }
]
