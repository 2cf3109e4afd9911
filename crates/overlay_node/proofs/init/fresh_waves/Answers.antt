use Rattle.std.proofs.Common.{◌∙◌, ap, sym}
use Rattle.stat_plan.specs.Plans.{serves, waves_at}
use Rattle.overlay_node.specs.NodeViews.{held_keys}
use Rattle.wave_resend.proofs.Starting.{all_taken, stream_passed}
use Rattle.overlay_node.proofs.Starting.{held_taken, has_waves}
use Rattle.overlay_node.proofs.init.fresh_waves.Goals as goal
use Rattle.overlay_node.proofs.init.fresh_waves.Goals.{then-serves+in_ok-add_waves, else-serves}

pub loop-stream-preserved : goal.loop-stream-preserved
loop-stream-preserved g c =
    let test = serves c.args.plan.now c.args.n in
    let xs = c.streams-stream-items.result.now in
    elim c.if-serves.branch [
      | then-serves+in_ok-add_waves w ↦ rw w.held-is (record {
        keys = held_taken test xs c.loop-stream.stream-index c.stream-item.result c.number-s.result w.waves.result c.loop-stream.held.items w.add_waves.new.held.items c.loop-stream-test.true c.stream-item.is c.number-s.ensures w.waves.ensures (sym c.serves.ensures ∙ w.if-serves.true) w.in_ok-add_waves.ensures.keys c.loop-stream.invariant.keys;
        fresh = w.in_ok-add_waves.ensures.fresh c.args.plan.now (has_waves c.args.plan.now xs c.loop-stream.stream-index c.stream-item.result c.number-s.result w.waves.result c.streams-stream-items.ensures c.loop-stream-test.true c.stream-item.is c.number-s.ensures w.waves.ensures) c.loop-stream.invariant.fresh;
      })
      | else-serves w ↦ rw w.held-is (record {
        keys = stream_passed test xs c.loop-stream.stream-index c.stream-item.result (held_keys c.loop-stream.held.items) c.loop-stream-test.true c.stream-item.is (ap test (sym c.number-s.ensures) ∙ sym c.serves.ensures ∙ w.if-serves.false) c.loop-stream.invariant.keys;
        fresh = c.loop-stream.invariant.fresh;
      })
    ]

pub returns-clause-keys : goal.returns-clause-keys
unfolding waves_at
returns-clause-keys g c =
    all_taken (serves c.args.plan.now c.args.n) c.streams-stream-items.result.now c.args.plan.now.streams c.loop-stream.stream-index (held_keys c.loop-stream.held.items) c.loop-stream-test.false c.streams-stream-items.ensures c.loop-stream.invariant.keys
