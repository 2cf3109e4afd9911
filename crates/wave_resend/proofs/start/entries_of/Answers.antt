use Rattle.std.proofs.Common.{◌∙◌, ap, sym}
use Rattle.stat_plan.specs.Plans.{serves, waves_at}
use Rattle.wave_resend.specs.Books.{keys_of}
use Rattle.wave_resend.proofs.Starting.{all_taken, stream_passed, waves_taken}
use Rattle.wave_resend.proofs.start.entries_of.Goals as goal
use Rattle.wave_resend.proofs.start.entries_of.Goals.{then-serves+in_ok-add_waves, else-serves}

pub loop-stream-preserved : goal.loop-stream-preserved
loop-stream-preserved c =
    let test = serves c.args.plan.now c.args.n in
    let xs = c.streams-stream-items.result.now in
    elim c.if-serves.branch [
      | then-serves+in_ok-add_waves w ↦ rw w.entries-is (record {
        keys = waves_taken test xs c.loop-stream.stream-index c.stream-item.result c.number-s.result w.waves.result c.loop-stream.entries.items w.add_waves.new.entries.items c.loop-stream-test.true c.stream-item.is c.number-s.ensures w.waves.ensures (sym c.serves.ensures ∙ w.if-serves.true) w.in_ok-add_waves.ensures.keys c.loop-stream.invariant.keys;
        untouched = w.in_ok-add_waves.ensures.untouched;
      })
      | else-serves w ↦ rw w.entries-is (record {
        keys = stream_passed test xs c.loop-stream.stream-index c.stream-item.result (keys_of c.loop-stream.entries.items) c.loop-stream-test.true c.stream-item.is (ap test (sym c.number-s.ensures) ∙ sym c.serves.ensures ∙ w.if-serves.false) c.loop-stream.invariant.keys;
        untouched = c.loop-stream.invariant.untouched;
      })
    ]

pub returns-clause-keys : goal.returns-clause-keys
unfolding waves_at
returns-clause-keys c =
    all_taken (serves c.args.plan.now c.args.n) c.streams-stream-items.result.now c.args.plan.now.streams c.loop-stream.stream-index (keys_of c.loop-stream.entries.items) c.loop-stream-test.false c.streams-stream-items.ensures c.loop-stream.invariant.keys
