use Rattle.std.proofs.Common.{◌≡◌, ◌<◌, ◌+◌, ◌-◌, ℕ, List, drop, length, map, Ok, sym, ap, subst, arith}
use Rattle.std.proofs.lemmas.List.{length-drop}
use Rattle.packet_frame.specs.Frame.{Message}
use Rattle.packet_frame.specs.Sent.{packet_map}
use Rattle.packet_frame.specs.Scanning.{packet_read}
use Rattle.packet_frame.specs.Streams.{Begins, taken}
use Rattle.packet_frame.specs.Feeding.{packets_from}
use Rattle.packet_frame.specs.Reading.{IsOn, IsWhole}
use Rattle.packet_frame.proofs.Feeds.{whole_some, on_any, one_frame_more}
use Rattle.packet_frame.proofs.feeder.packets_at.Goals as goal

pub loop-packets-smaller : goal.loop-packets-smaller
loop-packets-smaller g c =
    let bytes = c.args.bytes.now in
    let t = c.loop-packets.taken in
    let r = c.run.new.self in
    let whole : IsWhole r (drop t bytes) = subst (IsWhole r) c.split_at.ensures.back (c.in-Ok-true.ensures.whole (ap Ok c.in-Ok-true.field-0-test)) in
    let on : IsOn r (drop t bytes) = subst (IsOn r) c.split_at.ensures.back c.in-Ok-true.ensures.on in
    let some = whole_some (drop t bytes) (packet_read r.scan) r.at whole in
    let less : length bytes - (t + r.at) < length bytes - t = omega (arith, some, on.within, length-drop t bytes, c.loop-packets.invariant.within) in
    less

pub loop-packets-preserved : goal.loop-packets-preserved
loop-packets-preserved g c =
    let bytes = c.args.bytes.now in
    let t = c.loop-packets.taken in
    let r = c.run.new.self in
    let whole : IsWhole r (drop t bytes) = subst (IsWhole r) c.split_at.ensures.back (c.in-Ok-true.ensures.whole (ap Ok c.in-Ok-true.field-0-test)) in
    let on : IsOn r (drop t bytes) = subst (IsOn r) c.split_at.ensures.back c.in-Ok-true.ensures.on in
    record {
      within = omega (arith, on.within, length-drop t bytes, c.loop-packets.invariant.within);
      on = on_any c.restart.new.self _ c.restart.ensures.on c.restart.ensures.start;
      so_far = subst (λ all. (messages : List (Message × ℕ)) × Begins messages bytes (drop (t + r.at) bytes) × (t + r.at ≡ taken messages) × (map (λ p. (packet_map g.T.PrefixTree.tree p.0, p.1)) all ≡ packets_from messages)) (sym c.in_ok-push.ensures.items) (one_frame_more g.T.PrefixTree.tree c.loop-packets.packets.items c.take_packet-packet.result r bytes t c.loop-packets.invariant.so_far whole c.take_packet-packet.ensures);
    }
