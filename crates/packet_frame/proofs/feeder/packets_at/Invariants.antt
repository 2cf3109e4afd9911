use Rattle.std.proofs.Common.{◌≡◌, ◌≤◌, ◌-◌, ℕ, List, map, drop, length}
use Rattle.packet_frame.specs.Frame.{Message}
use Rattle.packet_frame.specs.Sent.{packet_map}
use Rattle.packet_frame.specs.Reading.{IsOn}
use Rattle.packet_frame.specs.Streams.{Begins, taken}
use Rattle.packet_frame.specs.Feeding.{packets_from}
use Rattle.packet_frame.proofs.feeder.packets_at.Given as goal

abbrev pub invariant-loop-packets : goal.invariant-loop-packets
invariant-loop-packets g l = record {
  within : l.taken ≤ length l.bytes;
  on : IsOn l.reader (drop l.taken l.bytes);
  so_far : (messages : List (Message × ℕ)) × Begins messages l.bytes (drop l.taken l.bytes) × (l.taken ≡ taken messages) × (map (λ p. (packet_map g.T.PrefixTree.tree p.0, p.1)) l.packets.items ≡ packets_from messages);
}

abbrev pub decreases-loop-packets : goal.decreases-loop-packets
decreases-loop-packets g l = length l.bytes - l.taken
