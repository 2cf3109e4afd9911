use Rattle.std.proofs.Common.{◌≡◌, ◌+◌, ◌++◌, length}
use Rattle.capture_text.specs.CaptureText.{bytes_of, packet_views, packets_text}
use Rattle.capture_text.proofs.printer.Printer.write.Given as goal

abbrev pub invariant-loop-packet : goal.invariant-loop-packet
invariant-loop-packet g l = record {
  can_next : (goal.iterator-loop-packet g).can_next l.packet-iterator;
  is_finite : (goal.iterator-loop-packet g).is_finite l.packet-iterator;
  offset : l.self.at + bytes_of (packet_views g.T.PrefixTree.tree l.packet-iterator.rest.items) ≡ l.fn.self.at + bytes_of (packet_views g.T.PrefixTree.tree l.fn.packets.items);
  count : l.self.frames + length l.packet-iterator.rest.items ≡ l.fn.self.frames + length l.fn.packets.items;
  lines : l.self.text.items ++ packets_text l.self.at (packet_views g.T.PrefixTree.tree l.packet-iterator.rest.items) ≡ l.fn.self.text.items ++ packets_text l.fn.self.at (packet_views g.T.PrefixTree.tree l.fn.packets.items);
}
