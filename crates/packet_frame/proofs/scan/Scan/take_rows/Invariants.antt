use Rattle.std.proofs.Common.{length, drop, ◌-◌, ◌≡◌, ◌≤◌}
use Rattle.packet_frame.specs.declared.scan.Field.TheVariants as fields
use Rattle.packet_frame.specs.Scanning.{left, IsReady, ReadsOn}
use Rattle.packet_frame.proofs.scan.Scan.take_rows.Given as goal

abbrev pub invariant-loop-depth : goal.invariant-loop-depth
invariant-loop-depth g l = record {
  reads : ReadsOn l.bytes (left l.fn.self) l.fn.at (left l.self) (length l.bytes - length l.rest);
  next : l.self.field ≡ fields.Depth;
  ready : IsReady fields.Depth l.self;
  behind : l.rest ≡ drop (length l.bytes - length l.rest) l.bytes;
  from : l.fn.at ≤ length l.bytes - length l.rest;
  within : length l.rest ≤ length l.bytes;
}

abbrev pub decreases-loop-depth : goal.decreases-loop-depth
decreases-loop-depth g l = length l.rest
