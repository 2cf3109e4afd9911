use Rattle.std.proofs.Common.{◌≡◌, take}
use Rattle.std.specs.List.{list_all}
use Rattle.packet_frame.specs.Scanning.{is_plain_ascii}
use Rattle.packet_frame.proofs.rows.all_plain_ascii.Given as goal

abbrev pub invariant-loop-b : goal.invariant-loop-b
invariant-loop-b l = l.all ≡ list_all is_plain_ascii (take l.b-index l.bytes)
