use Rattle.std.proofs.Common.{◌≡◌, take}
use Rattle.std.specs.List.{list_any}
use Rattle.call_path.specs.Reading.{is_control}
use Rattle.call_path.proofs.read.has_control.Given as goal

abbrev pub invariant-loop-b : goal.invariant-loop-b
invariant-loop-b l = l.any ≡ list_any is_control (take l.b-index l.text)
