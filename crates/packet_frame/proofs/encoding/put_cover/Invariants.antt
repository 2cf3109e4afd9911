use Rattle.std.proofs.Common.{◌≡◌, ◌++◌, length, take}
use Rattle.std.specs.List.{flat_map}
use Rattle.std.specs.Int.{w32, to_be_bytes}
use Rattle.packet_frame.specs.Spelling.{run_bytes}
use Rattle.packet_frame.proofs.encoding.put_cover.Given as goal

abbrev pub invariant-loop-run : goal.invariant-loop-run
invariant-loop-run l = l.out.items ≡ l.fn.out.items ++ (to_be_bytes w32 (length l.run-items) ++ flat_map (λ run. run_bytes (run.first, run.last)) (take l.run-index l.run-items))
