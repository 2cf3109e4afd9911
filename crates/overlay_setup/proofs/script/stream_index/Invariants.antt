use Rattle.std.proofs.Common.{◌≡◌, ◌==◌, drop}
use Rattle.std.specs.Prelude.{find}
use Rattle.overlay_setup.specs.Scripts.{Stream}
use Rattle.overlay_setup.proofs.script.stream_index.Given as goal

abbrev pub invariant-loop-i : goal.invariant-loop-i
invariant-loop-i l = find (λ (x : Stream). x.number == l.s) (drop l.i l.streams) ≡ find (λ (x : Stream). x.number == l.s) l.streams
