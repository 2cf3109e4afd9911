use Rattle.std.proofs.Common.{◌≡◌, ◌++◌, map}
use Rattle.overlay_setup.specs.NodeSets.{up_to}
use Rattle.wide_merge.proofs.direct.push_waves.Given as goal

abbrev pub invariant-loop-wave : goal.invariant-loop-wave
invariant-loop-wave l = l.waves.items ≡ l.fn.waves.items ++ map (λ w. (l.stream.number, w)) (up_to l.wave)
