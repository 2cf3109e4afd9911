-- How long a legal journal can be.
use Rattle.std.specs.Prelude.{ℕ, ◌+◌, ◌*◌, max, List, [], ◌∷◌, length}
use Rattle.stat_plan.specs.Plans.{Plan, nodes, waves_of}
use Rattle.overlay_setup.specs.Scripts.{Stream}
use Rattle.stat_plan.specs.Machine.Waves.{ticks}

-- the greatest timeout of some streams, 0 where there is none
abbrev pub longest : List Stream → ℕ
longest [] = 0
longest (x ∷ xs) = max (ticks x.mode) (longest xs)

-- the bound for n nodes, m waves and the timeout t
abbrev pub bound_of : ℕ → ℕ → ℕ → ℕ
bound_of n m t = n * n + 9 * n + 3 * n * m * (n + 9) * (t + 1)

-- more events than this no legal journal has
abbrev pub bound : Plan → ℕ
bound p = bound_of (nodes p) (length (waves_of p.streams)) (longest p.streams)
