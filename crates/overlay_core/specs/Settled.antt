-- Settled: between events nothing is due at a living node.
use Rattle.rank_set.specs.Ranks.{Ranks}
use Rattle.std.specs.Prelude.{ℕ, ◌≡◌, ◌≢◌, ◌≤◌, true, ⊤, List}
use Rattle.overlay_setup.specs.NodeSets.{In}
use Rattle.stat_plan.specs.Plans.{Plan, mode, waves_at}
use Rattle.overlay_core.specs.Nodes.{Node, due_at}
use Rattle.stat_plan.specs.Machine.Waves.{Wave, Open, Closed, ticks}
use Rattle.overlay_core.specs.Machine.{State}
use Rattle.stat_plan.specs.declared.machine.Timer.{Timer}
use Rattle.stat_plan.specs.declared.machine.Timer.TheVariants.{Off, Running, Fired}
use Rattle.stat_plan.specs.declared.machine.Act.TheVariants.{Hold}

-- a timer runs for at least a tick and at most the timeout, and only where something was not sent yet; none has run out
abbrev pub TimerIsSound : Plan → ℕ → Ranks → Ranks → Timer → Type 0
TimerIsSound p s covered sent Off = ⊤
TimerIsSound p s covered sent (Running t) = (1 ≤ t) × (t ≤ ticks (mode p s)) × (covered ≢ sent)
TimerIsSound p s covered sent Fired = ⊥

-- nothing is due for the wave
abbrev pub WaveIsSettled : Plan → ℕ → List ℕ → ℕ → Wave → Type 0
WaveIsSettled p n lost s (Open covered sent timer) = (due_at p n lost s covered sent timer ≡ Hold) × TimerIsSound p s covered sent timer
WaveIsSettled p n lost s Closed = ⊤

-- nothing is due for any wave that the node serves
abbrev pub NodeIsSettled : Plan → ℕ → Node → Type 0
NodeIsSettled p n x = (s w : ℕ) → In (s, w) (waves_at p n) → WaveIsSettled p n x.kin.lost s (x.book s w)

-- at each living node nothing is due
abbrev pub NodesAreSettled : Plan → State → Type 0
NodesAreSettled p st = (n : ℕ) → st.alive n ≡ true → NodeIsSettled p n (st.node n)
