-- What a legal journal leaves, and what a whole one does.
use Rattle.std.specs.Prelude.{ℕ, ◌≡◌, ◌<◌, true, false, List, [], ◌∷◌, ◌++◌}
use Rattle.rank_set.specs.Ranks.{Has, IsSubset}
use Rattle.overlay_setup.specs.NodeSets.{In}
use Rattle.stat_plan.specs.Plans.{Plan, nodes, daemons, ranks, waves_of, waves_at}
use Rattle.stat_plan.specs.Machine.Waves.{is_open}
use Rattle.overlay_event.specs.declared.event.Event.{Event}
use Rattle.overlay_core.specs.declared.release.Kind.TheVariants.{Partial as PartialRelease, Final as FinalRelease}
use Rattle.overlay_core.specs.Nodes.{Release}
use Rattle.overlay_core.specs.Machine.{State}
use Rattle.overlay_core.specs.Runs.{after}
use Rattle.overlay_core.specs.Losses.{IsLost}
use Rattle.overlay_core.specs.LinkInvariant.{LinkInvariant}
use Rattle.overlay_core.specs.ParentChild.{ParentChildInvariant}
use Rattle.overlay_core.specs.Settled.{NodesAreSettled}
use Rattle.overlay_core.specs.History.{of_wave, HistoryIsSound}
use Rattle.overlay_core.specs.Releases.{CoversAll}

-- nodes and links, parents and children, nothing due, and the history of each wave
pub record IsSound (p : Plan) (st : State) : Type 0 where
  pub base : LinkInvariant p st
  pub pairs : ParentChildInvariant p st
  pub settled : NodesAreSettled p st
  pub history : HistoryIsSound p st

-- Of a wave's releases the last one is final, and no other is. It covers all ranks of each daemon that the journal doesn't
-- lose. Where a rank of a daemon is missing, the journal loses the daemon, and the release names it. And the release names no
-- node that the journal doesn't lose.
pub record EndsFinally (p : Plan) (journal : List Event) (s : ℕ) (rs : List Release) : Type 0 where
  pub before : List Release
  pub final : Release
  pub all : rs ≡ before ++ final ∷ []
  pub partial : (r : Release) → In r before → r.kind ≡ PartialRelease
  pub kind : final.kind ≡ FinalRelease
  pub covers : (d : ℕ) → In d (daemons p s) → (IsLost journal d → ⊥) → IsSubset (ranks p d) final.covered
  pub misses : (d r : ℕ) → In d (daemons p s) → Has r (ranks p d) → (Has r final.covered → ⊥) → IsLost journal d × In d final.lost
  pub names : (n : ℕ) → n < nodes p → In n final.lost → IsLost journal n

-- each wave of the plan has ended: at the front end, and at each living node that serves it
pub record HasEnded (p : Plan) (journal : List Event) : Type 0 where
  pub final : (s w : ℕ) → In (s, w) (waves_of p.streams) → EndsFinally p journal s (of_wave s w (after p journal).releases)
  pub closed : (n s w : ℕ) → (after p journal).alive n ≡ true → In (s, w) (waves_at p n) → is_open (((after p journal).node n).book s w) ≡ false

-- no daemon of the stream is lost by the journal
abbrev pub LosesNoDaemon : Plan → List Event → ℕ → Type 0
LosesNoDaemon p journal s = (d : ℕ) → In d (daemons p s) → IsLost journal d → ⊥

-- there is one release, it is final, and it covers all ranks of the stream
pub record HasOneRelease (p : Plan) (s : ℕ) (rs : List Release) : Type 0 where
  pub only : Release
  pub all : rs ≡ only ∷ []
  pub kind : only.kind ≡ FinalRelease
  pub covers : CoversAll p s only.covered
