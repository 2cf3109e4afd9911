-- The nodes that a journal loses.
use Rattle.std.specs.Prelude.{ℕ, List}
use Rattle.overlay_setup.specs.NodeSets.{In}
use Rattle.overlay_event.specs.declared.event.Event.{Event}
use Rattle.overlay_event.specs.declared.event.Event.TheVariants.{Lose}

-- the journal loses n
abbrev pub IsLost : List Event → ℕ → Type 0
IsLost journal n = In (Lose n) journal
