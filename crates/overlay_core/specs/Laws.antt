-- The forms of the laws of journals.
use Rattle.std.specs.Prelude.{◌≡◌, ◌≤◌, ◌+◌, ◌++◌, ◌∷◌, [], Some, true, ℕ, List}
use Rattle.stat_plan.specs.Invariants.{IsPlan}
use Rattle.stat_plan.specs.Plans.{Plan, mode, waves_of}
use Rattle.overlay_setup.specs.NodeSets.{In}
use Rattle.overlay_setup.specs.declared.script.Mode.TheVariants.{WaitForAll}
use Rattle.overlay_event.specs.declared.event.Event.{Event}
use Rattle.overlay_core.specs.Counts.{OnlyGrows, growths, is_unsent, moves, one_if, sends}
use Rattle.overlay_core.specs.History.{of_wave}
use Rattle.overlay_core.specs.Independent.{outcome}
use Rattle.overlay_core.specs.Machine.{State, is_enabled, start}
use Rattle.overlay_core.specs.Pick.{Picks, picked_event}
use Rattle.stat_plan.specs.Machine.Journals.{next_number}
use Rattle.overlay_core.specs.Runs.{IsLegal, IsWhole, after}
use Rattle.overlay_core.specs.Whole.{HasOneRelease, LosesNoDaemon}

-- it holds of each legal journal of a plan
abbrev pub EachLegal : (Plan → List Event → Type 0) → Type 0
EachLegal law = (p : Plan) (journal : List Event) → IsPlan p → IsLegal p journal → law p journal

-- it holds of each whole journal of a plan
abbrev pub EachWhole : (Plan → List Event → Type 0) → Type 0
EachWhole law = (p : Plan) (journal : List Event) → IsPlan p → IsWhole p journal → law p journal

-- a stream that waits for all, and none of whose daemons is lost, has one release of each wave
abbrev pub ReleasesOnce : Plan → List Event → Type 0
ReleasesOnce p journal = (s w : ℕ) → mode p s ≡ WaitForAll → LosesNoDaemon p journal s → In (s, w) (waves_of p.streams)
    → HasOneRelease p s (of_wave s w (after p journal).releases)

-- an event is enabled in the new state, with the outcome that it has in the old one
abbrev pub KeepsOutcome : Plan → Event → State → State → Type 0
KeepsOutcome p e old new = (is_enabled p new e ≡ true) × (outcome p new e ≡ outcome p old e)

-- the event that is picked next goes on with the events that were picked
abbrev pub PicksNext : Plan → ℕ → List Event → ℕ → Type 0
PicksNext p seed journal y = (e : Event) → picked_event p (after p journal) (next_number y) ≡ Some e → Picks p seed (journal ++ e ∷ []) (next_number y)

-- Each node sends each wave at most as often as what it covers of the wave grew or its parent changed, and once less where
-- something isn't sent yet.
abbrev pub SendsAreBounded : Plan → List Event → Type 0
SendsAreBounded p journal = (n s w : ℕ) → sends p (start p) journal n s w + one_if (is_unsent (((after p journal).node n).book s w))
    ≤ growths p (start p) journal n s w + moves p (start p) journal n

-- what each node covers of each wave only grows from the old state to the new one
abbrev pub BooksGrow : State → State → Type 0
BooksGrow old new = (n s w : ℕ) → OnlyGrows ((old.node n).book s w) ((new.node n).book s w)
