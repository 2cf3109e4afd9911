-- Journals: the states that they leave, and which of them are legal and whole.
use Rattle.std.specs.Prelude.{Bool, true, ◌&&◌, List, [], ◌∷◌}
use Rattle.stat_plan.specs.Plans.{Plan}
use Rattle.stat_plan.specs.Machine.Journals as journals
use Rattle.overlay_event.specs.declared.event.Event.{Event}
use Rattle.overlay_core.specs.Machine.{State, start, step, is_enabled}

-- the state that these events leave of a state
abbrev pub run : Plan → State → List Event → State
run p st es = journals.run (step p) st es

-- each event may come where it comes
abbrev pub IsLegalFrom : Plan → State → List Event → Type 0
IsLegalFrom p st es = journals.IsLegalFrom (step p) (is_enabled p) st es

-- the state after a journal
abbrev pub after : Plan → List Event → State
after p journal = run p (start p) journal

-- each event of the journal may come where it comes
abbrev pub IsLegal : Plan → List Event → Type 0
IsLegal p journal = IsLegalFrom p (start p) journal

-- no event is enabled
abbrev pub IsQuiet : Plan → State → Type 0
IsQuiet p st = journals.IsQuietState (is_enabled p) st

-- a legal journal after which no event may come
abbrev pub IsWhole : Plan → List Event → Type 0
IsWhole p journal = IsLegal p journal × IsQuiet p (after p journal)

-- whether each event may come where it comes
abbrev pub is_legal_from : Plan → State → List Event → Bool
is_legal_from p st [] = true
is_legal_from p st (e ∷ es) = is_enabled p st e && is_legal_from p (step p st e) es
