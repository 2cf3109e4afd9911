-- What a text says as a journal.
use Rattle.std.specs.Prelude.{◌≡◌, ◌≢◌, ℕ, Bool, List, [], ◌∷◌, Option, None, Some, find, is_none}
use Rattle.std.specs.List.{position_from}
use Rattle.std.specs.Str.{bytes_eq}
use Rattle.text_lines.specs.Lines.{lines}
use Rattle.overlay_setup.specs.NodeSets.{In}
use Rattle.overlay_event.specs.declared.event.Event.{Event}
use Rattle.stat_plan.specs.Plans.{Plan, waves_of}
use Rattle.journal_text.specs.Events.{IsEventOf, events_of}
use Rattle.journal_text.specs.Text.{line_of, wave_text}
use Rattle.journal_text.specs.declared.read.JournalRead.{JournalRead}

-- the event of the plan whose line this is; none where the line is bad
unfoldable pub event_of_line : Plan → List ℕ → Option Event
event_of_line p line = find (λ e. bytes_eq (line_of p e) line) (events_of p)

-- whether a line is bad: it is that of no event of the plan
abbrev pub is_bad : Plan → List ℕ → Bool
is_bad p line = is_none (event_of_line p line)

-- the events of the lines before the first bad one
unfoldable pub events_before : Plan → List (List ℕ) → List Event
events_before p [] = []
events_before p (line ∷ rest) = elim (event_of_line p line) [ None ↦ [] | (Some e) ↦ e ∷ events_before p rest ]

-- the first bad one of some lines, where the first of them has this number
unfoldable pub bad_from : Plan → ℕ → List (List ℕ) → Option ℕ
bad_from p number rest = position_from (is_bad p) number rest

-- what was read of a text: the events of the lines before the first bad one, and that one's number, from 0
pub record ReadJournal : Type 0 where
  pub events : List Event
  pub bad : Option ℕ

-- what a text says as a journal of a plan
abbrev pub journal_of : Plan → List ℕ → ReadJournal
journal_of p text = record { events = events_before p (lines text); bad = bad_from p 0 (lines text) }

-- what a reader returns
abbrev pub read_view : JournalRead → ReadJournal
read_view read = record { events = read.events; bad = read.bad }

-- ---- what single steps of the reader find. No clause of a public call cites what follows.

-- a line is that of the event, or of no event of the plan
abbrev pub IsEventRead : Plan → List ℕ → Option Event → Type 0
IsEventRead p line None = (e : Event) → IsEventOf p e → line ≢ line_of p e
IsEventRead p line (Some e) = IsEventOf p e × (line ≡ line_of p e)

-- a text is that of the wave, or of no wave of the plan
abbrev pub IsWaveRead : Plan → List ℕ → Option (ℕ × ℕ) → Type 0
IsWaveRead p text None = (s w : ℕ) → In (s, w) (waves_of p.streams) → text ≢ wave_text s w
IsWaveRead p text (Some v) = In (v.0, v.1) (waves_of p.streams) × (text ≡ wave_text v.0 v.1)
