-- The log of claims and commits, and the state that it leads to: the journal, the holders, and what each seat has out.
use Rattle.std.specs.Prelude.{◌≡◌, ◌≢◌, ℕ, ◌+◌, ◌≤◌, ◌==◌, true, false, cond, List, [], ◌∷◌, ◌++◌, length, replicate, Option, Some, None, slice_get, slice_set}
use Rattle.overlay_event.specs.Events.{event_node}
use Rattle.overlay_event.specs.declared.event.Event.{Event}
use Rattle.board_turn.specs.declared.holding.Holding.{Holding}
use Rattle.board_turn.specs.declared.view.LogEntry.{LogEntry}

-- a seat's claim of an event, made when the journal had this length
abbrev pub holding : ℕ → Event → ℕ → Holding
holding k e i = record { seat = k; event = e; since = i }

-- the log entry of a claim by a seat
abbrev pub claim_of : ℕ → Event → LogEntry
claim_of k e = record { seat = k; event = e; claims = true }

-- the log entry of a commit by a seat
abbrev pub commit_of : ℕ → Event → LogEntry
commit_of k e = record { seat = k; event = e; claims = false }

-- the holders after a seat's claim of an event, made over this journal: the event's node is out with the seat
abbrev pub with_claim : List (Option Holding) → ℕ → Event → List Event → List (Option Holding)
with_claim holders k e journal = slice_set holders (event_node e) (Some (holding k e (length journal)))

-- the holders after a commit of an event: the event's node is home
abbrev pub with_home : List (Option Holding) → Event → List (Option Holding)
with_home holders e = slice_set holders (event_node e) None

-- the state that a log leads to: the journal, who has each node out, and what each seat has out
pub record LogState : Type 0 where
  pub journal : List Event
  pub holders : List (Option Holding)
  pub outs : ℕ → Option Holding

-- what each seat has out, where seat k has this out
abbrev pub set_out : (ℕ → Option Holding) → ℕ → Option Holding → ℕ → Option Holding
set_out f k o j = cond (j == k) o (f j)

-- after a claim the event's node is out with the seat, and the journal is as before
abbrev pub state_after_claim : LogState → ℕ → Event → LogState
state_after_claim x k e = record {
  journal = x.journal;
  holders = with_claim x.holders k e x.journal;
  outs = set_out x.outs k (Some (holding k e (length x.journal)));
}

-- after a commit the journal ends with the event, and the event's node is home
abbrev pub state_after_commit : LogState → ℕ → Event → LogState
state_after_commit x k e = record { journal = x.journal ++ e ∷ []; holders = with_home x.holders e; outs = set_out x.outs k None }

-- after one more entry
abbrev pub state_after_entry : LogState → LogEntry → LogState
state_after_entry x e = cond e.claims (state_after_claim x e.seat e.event) (state_after_commit x e.seat e.event)

-- after more entries, one by one
abbrev pub log_state_from : LogState → List LogEntry → LogState
log_state_from x [] = x
log_state_from x (e ∷ es) = log_state_from (state_after_entry x e) es

-- the state of a board of n nodes after this log
abbrev pub log_state : ℕ → List LogEntry → LogState
log_state n log = log_state_from record { journal = []; holders = replicate n None; outs = λ _. None } log

-- the journal has no event of the node at or after the claim
abbrev pub IsUnmoved : List Event → Holding → Type 0
IsUnmoved journal h = (i : ℕ) (e : Event) → h.since ≤ i → slice_get journal i ≡ Some e → event_node e ≢ event_node h.event

-- how many nodes are out
abbrev pub out_count : List (Option Holding) → ℕ
out_count [] = 0
out_count (None ∷ os) = out_count os
out_count (Some h ∷ os) = out_count os + 1
