-- What contracts see of a seat, of a turn and of a held board.
use Rattle.std.specs.Prelude.{◌≡◌, ℕ, ◌<◌, Bool, true, false, List, [], ◌∷◌, ◌++◌, Option, Some, None, length, slice_get}
use Rattle.overlay_event.specs.declared.event.Event.{Event}
use Rattle.board_turn.specs.Entries.{holding, with_home}
use Rattle.board_turn.specs.declared.holding.Holding.{Holding}
use Rattle.board_turn.specs.declared.turn.Turn.{Turn}
use Rattle.board_turn.specs.declared.turn.TurnSeat.{TurnSeat}
use Rattle.board_turn.specs.declared.turn.Held.{Held}
use Rattle.board_turn.specs.Turns.{seen_state, known_state}
use Rattle.board_turn.specs.Known.{known_of}

-- the seat's number, from 1
abbrev pub seat_number : TurnSeat → ℕ
seat_number s = (known_of s.badge.views).number

-- the journal that the seat saw last
abbrev pub seat_journal : TurnSeat → List Event
seat_journal s = (seen_state (known_of s.badge.views)).journal

-- the claim whose node the seat has out, if it has one out
abbrev pub seat_out : TurnSeat → Option Holding
seat_out s = (known_of s.badge.views).out

-- whether the seat has the turn
abbrev pub has_turn : TurnSeat → Bool
has_turn s = (known_of s.badge.views).turn

-- how many seats were split off the seat
abbrev pub split_count : TurnSeat → ℕ
split_count s = (known_of s.badge.views).made

-- a seat as its callers see it
pub record SeatView : Type 0 where
  pub number : ℕ
  -- whether it has the turn
  pub turn : Bool
  -- how many seats were split off it
  pub split : ℕ
  -- the journal that it saw last
  pub journal : List Event
  -- the claim whose node it has out, if it has one out
  pub out : Option Holding

-- the view of a seat
abbrev pub seat_view : TurnSeat → SeatView
seat_view s = record { number = seat_number s; turn = has_turn s; split = split_count s; journal = seat_journal s; out = seat_out s }

-- the view of a seat that has neither the turn nor a node out, and off which no seat was split
abbrev pub idle_view : ℕ → List Event → SeatView
idle_view number journal = record { number = number; turn = false; split = 0; journal = journal; out = None }

-- the seat's view is this one
pub record HasView (s : TurnSeat) (v : SeatView) : Type 0 where
  pub number : seat_number s ≡ v.number
  pub turn : has_turn s ≡ v.turn
  pub split : split_count s ≡ v.split
  pub journal : seat_journal s ≡ v.journal
  pub out : seat_out s ≡ v.out

-- the seat's view after a claim of an event over this journal
abbrev pub claimed_view : TurnSeat → Event → List Event → SeatView
claimed_view s e journal = record (seat_view s) { journal = journal; out = Some (holding (seat_number s) e (length journal)) }

-- the seat's view after a commit of what it had out, with this journal
abbrev pub committed_view : TurnSeat → List Event → SeatView
committed_view s journal = record (seat_view s) { journal = journal; out = None }

-- no node is out
abbrev pub AreAllHome : List (Option Holding) → Type 0
AreAllHome holders = (node : ℕ) → node < length holders → slice_get holders node ≡ Some None

module _ {B : Type 0} where
  -- the board
  abbrev pub board_of : Held B → B
  board_of h = h.board

  -- the board as it was when it was taken, or at the last claim or commit since
  abbrev pub snapshot_of : Held B → B
  snapshot_of h = h.snapshot.value

  -- the board's journal and holders are those of the snapshot
  pub record MatchesSnapshot (journal_of : B → List Event) (holders_of : B → List (Option Holding)) (h : Held B) : Type 0 where
    pub journal : journal_of (board_of h) ≡ journal_of (snapshot_of h)
    pub holders : holders_of (board_of h) ≡ holders_of (snapshot_of h)

  -- the board differs from the snapshot by the commit of the event that is out: its journal ends with that event, whose
  -- node is home
  abbrev pub CommitsOut : (B → List Event) → (B → List (Option Holding)) → Held B → Option Holding → Type 0
  CommitsOut journal holders h out = (c : Holding) × (out ≡ Some c) × (journal (board_of h) ≡ journal (snapshot_of h) ++ c.event ∷ [])
      × (holders (board_of h) ≡ with_home (holders (snapshot_of h)) c.event)

module _ {B Y : Type 0} where
  -- the seat is one of the turn's
  abbrev pub IsSeatOf : Turn B Y → TurnSeat → Type 0
  IsSeatOf t s = s.badge.table_id ≡ t.table.shared.table_id

  -- the base of the board that the turn was made with
  abbrev pub turn_base : (B → Y) → Turn B Y → Y
  turn_base base t = base t.table.shared.key.value

  -- The seat has the turn and took this board: the snapshot's journal and holders are those that the seat knows, and the
  -- board has the turn's base.
  pub record HasTaken (journal_of : B → List Event) (holders_of : B → List (Option Holding)) (base_of : B → Y) (t : Turn B Y) (s : TurnSeat) (h : Held B) : Type 0 where
    pub turn : has_turn s ≡ true
    pub journal : journal_of (snapshot_of h) ≡ (known_state (known_of s.badge.views)).journal
    pub holders : holders_of (snapshot_of h) ≡ (known_state (known_of s.badge.views)).holders
    pub base : base_of (board_of h) ≡ turn_base base_of t
