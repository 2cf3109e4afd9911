-- What the steps on the table do to a seat of it.
use Rattle.std.specs.Prelude.{◌≡◌, ◌≢◌, ℕ, false, true, List, [], ◌∷◌, ◌++◌, Option, Some}
use Rattle.overlay_event.specs.declared.event.Event.{Event}
use Rattle.board_turn.specs.declared.holding.Holding.{Holding}
use Rattle.board_turn.specs.declared.view.View.{View}
use Rattle.atomic_table.specs.declared.shared.Seat.{Seat}
use Rattle.atomic_table.specs.Table.{Me}
use Rattle.board_turn.specs.Entries.{LogState, with_home}
use Rattle.board_turn.specs.Turns.{TakesBoard, after_commit, known_state, seen_state, with_lift}

-- the view is that of a living seat of this number
abbrev pub IsLiving : View → ℕ → Type 0
IsLiving v k = (v.spent ≡ false) × (v.number ≡ k)

-- the view is that of a living seat that has the turn, and whose entries are all counted
abbrev pub IsOwner : View → Type 0
IsOwner v = (v.spent ≡ false) × (v.turn ≡ true) × (v.due ≡ 0)

module _ {S : Type 0} where
  -- the state that the entries lead to which the seat knows
  abbrev pub known_by : Seat S View → LogState
  known_by s = known_state s.me.0

  -- the state that the entries lead to which the seat saw last
  abbrev pub seen_by : Seat S View → LogState
  seen_by s = seen_state s.me.0

  -- the seat is the same one of its table, and now has this view and carries these slots
  abbrev pub SeatBecomes : Seat S View → Seat S View → Me S View → Type 0
  SeatBecomes old new me = (new.table_id ≡ old.table_id) × (new.id ≡ old.id) × (new.me ≡ me)

  -- the seat is the same one of its table, and carries no slot
  abbrev pub SeatStaysFree : Seat S View → Seat S View → Type 0
  SeatStaysFree old new = (new.table_id ≡ old.table_id) × (new.id ≡ old.id) × (new.me.1 ≡ [])

  -- the seat is the same one of its table, and its view is the one after the commit of what it had out
  abbrev pub SeatCommits : Seat S View → Seat S View → Type 0
  SeatCommits old new = (new.table_id ≡ old.table_id) × (new.id ≡ old.id)
      × ((h : Holding) → old.me.0.out ≡ Some h → new.me ≡ (after_commit old.me.0 h, old.me.1))

  -- the seat knows and saw the commit of what it had out: the journal ends with the event, whose node is home
  abbrev pub KnowsCommit : Seat S View → Seat S View → Type 0
  KnowsCommit old new = (h : Holding) → old.me.0.out ≡ Some h
      → ((known_by new).journal ≡ (known_by old).journal ++ h.event ∷ [])
      × ((known_by new).holders ≡ with_home (known_by old).holders h.event)
      × ((seen_by new).journal ≡ (known_by old).journal ++ h.event ∷ [])

module _ {B Y : Type 0} where
  -- what a try for the turn leaves of a seat of the table, where it found the number r in word 0
  abbrev pub HasTriedTurn : (B → List Event) → (B → List (Option Holding)) → (B → Y) → Y → Seat (Option B) View → Seat (Option B) View → ℕ → Type 0
  HasTriedTurn journal holders base y old new r = (new.table_id ≡ old.table_id) × (new.id ≡ old.id)
      × (r ≡ 0 → (b : B) × (new.me.1 ≡ (0, Some b) ∷ old.me.1) × TakesBoard journal holders base (Some y) old.me.0 new.me.0 b)
      × (r ≢ 0 → new.me ≡ old.me)

  -- the view of a seat that fetched this board, and laid the empty slot down
  abbrev pub HasFetched : (B → List Event) → (B → List (Option Holding)) → (B → Y) → Y → View → View → B → Type 0
  HasFetched journal holders base y v u b = (w : View) × (u ≡ with_lift w false) × TakesBoard journal holders base (Some y) v w b
