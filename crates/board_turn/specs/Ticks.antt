-- The seats of the tests, which claim and commit ticks.
use Rattle.std.specs.Prelude.{◌≡◌, ℕ, false, Some, None}
use Rattle.overlay_event.specs.declared.event.Event.TheVariants.{Tick}
use Rattle.board_turn.specs.declared.holding.Holding.{Holding}
use Rattle.board_turn.specs.declared.turn.Turn.{Turn}
use Rattle.board_turn.specs.declared.turn.TurnSeat.{TurnSeat}
use Rattle.board_turn.specs.Seats.{IsSeatOf, has_turn, seat_number, seat_out}

-- the seat has a tick of the node out
abbrev pub HasTickOut : TurnSeat → ℕ → Type 0
HasTickOut s node = (h : Holding) × (seat_out s ≡ Some h) × (h.event ≡ Tick node)

module _ {B Y : Type 0} where
  -- a seat of the turn that has neither the turn nor a node out
  abbrev pub IsIdle : Turn B Y → TurnSeat → Type 0
  IsIdle t s = IsSeatOf t s × (has_turn s ≡ false) × (seat_out s ≡ None)

  -- afterwards the seat is one of the turn's without the turn, under the same number
  abbrev pub StaysSeat : Turn B Y → TurnSeat → TurnSeat → Type 0
  StaysSeat t old new = IsSeatOf t new × (has_turn new ≡ false) × (seat_number new ≡ seat_number old)
