-- What a seat of a run knows of the claim that it has out.
use Rattle.std.specs.Prelude.{◌≡◌, ℕ, List, length, Option, None, Some, false}
use Rattle.stat_plan.specs.Plans.{Plan}
use Rattle.overlay_event.specs.declared.event.Event.{Event}
use Rattle.board_turn.specs.declared.holding.Holding.{Holding}
use Rattle.board_turn.specs.declared.turn.Turn.{Turn}
use Rattle.board_turn.specs.declared.turn.TurnSeat.{TurnSeat}
use Rattle.board_turn.specs.declared.turn.Held.{Held}
use Rattle.board_turn.specs.Seats.{HasTaken, IsSeatOf, MatchesSnapshot, has_turn, seat_number, seat_out, seat_journal, turn_base}
use Rattle.overlay_core.specs.Runs.{after}
use Rattle.overlay_net.specs.Claims.{ClaimView, IsMovedOut, MayBeWorked}
use Rattle.overlay_run.specs.Boards.{BoardView}

-- What was moved out for the claim is what the state after this journal has. The claim was made when this was the board's journal.
pub record IsClaimAfter (p : Plan) (journal : List Event) (h : Holding) (c : ClaimView) : Type 0 where
  pub event : h.event ≡ c.event
  pub since : h.since ≡ length journal
  pub moved : IsMovedOut p (after p journal) c
  pub worked : MayBeWorked p c

-- a seat with this number, which has this out and saw this journal last, has the claim
pub record HasClaim (p : Plan) (number : ℕ) (journal : List Event) (out : Option Holding) (c : ClaimView) : Type 0 where
  pub holding : Holding
  pub is_out : out ≡ Some holding
  pub own : holding.seat ≡ number
  pub claim : IsClaimAfter p journal holding c

-- the plan of a turn over a board
abbrev pub plan_of : Turn BoardView Plan → Plan
plan_of t = turn_base (λ b. b.plan) t

-- the seat is one of the turn's, and does not have the turn
pub record IsAtRest (t : Turn BoardView Plan) (s : TurnSeat) : Type 0 where
  pub seat_of_turn : IsSeatOf t s
  pub has_no_turn : has_turn s ≡ false

-- the seat is at rest, and has no node out
pub record IsIdle (t : Turn BoardView Plan) (s : TurnSeat) : Type 0 where
  pub at_rest : IsAtRest t s
  pub nothing_out : seat_out s ≡ None

-- the seat is at rest, and has this claim
pub record IsAway (t : Turn BoardView Plan) (s : TurnSeat) (c : ClaimView) : Type 0 where
  pub at_rest : IsAtRest t s
  pub has_claim : HasClaim (plan_of t) (seat_number s) (seat_journal s) (seat_out s) c

-- the seat is one of the turn's, and has the turn with this board, of which neither the journal nor a holder was changed since
pub record HoldsBoard (t : Turn BoardView Plan) (s : TurnSeat) (h : Held BoardView) : Type 0 where
  pub seat_of_turn : IsSeatOf t s
  pub taken : HasTaken (λ b. b.journal) (λ b. b.holders) (λ b. b.plan) t s h
  pub snapshot : MatchesSnapshot (λ b. b.journal) (λ b. b.holders) h
