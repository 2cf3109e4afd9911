-- What a worker finds when it has the turn.
use Rattle.std.specs.Prelude.{◌≡◌, None}
use Rattle.stat_plan.specs.Plans.{Plan}
use Rattle.board_turn.specs.declared.turn.Turn.{Turn}
use Rattle.board_turn.specs.declared.turn.TurnSeat.{TurnSeat}
use Rattle.overlay_run.specs.Boards.{BoardView, HasEnded}
use Rattle.overlay_run.specs.Given.{given_board}
use Rattle.overlay_run.specs.Seats.{IsAway, IsIdle}
use Rattle.overlay_run.specs.declared.worker.Next.{Next}
use Rattle.overlay_run.specs.declared.worker.Next.TheVariants.{Claims, Waits, Ends}

-- the seat has a claim that isn't worked on yet; or it is idle, and where the run ends, the board that was given back is stopped or done
abbrev pub IsNext : {X : Type 0} → Turn BoardView Plan → TurnSeat → Next X → Type 0
IsNext t s (Claims c) = (c.left ≡ None) × IsAway t s c
IsNext t s (Waits count) = IsIdle t s
IsNext t s (Ends given) = HasEnded (given_board given) × IsIdle t s
