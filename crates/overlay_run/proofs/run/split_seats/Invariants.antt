use Rattle.std.proofs.Common.{◌≡◌}
use Rattle.std.specs.Prelude.{All, length}
use Rattle.board_turn.specs.Seats.{seat_number, split_count}
use Rattle.overlay_run.specs.Seats.{IsIdle}
use Rattle.overlay_run.proofs.run.split_seats.Given as goal

abbrev pub invariant-loop : goal.invariant-loop
invariant-loop g l = IsIdle l.turn l.first × (seat_number l.first ≡ 1) × (split_count l.first ≡ l.counter) × All (λ s. IsIdle l.turn s) l.seats.items × (length l.seats.items ≡ l.counter)
