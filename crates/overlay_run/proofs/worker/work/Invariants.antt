use Rattle.std.proofs.Common.{◌≡◌}
use Rattle.board_turn.specs.Seats.{seat_number}
use Rattle.overlay_run.specs.Next.{IsNext}
use Rattle.overlay_run.proofs.worker.work.Given as goal

abbrev pub invariant-loop : goal.invariant-loop
invariant-loop g l =
    (goal.iterator-loop g).can_next l.iterator' × (goal.iterator-loop g).is_finite l.iterator' × IsNext l.turn l.seat l.next × (seat_number l.seat ≡ seat_number l.initial.seat)
