use Rattle.std.proofs.Common.{◌≡◌, replicate, None}
use Rattle.overlay_run.proofs.board.no_holders.Given as goal

abbrev pub invariant-loop : goal.invariant-loop
invariant-loop l = l.holders.items ≡ replicate l.counter None
