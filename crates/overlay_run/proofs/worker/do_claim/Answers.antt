use Rattle.std.proofs.Common.{rules}
use Rattle.overlay_run.proofs.Seats.{still_away}
use Rattle.overlay_run.proofs.worker.do_claim.Goals as goal

pub commit_claim-requires-clause-away : goal.commit_claim-requires-clause-away
commit_claim-requires-clause-away g c κs within = still_away c.args.turn.now c.args.seat.now c.args.claim c.in-Ok.claim c.requires.away (search rules)
