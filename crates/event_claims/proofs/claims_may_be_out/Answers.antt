use Rattle.event_claims.proofs.Claims.{nothing_out, claim_more, out_apart, commit_less}
use Rattle.event_claims.proofs.claims_may_be_out.Goals as goal

pub returns : goal.returns
returns c = record { none = nothing_out; claim = claim_more; apart = out_apart; home = commit_less }
