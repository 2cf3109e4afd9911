use Rattle.event_claims.proofs.Independent.{finds_same, finds_through}
use Rattle.event_claims.proofs.Releases.{releases_through}
use Rattle.event_claims.proofs.independent_events_find_the_same.Goals as goal

pub returns : goal.returns
returns c = record { single = finds_same; several = finds_through; releases = releases_through }
