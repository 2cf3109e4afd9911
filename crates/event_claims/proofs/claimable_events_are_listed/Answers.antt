use Rattle.event_claims.proofs.Claimable.{claimable_listed, claimable_home, claimable_quiet}
use Rattle.event_claims.proofs.claimable_events_are_listed.Goals as goal

pub returns : goal.returns
returns c = record {
  listed = λ p journal plan legal out e. claimable_listed p journal out e plan legal;
  home = claimable_home;
  quiet = λ p journal plan legal out. claimable_quiet p journal out plan legal;
}
