use Rattle.front_end.proofs.Numbered.{distinct_where_numbered}
use Rattle.front_end.proofs.laws.numbered_releases_are_distinct.Goals as goal

pub returns : goal.returns
returns c = distinct_where_numbered
