use Rattle.front_end.proofs.Direct.{direct_are_distinct}
use Rattle.front_end.proofs.laws.direct_releases_are_distinct.Goals as goal

pub returns : goal.returns
returns c = direct_are_distinct
