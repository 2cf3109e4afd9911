use Rattle.std.proofs.Common.{ap, ◌∙◌}
use Rattle.rank_set.specs.Words.{ranks_in}
use Rattle.rank_set.proofs.WordSets.{ranks_in-none}
use Rattle.rank_set.proofs.word_set.WordSet.new.Goals as goal

pub returns : goal.returns
returns c = ap (ranks_in 0) c.new.ensures.items ∙ ranks_in-none 0
