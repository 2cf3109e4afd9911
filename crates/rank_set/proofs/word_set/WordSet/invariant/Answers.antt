use Rattle.std.proofs.Common.{ap, ◌∙◌}
use Rattle.rank_set.specs.Ranks.{has}
use Rattle.rank_set.proofs.WordLists.{ranks_small}
use Rattle.rank_set.proofs.word_set.WordSet.invariant.Goals as goal

pub returns : goal.returns
returns c = λ r there. ranks_small c.self.inside.offset c.self.inside.words.items c.self.invariant r (ap (λ s. has s r) c.self.view_is ∙ there)
