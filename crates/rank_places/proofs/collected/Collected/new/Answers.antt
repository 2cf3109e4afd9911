use Rattle.std.proofs.Common.{◌∙◌, [], ◌∷◌, sym, ap}
use Rattle.rank_set.specs.Ranks.{none, union}
use Rattle.rank_set.specs.Words.{ranks_in}
use Rattle.rank_set.proofs.WordSets.{ranks_in-none, union_none}
use Rattle.rank_places.proofs.Gathering.{no_word}
use Rattle.rank_places.proofs.collected.Collected.new.Goals as goal

pub returns-clause-none : goal.returns-clause-none
returns-clause-none c =
    ap (λ ws. union (ranks_in 0 ws) (ranks_in 0 (0 ∷ []))) c.new.ensures.items
    ∙ (λ i. union (ranks_in-none 0 i) (no_word 0 i)) ∙ sym (union_none none)
