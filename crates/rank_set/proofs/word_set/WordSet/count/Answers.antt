use Rattle.std.proofs.Common.{length, ap, ◌∙◌, arith}
use Rattle.rank_set.specs.Ranks.{size}
use Rattle.rank_set.specs.Words.{ranks_in}
use Rattle.rank_set.proofs.word_set.WordSet.count.Goals as goal

pub returns-clause-count : goal.returns-clause-count
returns-clause-count c =
    c.ones.ensures.ones c.self.inside.offset ∙ ap (λ ws. size (ranks_in c.self.inside.offset ws)) c.as_slice.ensures ∙ ap size c.self.view_is

pub returns-clause-within_limit : goal.returns-clause-within_limit
returns-clause-within_limit c = omega (arith, c.ones.ensures.within, ap length c.as_slice.ensures, c.self.invariant.within_limit)
