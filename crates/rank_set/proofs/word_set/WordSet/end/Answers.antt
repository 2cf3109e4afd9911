use Rattle.std.proofs.Common.{ap, ◌∙◌, arith}
use Rattle.rank_set.specs.Ranks.{Ranks, has}
use Rattle.rank_set.proofs.Spanning.{rank_within}
use Rattle.rank_set.proofs.word_set.WordSet.end.Goals as goal

pub returns-clause-above : goal.returns-clause-above
returns-clause-above c = λ r there.
    let parts = rank_within c.self.inside.offset c.self.inside.words.items r (ap (λ (s : Ranks). has s r) c.self.view_is ∙ there) in
    omega (arith, parts.1, c.len.ensures.value)
