use Rattle.std.proofs.Common.{◌≡◌, ap, ◌∙◌, subst}
use Rattle.rank_set.specs.Words.{ranks_in, AreWords}
use Rattle.rank_set.specs.Words.{offset_of}
use Rattle.rank_set.specs.WordLists.{words_of}
use Rattle.rank_set.proofs.word_set.WordSet.held_words.Goals as goal

pub returns-clause-trimmed : goal.returns-clause-trimmed
returns-clause-trimmed c =
    let e : ranks_in c.self.inside.offset c.as_slice.result.now ≡ c.args.self.now = ap (ranks_in c.self.inside.offset) c.as_slice.ensures ∙ c.self.view_is in
    subst (λ s. AreWords (offset_of s) c.held.result.now) e c.held.ensures.trimmed

pub returns-clause-ranks : goal.returns-clause-ranks
returns-clause-ranks c =
    let e : ranks_in c.self.inside.offset c.as_slice.result.now ≡ c.args.self.now = ap (ranks_in c.self.inside.offset) c.as_slice.ensures ∙ c.self.view_is in
    subst (λ s. ranks_in (offset_of s) c.held.result.now ≡ s) e c.held.ensures.ranks

pub returns-clause-list : goal.returns-clause-list
returns-clause-list c = c.held.ensures.list ∙ ap words_of (ap (ranks_in c.self.inside.offset) c.as_slice.ensures ∙ c.self.view_is)
