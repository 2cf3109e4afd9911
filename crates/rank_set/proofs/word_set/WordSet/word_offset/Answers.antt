use Rattle.std.proofs.Common.{ap, ◌∙◌}
use Rattle.rank_set.specs.Words.{ranks_in}
use Rattle.rank_set.specs.Words.{offset_of}
use Rattle.rank_set.proofs.word_set.WordSet.word_offset.Goals as goal

pub returns : goal.returns
returns c = c.offset_in.ensures ∙ ap (λ ws. offset_of (ranks_in c.self.inside.offset ws)) c.as_slice.ensures ∙ ap offset_of c.self.view_is
