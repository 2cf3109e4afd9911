use Rattle.std.proofs.Common.{◌/◌, ◌∙◌, sym, ap, subst}
use Rattle.rank_set.specs.Words.{ranks_in, AreWords}
use Rattle.rank_set.proofs.OneItem.{one_word_trimmed, one_word_ranks}
use Rattle.rank_set.proofs.words.one_word.Goals as goal

pub returns-clause-trimmed : goal.returns-clause-trimmed
returns-clause-trimmed c =
    subst (AreWords (c.args.first / 64)) (sym c.from_buf.ensures.items)
    (one_word_trimmed c.args.first c.args.last c.word_of_run.result c.requires.not_empty c.requires.below_limit c.requires.one c.word_of_run.ensures)

pub returns-clause-ranks : goal.returns-clause-ranks
returns-clause-ranks c =
    ap (ranks_in (c.args.first / 64)) c.from_buf.ensures.items
    ∙ one_word_ranks c.args.first c.args.last c.word_of_run.result c.requires.not_empty c.requires.below_limit c.requires.one c.word_of_run.ensures
