use Rattle.std.proofs.Common.{◌/◌, ◌%◌, sym, ap, ◌∙◌}
use Rattle.rank_set.specs.Ranks.{has}
use Rattle.rank_set.specs.Words.{is_bit, word_at}
use Rattle.rank_set.proofs.WordSets.{has-ranks_in, tests_bit}
use Rattle.rank_set.proofs.word_set.WordSet.contains.Goals as goal

pub returns : goal.returns
returns c =
    tests_bit c.word_of.result (c.args.r % 64)
    ∙ ap (λ w. is_bit w (c.args.r % 64)) (c.word_of.ensures ∙ ap (λ ws. word_at c.self.inside.offset ws (c.args.r / 64)) c.as_slice.ensures)
    ∙ sym (has-ranks_in c.self.inside.offset c.self.inside.words.items c.args.r) ∙ ap (λ s. has s c.args.r) c.self.view_is
