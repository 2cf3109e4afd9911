use Rattle.std.proofs.Common.{◌∙◌, ap, arith, w64}
use Rattle.std.specs.Prelude.{bit_and, ◌==◌}
use Rattle.std.specs.Int.{bit_not}
use Rattle.rank_set.proofs.WordSets.{word_at-small}
use Rattle.rank_set.proofs.OneWord.{covers_is}
use Rattle.rank_set.proofs.one_word.covers_word.Goals as goal

pub returns : goal.returns
returns c =
    ap (λ v. bit_and c.args.word (bit_not w64 v) == 0) c.word_of.ensures
    ∙ covers_is c.args.index c.args.word c.args.offset c.args.words.now (omega arith) (word_at-small c.args.offset c.args.words.now (λ i. omega (arith, c.type_inv.words i)))
