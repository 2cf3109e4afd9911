use Rattle.std.proofs.Common.{◌∙◌, ap}
use Rattle.clap.specs.Words.{first_value, found_of}
use Rattle.clap.proofs.WalkLemmas.{first_value-rows}
use Rattle.stat_words.specs.Modes.{word_of}
use Rattle.stat_words.proofs.values.value.Goals as goal

pub returns : goal.returns
returns c =
    c.get_str.ensures
    ∙ ap (first_value (found_of c.args.matches.now)) c.word.ensures
    ∙ first_value-rows (found_of c.args.matches.now) (word_of c.args.option)
