use Rattle.std.proofs.Common.{◌∙◌, sym, ap}
use Rattle.std.specs.Prelude.{codes}
use Rattle.symbol_name.specs.Texts.{before, is_word_byte, end_run}
use Rattle.symbol_name.specs.Copies.{is_copy_word}
use Rattle.symbol_name.proofs.Ends.{none_through}
use Rattle.symbol_name.proofs.copies.without_copy_word.Goals as goal

pub returns-in_default : goal.returns-in_default
returns-in_default c =
    sym (none_through (is_copy_word (end_run is_word_byte c.args.text.now)) _
    (ap (before (codes ".")) (sym c.cut_word.ensures.prefix) ∙ sym c.in_default.ensures))
