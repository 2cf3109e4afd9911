use Rattle.std.proofs.Common.{◌∙◌, ap}
use Rattle.value_text.specs.Views.{numbers_view}
use Rattle.value_text.proofs.Entries.{no_numbers}
use Rattle.value_text.proofs.parser.Parser.new.Goals as goal

pub returns-clause-view : goal.returns-clause-view
returns-clause-view c = ap (numbers_view c.in_ok-entries.entries) c.new-numbers.ensures.items ∙ no_numbers c.in_ok-entries.entries
