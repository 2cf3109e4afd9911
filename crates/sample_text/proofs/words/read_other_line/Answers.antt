use Rattle.std.proofs.Common.{ap, ◌∙◌, sym, Err}
use Rattle.sample_text.proofs.LineWords.{line_of_nothing, not_utf8}
use Rattle.sample_text.proofs.words.read_other_line.Goals as goal

pub returns-then-says_nothing-clause-ok : goal.returns-then-says_nothing-clause-ok
returns-then-says_nothing-clause-ok c = line_of_nothing c.args.line_number c.args.line.now (sym c.says_nothing.ensures ∙ c.if-says_nothing.true)

pub returns-else-says_nothing-clause-err : goal.returns-else-says_nothing-clause-err
returns-else-says_nothing-clause-err c = not_utf8 c.args.line_number c.args.line.now (sym c.says_nothing.ensures ∙ c.if-says_nothing.false) c.requires ∙ ap Err (sym c.bad.ensures)
