use Rattle.sample_text.proofs.Texts.{path_good}
use Rattle.sample_text.proofs.paths.Paths.number.Goals as goal

pub returns-then-is_last-clause-ok : goal.returns-then-is_last-clause-ok
returns-then-is_last-clause-ok c = path_good c.args.line_number c.args.text.now _ (c.is_last.ensures c.if-is_last.true).0
