use Rattle.std.proofs.Common.{◌∙◌}
use Rattle.text_lines.proofs.Cuts.{first_feed}
use Rattle.text_lines.proofs.lines.line_len.Goals as goal

pub returns-clause-value : goal.returns-clause-value
returns-clause-value c = c.unwrap_or.ensures ∙ first_feed c.args.text.now c.memchr.result c.memchr.ensures
