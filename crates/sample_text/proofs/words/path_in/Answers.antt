use Rattle.std.proofs.Common.{◌∙◌, sym}
use Rattle.sample_text.proofs.LineWords.{end_left, end_boundary}
use Rattle.sample_text.proofs.words.path_in.Goals as goal

pub split_at-requires : goal.split_at-requires
split_at-requires c = end_boundary c.args.line.now c.args.end.now c.utf8.line c.requires

pub returns : goal.returns
returns c = c.split_at.ensures.back ∙ sym (end_left c.args.line.now c.args.end.now c.utf8.line c.requires)
