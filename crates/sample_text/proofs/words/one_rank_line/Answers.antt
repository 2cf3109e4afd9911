use Rattle.sample_text.proofs.FirstLines.{whole_line}
use Rattle.sample_text.proofs.words.one_rank_line.Goals as goal

pub returns-clause-sample : goal.returns-clause-sample
returns-clause-sample c = whole_line c.args.line.now c.in_ok-start.start.rest.now c.in_ok-start.start.time c.in_ok-start.start.rank c.in_ok-start.ensures.sample
