use Rattle.generated_job.proofs.Lines.{lines_are, words_are, number_is}
use Rattle.generated_job.proofs.RankTexts.{rank_read, run_read}
use Rattle.generated_job.proofs.Statements.{statements_written}
use Rattle.generated_job.proofs.laws.parts_are_read_back.Goals as goal

pub returns : goal.returns
returns c = record {
  statements = statements_written 1;
  lines = lines_are;
  words = words_are;
  numbers = number_is;
  rank = rank_read;
  ranks = run_read;
}
