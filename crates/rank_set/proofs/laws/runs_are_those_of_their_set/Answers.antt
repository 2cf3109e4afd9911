use Rattle.rank_set.proofs.RunLists.{runs_of_are, runs_of_make, runs_of_count, runs_of_ranks, runs_small}
use Rattle.rank_set.proofs.laws.runs_are_those_of_their_set.Goals as goal

pub returns : goal.returns
returns c = record {
  apart = runs_of_are;
  ranks = runs_of_make;
  len = runs_of_count;
  runs = runs_of_ranks;
  below = λ rs r h. runs_small 0 rs h r;
}
