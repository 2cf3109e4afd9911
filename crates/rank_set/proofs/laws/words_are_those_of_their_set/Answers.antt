use Rattle.rank_set.proofs.WordSets.{ranks_in-none}
use Rattle.rank_set.proofs.WordLists.{offset_of_ranks, words_of_ranks, ranks_small, some_ranks, words_of_make, ranks_in-push}
use Rattle.rank_set.proofs.laws.words_are_those_of_their_set.Goals as goal

pub returns : goal.returns
returns c = record {
  offset = offset_of_ranks;
  words = words_of_ranks;
  below = λ o ws r h. ranks_small o ws h r;
  some = some_ranks;
  trimmed = λ s small. (words_of_make s small).trimmed;
  fit = λ s small. (words_of_make s small).fit;
  ranks = λ s small. (words_of_make s small).is;
  nothing = ranks_in-none;
  push = ranks_in-push;
}
