use Rattle.std.proofs.Common.{◌≡◌, ◌≤◌, ◌*◌, take}
use Rattle.std.specs.Prelude.{count_ones}
use Rattle.std.specs.List.{sum_by}
use Rattle.rank_set.proofs.words.ones.Given as goal

abbrev pub invariant-loop-word : goal.invariant-loop-word
invariant-loop-word l = record {
  ones : l.total ≡ sum_by count_ones (take l.word-index l.words);
  within_limit : l.total ≤ 64 * l.word-index;
}
