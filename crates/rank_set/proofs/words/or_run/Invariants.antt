use Rattle.std.proofs.Common.{◌+◌, ◌-◌}
use Rattle.std.specs.Prelude.{bit_or}
use Rattle.rank_set.specs.Words.{run_word}
use Rattle.rank_set.proofs.Changes.{HasChanged}
use Rattle.rank_set.proofs.words.or_run.Given as goal

abbrev pub invariant-loop-k : goal.invariant-loop-k
invariant-loop-k l = HasChanged l.fn.words l.words (λ j w. bit_or w (run_word l.first l.last (l.offset + j))) (l.k - l.offset)
