use Rattle.std.proofs.Common.{◌≡◌, replicate}
use Rattle.rank_table.specs.declared.WordNumbers.TheVariants.{Same}
use Rattle.rank_table.proofs.RankTable.new.Given as goal

abbrev pub invariant-loop : goal.invariant-loop
invariant-loop l = l.words.items ≡ replicate l.counter (Same 0)
