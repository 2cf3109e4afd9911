-- The ranks that are held as words or as runs.
use Rattle.rank_set.specs.declared.held.Held.{Held}
use Rattle.rank_set.specs.declared.held.Held.TheVariants.{Words, Runs}
use Rattle.rank_set.specs.Ranks.{Ranks}

-- the ranks of either form
abbrev pub ranks_held : Held → Ranks
ranks_held (Words words) = words
ranks_held (Runs runs) = runs
