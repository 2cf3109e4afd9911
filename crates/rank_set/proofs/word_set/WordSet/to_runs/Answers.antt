use Rattle.std.proofs.Common.{sym, ap, subst, ◌∙◌}
use Rattle.rank_set.specs.Runs.{ranks_of_runs, AreRuns}
use Rattle.rank_set.proofs.RunLists.{runs_of_are, runs_of_make}
use Rattle.rank_set.proofs.word_set.WordSet.to_runs.Goals as goal

pub from_runs-requires : goal.from_runs-requires
from_runs-requires c = subst (AreRuns 0) (sym c.in_ok-runs.ensures) (runs_of_are c.args.self.now c.invariant.ensures)

pub returns : goal.returns
returns c = c.from_runs.ensures ∙ ap ranks_of_runs c.in_ok-runs.ensures ∙ runs_of_make c.args.self.now c.invariant.ensures
