use Rattle.std.proofs.Common.{◌≡◌, List, [], ◌∷◌, Option, Some, sym, ap, ◌∙◌}
use Rattle.std.specs.Prelude.{slice_get}
use Rattle.std.specs.Option.{unwrap_or}
use Rattle.std.proofs.lemmas.Option.{none-some}
use Rattle.rank_set.specs.declared.Run.{Run}
use Rattle.rank_set.specs.Ranks.{Ranks, in_order}
use Rattle.rank_set.specs.Runs.{run_pairs, ranks_of_runs, AreRuns}
use Rattle.rank_set.proofs.RunSizes.{least_of_runs}
use Rattle.rank_set.proofs.run_set.RunSet.first.Goals as goal

first_least : (xs : List Run) (run : Run) → AreRuns 0 (run_pairs xs) → slice_get xs 0 ≡ Some run → slice_get (in_order (ranks_of_runs (run_pairs xs))) 0 ≡ Some run.first
first_least [] run h e = absurd (none-some run e)
first_least (x ∷ xs) run h e = least_of_runs 0 (x.first, x.last) (run_pairs xs) h ∙ ap (λ (o : Option Run). Some (unwrap_or o x).first) e

pub returns-clause-least : goal.returns-clause-least
returns-clause-least c =
    ap (λ (s : Ranks). slice_get (in_order s) 0) (sym c.self.view_is)
    ∙ first_least c.self.inside.runs.items c.in_ok-run.run'.now c.self.invariant (ap (λ xs. slice_get xs 0) (sym c.as_slice.ensures) ∙ sym c.in_ok-run.ensures.value)
