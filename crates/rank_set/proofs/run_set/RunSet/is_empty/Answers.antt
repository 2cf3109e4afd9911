use Rattle.std.proofs.Common.{◌≡◌, nat_eq, List, [], ◌∷◌, length, sym, ap, ◌∙◌, ne_eqb, arith, refl}
use Rattle.rank_set.specs.declared.Run.{Run}
use Rattle.rank_set.specs.Ranks.{size, is_empty}
use Rattle.rank_set.specs.Runs.{run_pairs, ranks_of_runs, AreRuns}
use Rattle.rank_set.proofs.RunSizes.{size_run}
use Rattle.rank_set.proofs.run_set.RunSet.is_empty.Goals as goal

none_or_some : (xs : List Run) → AreRuns 0 (run_pairs xs) → nat_eq (length xs) 0 ≡ is_empty (ranks_of_runs (run_pairs xs))
none_or_some [] h = refl
none_or_some (x ∷ xs) h =
    ne_eqb (length (x ∷ xs)) 0 (λ e. omega (arith, e))
    ∙ sym (ne_eqb (size (ranks_of_runs (run_pairs (x ∷ xs)))) 0 (λ e. omega (arith, e, h.1, size_run 0 (x.first, x.last) (run_pairs xs) h)))

pub returns : goal.returns
returns c = c.is_empty.ensures ∙ none_or_some c.self.inside.runs.items c.self.invariant ∙ ap is_empty c.self.view_is
