use Rattle.std.proofs.Common.{◌≡◌, ◌∙◌, ℕ, ◌<◌, List, true, map, sym, ap, subst}
use Rattle.rank_set.specs.declared.TheConstants.{RANK_LIMIT}
use Rattle.rank_set.specs.declared.Run.{Run}
use Rattle.rank_set.specs.Ranks.{Ranks, has, in_order}
use Rattle.rank_set.specs.Runs.{AreRuns, ranks_of_runs, runs_of}
use Rattle.rank_set.proofs.RunLists.{runs_of_are, runs_of_make}
use Rattle.rank_places.specs.Table.{cover_of, ArePlaced}
use Rattle.rank_places.proofs.Runs.{are_placed, placed_ends}
use Rattle.rank_places.proofs.CoverPlaces.of.Goals as goal

module _ (cover : Ranks) (small : (r : ℕ) → has cover r ≡ true → r < RANK_LIMIT) (runs rs : List Run) (all : map (λ run. (run.first, run.last)) runs ≡ runs_of (in_order cover)) (seen : rs ≡ runs) where
  same : map (λ run. (run.first, run.last)) rs ≡ runs_of (in_order cover)
  same = ap (map (λ run. (run.first, run.last))) seen ∙ all

  are : AreRuns 0 (map (λ run. (run.first, run.last)) rs)
  are = subst (AreRuns 0) (sym same) (runs_of_are cover small)

  make : ranks_of_runs (map (λ run. (run.first, run.last)) rs) ≡ cover
  make = ap ranks_of_runs same ∙ runs_of_make cover small

pub placed_runs-requires : goal.placed_runs-requires
placed_runs-requires c = are c.args.cover.now c.invariant.ensures c.in_ok-runs.runs.items c.deref.result.now c.in_ok-runs.ensures c.deref.ensures.value

pub invariant_of-result : goal.invariant_of-result
invariant_of-result c =
    subst (ArePlaced 0 0) (sym c.in_ok-placed_runs.ensures)
    (are_placed 0 0 c.deref.result.now (are c.args.cover.now c.invariant.ensures c.in_ok-runs.runs.items c.deref.result.now c.in_ok-runs.ensures c.deref.ensures.value))

pub returns : goal.returns
returns c =
    ap cover_of c.in_ok-placed_runs.ensures ∙ ap ranks_of_runs (placed_ends 0 c.deref.result.now)
    ∙ make c.args.cover.now c.invariant.ensures c.in_ok-runs.runs.items c.deref.result.now c.in_ok-runs.ensures c.deref.ensures.value
