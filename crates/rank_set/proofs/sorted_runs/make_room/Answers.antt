use Rattle.std.proofs.Common.{◌≡◌, ◌∙◌, ℕ, ◌-◌, ◌<◌, ◌∷◌, length, true, ap, sym, subst, arith}
use Rattle.rank_set.specs.Ranks.{Ranks, has, union}
use Rattle.rank_set.specs.Runs.{ranks_of_runs, AreRuns, run_pairs}
use Rattle.rank_set.proofs.RunSearch.{run_at, run_good, in_run, pairs_length}
use Rattle.rank_set.proofs.RunStretches.{absorbed}
use Rattle.rank_set.proofs.sorted_runs.make_room.Goals as goal

pub returns : goal.returns
returns c =
    let R : Ranks = ranks_of_runs (run_pairs c.args.runs.now) in
    let first : ℕ = c.in-Some.first.now.first in
    let last : ℕ = c.end-last.result - 1 in
    let some : 0 < length c.args.runs.now = omega (arith, ap length c.in-Some.ensures.cases.0) in
    let low : has R first ≡ true = subst (λ rs. has (ranks_of_runs (run_pairs rs)) first ≡ true) (sym c.in-Some.ensures.cases.0) (
    in_run (run_pairs (c.in-Some.first.now ∷ c.in-Some.field-0-1.now)) 0 first (omega arith) (omega arith)
    (let g = run_good 0 (run_pairs (c.in-Some.first.now ∷ c.in-Some.field-0-1.now)) 0 (subst (λ rs. AreRuns 0 (run_pairs rs)) c.in-Some.ensures.cases.0 c.requires) (omega arith) in g.1)
    ) in
    let at : ℕ = length c.args.runs.now - 1 in
    let count : length (run_pairs c.args.runs.now) ≡ length c.args.runs.now = pairs_length c.args.runs.now in
    let good = run_good 0 (run_pairs c.args.runs.now) at c.requires (omega (arith, some, count)) in
    let is : (run_at (run_pairs c.args.runs.now) at).1 ≡ last = omega (arith, c.end-last.ensures.last some) in
    let high : has R last ≡ true = in_run (run_pairs c.args.runs.now) at last (omega (arith, some, count)) (omega (arith, is, good.1)) (omega (arith, is)) in
    ap (λ s. union s R) c.in_ok-put_run-2.ensures.ok ∙ absorbed c.put_run.new.self R last high
    ∙ ap (λ s. union s R) c.in_ok-put_run.ensures.ok ∙ absorbed c.args.words.now R first low
