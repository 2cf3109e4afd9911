use Rattle.std.proofs.Common.{◌≡◌, ◌-◌, suc, length, ap, arith, refl}
use Rattle.rank_set.proofs.RunMerging.{extended}
use Rattle.rank_set.proofs.RunSearch.{pair_at}
use Rattle.rank_set.proofs.sorted_runs.extend_last.Goals as goal

pub returns-clause-runs : goal.returns-clause-runs
returns-clause-runs c =
    let one : length c.args.runs.now ≡ suc (length c.args.runs.now - 1) = omega (arith, c.requires.some) in
    (extended c.args.runs.now (length c.args.runs.now - 1) c.args.first c.args.last _ one c.requires.runs (omega (arith, ap (λ p. p.1) (pair_at c.args.runs.now (length c.args.runs.now - 1)), c.requires.touches)) c.requires.next.not_empty c.requires.next.below_limit refl).0

pub returns-clause-ranks : goal.returns-clause-ranks
returns-clause-ranks c =
    let one : length c.args.runs.now ≡ suc (length c.args.runs.now - 1) = omega (arith, c.requires.some) in
    (extended c.args.runs.now (length c.args.runs.now - 1) c.args.first c.args.last _ one c.requires.runs (omega (arith, ap (λ p. p.1) (pair_at c.args.runs.now (length c.args.runs.now - 1)), c.requires.touches)) c.requires.next.not_empty c.requires.next.below_limit refl).1
