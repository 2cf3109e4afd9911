use Rattle.std.proofs.Common.{◌≡◌, ◌++◌, [], ◌∷◌, map, ℕ, List, ap, sym, subst, ◌∙◌, arith}
use Rattle.std.proofs.lemmas.List.{map-append}
use Rattle.rank_set.specs.Runs.{ranks_of_runs, AreRuns, run_pair, run_pairs}
use Rattle.rank_set.proofs.RunMerging.{last_good, last_longer, another_run, ranks_longer, ranks_with}
use Rattle.rank_set.proofs.sorted_runs.join.Goals as goal

pub overflow_add-pending : goal.overflow_add-pending
overflow_add-pending c =
    let good = last_good 0 (run_pairs c.args.done.now.items) c.args.pending.first c.args.pending.last c.requires.runs in
    omega (arith, good.1)

pub returns-then-next-pending-clause-runs : goal.returns-then-next-pending-clause-runs
returns-then-next-pending-clause-runs c =
    let good = last_good 0 (run_pairs c.args.done.now.items) c.args.pending.first c.args.pending.last c.requires.runs in
    last_longer 0 (run_pairs c.args.done.now.items) c.args.pending.first c.args.pending.last c.max.result c.requires.runs (omega (arith, c.max.ensures)) (omega (arith, good.1, c.requires.next.below_limit, c.max.ensures))

pub returns-then-next-pending-clause-ranks : goal.returns-then-next-pending-clause-ranks
returns-then-next-pending-clause-ranks c =
    let good = last_good 0 (run_pairs c.args.done.now.items) c.args.pending.first c.args.pending.last c.requires.runs in
    ranks_longer (run_pairs c.args.done.now.items) c.args.pending.first c.args.pending.last c.args.next.first c.args.next.last c.max.result good.0 c.requires.next.not_empty c.requires.order c.if-next-pending.true c.max.ensures

pub returns-clause-runs : goal.returns-clause-runs
returns-clause-runs c =
    let xs : List (ℕ × ℕ) = run_pairs c.args.done.now.items in
    let p : ℕ × ℕ = (c.args.pending.first, c.args.pending.last) in
    let n : ℕ × ℕ = (c.args.next.first, c.args.next.last) in
    let e : map run_pair c.push.new.self.items ≡ xs ++ p ∷ [] = ap (map run_pair) c.in_ok-push.ensures.ok ∙ map-append run_pair c.args.done.now.items (c.args.pending ∷ []) in
    subst (λ ys. AreRuns 0 (ys ++ n ∷ [])) (sym e) (another_run 0 xs p.0 p.1 n.0 n.1 c.requires.runs (omega (arith, c.if-next-pending.false)) c.requires.next.not_empty c.requires.next.below_limit)

pub returns-clause-ranks : goal.returns-clause-ranks
returns-clause-ranks c =
    let xs : List (ℕ × ℕ) = run_pairs c.args.done.now.items in
    let p : ℕ × ℕ = (c.args.pending.first, c.args.pending.last) in
    let n : ℕ × ℕ = (c.args.next.first, c.args.next.last) in
    let e : map run_pair c.push.new.self.items ≡ xs ++ p ∷ [] = ap (map run_pair) c.in_ok-push.ensures.ok ∙ map-append run_pair c.args.done.now.items (c.args.pending ∷ []) in
    ap (λ ys. ranks_of_runs (ys ++ n ∷ [])) e ∙ ranks_with (xs ++ p ∷ []) n.0 n.1
