use Rattle.std.proofs.Common.{◌≡◌, ◌<◌, ℕ, true, get_or}
use Rattle.rank_set.specs.Ranks.{has}
use Rattle.equiv_class.specs.declared.SeenPath.{SeenPath}
use Rattle.equiv_class.proofs.states.end_of_all.Given as goal

abbrev pub invariant-loop-path : goal.invariant-loop-path
invariant-loop-path l = record {
  covered : (r : ℕ) → has l.covered r ≡ true → r < l.end;
  seen : (k : ℕ) (d : SeenPath) → k < l.path-index → (r : ℕ) → has (get_or l.seen k d).ranks.now r ≡ true → r < l.end;
}
