use Rattle.std.proofs.Common.{◌≡◌, ◌||◌, ℕ, ltb, take}
use Rattle.std.specs.List.{filter, list_any}
use Rattle.std.specs.Ordering.{nat_cmp, eq_by_cmp}
use Rattle.rank_set.specs.Ranks.{has, in_order}
use Rattle.tree_view.proofs.representatives.add_least.Given as goal

abbrev pub invariant-loop : goal.invariant-loop
invariant-loop l = record {
  taken : (r : ℕ) → has l.all r ≡ (has l.fn.all r || list_any (eq_by_cmp nat_cmp r) (take l.counter (in_order l.ranks)));
  below : take l.counter (in_order l.ranks) ≡ filter (λ y. ltb y l.from) (in_order l.ranks);
}
