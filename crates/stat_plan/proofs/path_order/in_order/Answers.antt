use Rattle.std.proofs.Common.{◌≡◌, ℕ, ◌∙◌, ap, arith, length, map, rules}
use Rattle.std.specs.Borrow.{Bor}
use Rattle.std.specs.Ordering.{is_lt}
use Rattle.std.proofs.lemmas.List.{take_all}
use Rattle.std.proofs.lemmas.List.MinMax.{ranks_by}
use Rattle.std.proofs.lemmas.List.Sorted.{answers_always}
use Rattle.call_path.specs.Path.{Path, path_cmp, path_cmp_total}
use Rattle.overlay_setup.specs.NodeSets.{up_to}
use Rattle.stat_plan.proofs.InOrder.{in_order_from, path_at}
use Rattle.stat_plan.proofs.path_order.in_order.Goals as goal

pub returns : goal.returns
returns c =
    let all : c.loop-number.number ≡ length c.args.paths.now = omega (arith, c.loop-number-test.false, c.loop-number.auto.number-end) in
    in_order_from c.args.paths.now c.loop-number.keyed.items c.sort_by.new.self.items c.loop-entry.numbers.items (c.loop-number.invariant ∙ ap (λ n. map (path_at c.args.paths.now) (up_to n)) all) c.in_ok-sort_by.ensures.permutation
    (c.in_ok-sort_by.ensures.sorted (λ a b. is_lt (path_cmp a.0.now b.0.now)) (ranks_by path_cmp_total (λ (e : Bor Path × ℕ). e.0.now)) (answers_always _ _ _ (λ f a r f2 h. search rules)))
    (c.loop-entry.invariant ∙ ap (map (λ (e : Bor Path × ℕ). e.1)) (take_all c.loop-entry.entry-index c.deref-entry-items.result.now c.loop-entry-test.false ∙ c.deref-entry-items.ensures.value))
