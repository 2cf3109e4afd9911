use Rattle.std.proofs.Common.{rules}
use Rattle.std.proofs.lemmas.List.Sorted.{answers_always}
use Rattle.front_end.proofs.Orders.{in_order_from_sort}
use Rattle.front_end.proofs.report.in_order.Goals as goal

pub returns : goal.returns
returns g c =
    in_order_from_sort g.T.PrefixTree.tree c.args.releases.now c.in_ok-ordered.ordered.items c.sort_unstable_by_key.new.self.items c.requires.distinct c.in_ok-ordered.ensures c.sort_unstable_by_key.ensures.permutation
    (c.sort_unstable_by_key.ensures.sorted (λ r. (r.now.stream, r.now.wave, r.now.number)) (answers_always _ _ _ (λ f a r f' h. search rules)))
