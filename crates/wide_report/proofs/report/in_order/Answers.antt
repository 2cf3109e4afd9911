use Rattle.std.proofs.Common.{rules}
use Rattle.std.proofs.lemmas.List.Sorted.{answers_always}
use Rattle.wide_report.proofs.Orders.{in_order_from_sort}
use Rattle.wide_report.proofs.report.in_order.Goals as goal

pub returns : goal.returns
returns g c =
    in_order_from_sort g.T.PrefixTree.tree c.args.releases.items c.sort_unstable_by_key.new.self.items c.requires.distinct c.sort_unstable_by_key.ensures.permutation
    (c.sort_unstable_by_key.ensures.sorted (λ r. (r.stream, r.wave, r.number)) (answers_always _ _ _ (λ f a r f' h. search rules)))
