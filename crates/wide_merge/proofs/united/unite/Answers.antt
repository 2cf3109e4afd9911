use Rattle.std.proofs.Common.{get_or, rules}
use Rattle.std.specs.Ordering.{is_lt, nat_cmp}
use Rattle.std.specs.Cmp.Lexicographic.{slice_cmp}
use Rattle.std.proofs.lemmas.Cmp.{nat_list_cmp_total}
use Rattle.std.proofs.lemmas.List.MinMax.{ranks_by}
use Rattle.std.proofs.lemmas.List.Sorted.{answers_always}
use Rattle.rank_set.specs.Ranks.{in_order}
use Rattle.equiv_class.specs.declared.Class.{Class}
use Rattle.wide_merge.proofs.Sorts.{united_classes}
use Rattle.wide_merge.proofs.united.unite.Goals as goal

pub returns : goal.returns
returns c es P A B up is_one is_other =
    united_classes es P A B c.args.one.items c.args.other.items c.append.new.self.items c.sort_by.new.self.items c.in_ok-all.all.items c.sort_unstable_by_key.new.self.items up is_one is_other
    c.in_ok-append.ensures.items c.in_ok-sort_by.ensures.permutation
    (c.in_ok-sort_by.ensures.sorted (λ a b. is_lt (slice_cmp nat_cmp a.paths.items b.paths.items)) (ranks_by nat_list_cmp_total (λ (k : Class). k.paths.items)) (answers_always _ _ _ (λ f a r f2 h. search rules)))
    c.in_ok-all.ensures
    c.sort_unstable_by_key.ensures.permutation
    (c.sort_unstable_by_key.ensures.sorted (λ k. get_or (in_order k.ranks) 0 0) (answers_always _ _ _ (λ f a r f2 h. search rules)))
