use Rattle.std.proofs.Common.{[], sym, ap, subst, ◌∙◌}
use Rattle.rank_set.specs.Ranks.{none}
use Rattle.merge_filter.specs.Contributions.{IsPartialMerge, coverage_of}
use Rattle.merge_filter.proofs.Standing.{covers, stands_none}
use Rattle.merge_filter.proofs.Contribution.none.Goals as goal

pub returns-clause-coverage : goal.returns-clause-coverage
returns-clause-coverage g c = ap coverage_of c.of_tree.ensures ∙ covers (g.T.PrefixTree.tree c.empty.result) [] none c.empty.ensures

pub returns-clause-partial_merge : goal.returns-clause-partial_merge
returns-clause-partial_merge g c p wave = subst (IsPartialMerge p) (sym c.of_tree.ensures) (stands_none p c.args.s c.args.w (g.T.PrefixTree.tree c.empty.result) c.empty.ensures wave)
