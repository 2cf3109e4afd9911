use Rattle.std.proofs.Common.{◌++◌, [], ◌∙◌, sym, ap, Err}
use Rattle.std.proofs.lemmas.List.{get_or_default}
use Rattle.rank_set.specs.Ranks.{in_order}
use Rattle.call_path.specs.Pairs.{pairs_at}
use Rattle.prefix_tree.specs.Tree.{tree_of}
use Rattle.rank_set.proofs.SomeMember.{some_member}
use Rattle.merge_filter.proofs.Pendings.{not_full, room_lies, some_ranks}
use Rattle.merge_filter.proofs.own_tree.add_pending.Goals as goal

pub bounds-paths-pending : goal.bounds-paths-pending
bounds-paths-pending g c = let one = some_member c.args.pending.now.ranks (some_ranks c.args.pending.now.ranks (sym c.if-is_empty.ensures)) in c.requires.path one.0 one.1

pub add_or_clear-requires-clause-in_coverage : goal.add_or_clear-requires-clause-in_coverage
add_or_clear-requires-clause-in_coverage g c = room_lies (g.T.PrefixTree.tree c.args.tree.now) c.args.paths.now c.args.pending.now c.requires

pub unreachable-requires : goal.unreachable-requires
unreachable-requires g c =
    let one = some_member c.args.pending.now.ranks (some_ranks c.args.pending.now.ranks (sym c.if-is_empty.ensures)) in
    not_full (g.T.PrefixTree.tree c.args.tree.now) c.args.paths.now c.args.pending.now c.index-paths-pending.result
    (c.index-paths-pending.is ∙ get_or_default c.args.paths.now c.args.pending.now.path c.index-paths-pending.result [] (c.requires.path one.0 one.1)) c.requires
    (c.in-Err-TooManyPrefixes.ensures.full (ap Err c.in-Err-TooManyPrefixes.field-0-is))

pub returns-in-Ok : goal.returns-in-Ok
returns-in-Ok g c P C is =
    let one = some_member c.args.pending.now.ranks (some_ranks c.args.pending.now.ranks (sym c.if-is_empty.ensures)) in
    c.in-Ok.ensures.pairs P C is
    ∙ ap (λ q. tree_of (P ++ pairs_at (in_order c.args.pending.now.ranks) q) C) (c.index-paths-pending.is ∙ get_or_default c.args.paths.now c.args.pending.now.path c.index-paths-pending.result [] (c.requires.path one.0 one.1))
