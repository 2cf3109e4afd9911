use Rattle.std.proofs.Common.{refl}
use Rattle.merge_filter.proofs.Pendings.{comes_next, joins}
use Rattle.merge_filter.proofs.own_tree.take_line.Goals as goal

pub returns-then-line-pending : goal.returns-then-line-pending
returns-then-line-pending g c P C tree =
    joins P C c.args.paths.now c.args.line.now c.args.pending.now (record { path = c.args.pending.now.path; ranks = c.union_into.new.self }) (g.T.PrefixTree.tree c.args.tree.now) tree c.if-line-pending.true refl c.in_ok-union_into.ensures.ok

pub returns : goal.returns
returns g c P C tree =
    comes_next P C c.args.paths.now c.args.line.now c.args.pending.now (record { path = c.args.line.now.path; ranks = c.in_ok-pending.field-0 }) (g.T.PrefixTree.tree c.add_pending.new.tree) (c.in_ok-add_pending.ensures P C tree) refl c.in_ok-pending.ensures
