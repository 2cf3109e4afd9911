use Rattle.std.proofs.Common.{slice_set, ◌∙◌, ap, arith}
use Rattle.arena_tree.specs.Steps.{with_frames}
use Rattle.arena_tree.proofs.Changes.{with_change-set, change_past}
use Rattle.arena_tree.proofs.apply.cut.Goals as goal

pub returns-then-at-len-clause-items : goal.returns-then-at-len-clause-items
returns-then-at-len-clause-items c =
    ap (slice_set c.args.nodes.now.items c.args.at) c.keep_frames.ensures
    ∙ with_change-set c.args.nodes.now.items c.args.at (with_frames c.args.upper.more c.args.upper.label c.args.upper.ends c.args.upper.below) c.get_mut.result.now c.get_mut.ensures.value

pub returns-else-at-len-clause-items : goal.returns-else-at-len-clause-items
returns-else-at-len-clause-items c = change_past c.args.nodes.now.items c.args.at (with_frames c.args.upper.more c.args.upper.label c.args.upper.ends c.args.upper.below) (omega (arith, c.len.ensures, c.if-at-len.false))
