use Rattle.wide_merge.proofs.Cutting.{cut_parts}
use Rattle.wide_merge.proofs.class_parts.cut.Goals as goal

pub returns : goal.returns
returns c = cut_parts c.args.ranks.now c.if-middle-gt0.below c.in_ok-low.low c.in_ok-high.high c.in_ok-low.ensures c.in_ok-high.ensures
