use Rattle.std.proofs.Common.{◌∙◌, sym}
use Rattle.symbol_name.specs.Copies.{without_part}
use Rattle.symbol_name.proofs.Repeating.{settled_none, settled_some}
use Rattle.symbol_name.proofs.Shorter.{part_shortens}
use Rattle.symbol_name.proofs.copies.without_more_parts.Goals as goal

pub loop-shorter-smaller : goal.loop-shorter-smaller
loop-shorter-smaller c = part_shortens.less c.loop-shorter.left.now c.in-Some.shorter.now (sym c.in-Some.ensures)

pub loop-shorter-preserved : goal.loop-shorter-preserved
loop-shorter-preserved c =
    sym (settled_some without_part part_shortens c.loop-shorter.left.now c.in-Some.shorter.now (sym c.in-Some.ensures)) ∙ c.loop-shorter.invariant

pub returns : goal.returns
returns c = sym (settled_none without_part part_shortens c.loop-shorter.left.now (sym c.in_default.ensures)) ∙ c.loop-shorter.invariant
