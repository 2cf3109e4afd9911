use Rattle.std.proofs.Common.{◌∙◌, sym}
use Rattle.symbol_name.specs.Copies.{without_number}
use Rattle.symbol_name.proofs.Repeating.{settled_none, settled_some}
use Rattle.symbol_name.proofs.Shorter.{number_shortens}
use Rattle.symbol_name.proofs.copies.without_numbers.Goals as goal

pub loop-shorter-smaller : goal.loop-shorter-smaller
loop-shorter-smaller c = number_shortens.less c.loop-shorter.left.now c.in-Some.shorter.now (sym c.in-Some.ensures)

pub loop-shorter-preserved : goal.loop-shorter-preserved
loop-shorter-preserved c =
    sym (settled_some without_number number_shortens c.loop-shorter.left.now c.in-Some.shorter.now (sym c.in-Some.ensures)) ∙ c.loop-shorter.invariant

pub returns : goal.returns
returns c = sym (settled_none without_number number_shortens c.loop-shorter.left.now (sym c.in_default.ensures)) ∙ c.loop-shorter.invariant
