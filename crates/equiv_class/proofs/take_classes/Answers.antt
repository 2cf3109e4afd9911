use Rattle.std.proofs.Common.{◌∙◌, sym}
use Rattle.equiv_class.proofs.IndexPaths.{class_end}
use Rattle.equiv_class.proofs.take_classes.Goals as goal

pub returns-clause-view : goal.returns-clause-view
returns-clause-view c es long =
    class_end es c.args.found.origins.items c.loop-block.all.items c.loop-block.block-iterator.rest.items _ (sym c.loop-block.block-iterator.rest.ok.0 ∙ c.in-None.ensures.steps.0) (c.loop-block.invariant.view es long)
