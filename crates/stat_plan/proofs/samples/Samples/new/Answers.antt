use Rattle.std.proofs.Common.{sym, subst}
use Rattle.stat_plan.specs.OwnLines.{ListPlacedRanks}
use Rattle.stat_plan.proofs.OwnPaths.{placed_ranks}
use Rattle.stat_plan.proofs.samples.Samples.new.Goals as goal

pub parted_lines-requires-clause-lines : goal.parted_lines-requires-clause-lines
parted_lines-requires-clause-lines c =
    subst (λ placed. ListPlacedRanks placed c.args.lines) (sym c.deref-5.ensures.value) (placed_ranks c.args.placed.items c.args.paths.items c.args.lines c.requires.samples)
