use Rattle.std.proofs.Common.{◌<◌, length, sym, subst}
use Rattle.rank_set.specs.Ranks.{Has}
use Rattle.stat_plan.specs.OwnLines.{HasRankOn}
use Rattle.stat_plan.specs.Plans.{Plan}
use Rattle.stat_plan.proofs.Indexing.{rank_on}
use Rattle.stat_plan.proofs.plan.Plan.wave_lines.Goals as goal

pub wave_lines-requires-clause-daemons : goal.wave_lines-requires-clause-daemons
wave_lines-requires-clause-daemons c = λ d there.
    subst (λ (p : Plan). d < length p.placed) (sym c.self.view_is) (subst (λ k. d < k) (sym c.invariant.ensures.samples_fit.paired) (c.requires.daemons d there))

pub wave_lines-requires-clause-ranks : goal.wave_lines-requires-clause-ranks
wave_lines-requires-clause-ranks c = λ r there.
    subst (λ (p : Plan). HasRankOn p.placed c.args.wanted.daemons.now r) (sym c.self.view_is) (rank_on c.args.self.now c.args.wanted.daemons.now r (subst (Has r) c.requires.ranks there))
