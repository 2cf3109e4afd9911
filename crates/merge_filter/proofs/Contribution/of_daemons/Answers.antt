use Rattle.std.proofs.Common.{sym, subst}
use Rattle.merge_filter.specs.Contributions.{HasWave}
use Rattle.merge_filter.proofs.Daemons.{daemon_is_node, stream_some}
use Rattle.merge_filter.proofs.Contribution.of_daemons.Goals as goal

pub ranks_of-requires : goal.ranks_of-requires
ranks_of-requires g c = λ d there. daemon_is_node c.args.plan.now c.args.s d c.invariant.ensures (c.requires.daemons d there)

pub times_of-requires : goal.times_of-requires
times_of-requires g c = stream_some c.args.plan.now c.args.s c.args.w c.requires.wave

pub of_wanted-requires-clause-wave : goal.of_wanted-requires-clause-wave
of_wanted-requires-clause-wave g c lifetimes outlives = subst (HasWave c.args.plan.now c.args.s) (sym c.times_of.ensures.wave) c.requires.wave
