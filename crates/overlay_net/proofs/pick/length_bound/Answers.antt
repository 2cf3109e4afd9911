use Rattle.std.proofs.Common.{◌≤◌, List, length, sym, subst, arith}
use Rattle.overlay_setup.specs.Scripts.{Stream}
use Rattle.stat_plan.specs.Plans.{waves_of}
use Rattle.overlay_core.specs.Bound.{longest}
use Rattle.stat_plan.proofs.FewWaves.{waves_of_plan}
use Rattle.overlay_net.proofs.SmallCounts.{longest_within_limit}
use Rattle.overlay_net.proofs.pick.length_bound.Goals as goal

pub wave_count-requires : goal.wave_count-requires
wave_count-requires c =
    let few : length (waves_of c.streams-streams.result.now) ≤ 128 = subst (λ (xs : List Stream). length (waves_of xs) ≤ 128) (sym c.streams-streams.ensures) (waves_of_plan c.args.plan.now c.invariant.ensures) in
    omega (arith, few)

pub bound_of-requires-clause-waves : goal.bound_of-requires-clause-waves
bound_of-requires-clause-waves c =
    let few : length (waves_of c.streams-streams.result.now) ≤ 128 = subst (λ (xs : List Stream). length (waves_of xs) ≤ 128) (sym c.streams-streams.ensures) (waves_of_plan c.args.plan.now c.invariant.ensures) in
    omega (arith, few, c.wave_count.ensures)

pub bound_of-requires-clause-ticks : goal.bound_of-requires-clause-ticks
bound_of-requires-clause-ticks c =
    let few : longest c.streams-streams.result.now ≤ 1000 = subst (λ (xs : List Stream). longest xs ≤ 1000) (sym c.streams-streams.ensures) (longest_within_limit c.args.plan.now.streams c.invariant.ensures.script.streams) in
    omega (arith, few, c.longest.ensures)
