use Rattle.std.proofs.Common.{arith, sym, subst}
use Rattle.merge_filter.specs.Contributions.{HasWave}
use Rattle.node_tests.proofs.wide_merge_tests.assert_waves.Goals as goal

pub assert_ways-requires-after_bounds : goal.assert_ways-requires-after_bounds
assert_ways-requires-after_bounds g c κs within =
    subst (λ s. HasWave c.args.plan.now s c.loop-wave.wave) (sym c.number.ensures) (c.requires c.loop-wave.wave (omega (arith, c.loop-wave-test.true, c.waves-wave-end.ensures)))
