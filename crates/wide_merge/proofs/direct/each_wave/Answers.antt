use Rattle.std.specs.Prelude.{slice_index_or}
use Rattle.stat_plan.proofs.InLists.{in_at}
use Rattle.wide_merge.proofs.Waves.{one_release_more}
use Rattle.wide_merge.proofs.direct.each_wave.Goals as goal

pub one_wave-requires-clause-wave : goal.one_wave-requires-clause-wave
one_wave-requires-clause-wave g c κs within = c.requires.has (slice_index_or c.args.waves.now c.loop-wave.wave-index (0, 0)) (in_at c.args.waves.now c.loop-wave.wave-index (0, 0) c.loop-wave-test.true)

pub loop-wave-preserved : goal.loop-wave-preserved
loop-wave-preserved g c =
    one_release_more g.T.PrefixTree.tree c.args.job.now.plan.now c.args.waves.now c.loop-wave.wave-index (0, 0) c.loop-wave.releases.items c.push.new.self.items c.in_ok-one_wave.field-0
    c.loop-wave-test.true c.in_ok-one_wave.ensures c.in_ok-push.ensures.items c.loop-wave.invariant
