use Rattle.std.proofs.Common.{◌≡◌, ◌++◌, drop, map}
use Rattle.wide_merge.specs.Waves.{direct_release}
use Rattle.overlay_core.specs.TreeReleases.{releases_view}
use Rattle.wide_merge.proofs.direct.each_wave.Given as goal

abbrev pub invariant-loop-wave : goal.invariant-loop-wave
invariant-loop-wave g l =
    releases_view g.T.PrefixTree.tree l.releases.items ++ map (direct_release l.job.plan.now) (drop l.wave-index l.waves) ≡ map (direct_release l.job.plan.now) l.waves
