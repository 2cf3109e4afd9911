use Rattle.std.proofs.Common.{sym, subst, ◌∙◌}
use Rattle.rank_set.specs.Ranks.{IsSubset}
use Rattle.stat_plan.specs.OwnLines.{AreWaveLines}
use Rattle.stat_plan.specs.Plans.{stream_ranks}
use Rattle.stat_plan.specs.Shown.{wave_lines_view}
use Rattle.stat_plan.proofs.LookupLemmas.{daemon_lies}
use Rattle.merge_filter.proofs.Daemons.{daemon_is_node, stream_some}
use Rattle.merge_filter.proofs.WaveTrees.{covered, in_range, lie, merged, within}
use Rattle.merge_filter.proofs.Contribution.of_daemon.Goals as goal

pub times_of-times-requires : goal.times_of-times-requires
times_of-times-requires g c = stream_some c.args.plan.now c.args.s c.args.w c.requires.wave

pub grain_of-requires : goal.grain_of-requires
grain_of-requires g c = stream_some c.args.plan.now c.args.s c.args.w c.requires.wave

pub own_lines-requires : goal.own_lines-requires
own_lines-requires g c = daemon_is_node c.args.plan.now c.args.s c.args.d c.invariant.ensures c.requires.daemon

pub ranks-requires : goal.ranks-requires
ranks-requires g c = daemon_is_node c.args.plan.now c.args.s c.args.d c.invariant.ensures c.requires.daemon

pub own_tree-requires-clause-own : goal.own_tree-requires-clause-own
own_tree-requires-clause-own g c lifetimes outlives =
    lie c.args.plan.now c.args.s c.args.w c.times_of-times.result.samples c.times_of-times.result.wave c.grain_of.result c.paths_by-paths.result.now c.in_ok-own.own c.lines.result.now c.ranks.result.now
    (record {
      lines_are = c.lines.ensures;
      times = c.times_of-times.ensures.samples;
      wave = c.times_of-times.ensures.wave;
      sees = c.grain_of.ensures;
      by_grain = c.paths_by-paths.ensures;
      samples_are = subst (λ own. AreWaveLines c.times_of-times.result.samples c.times_of-times.result.wave own c.args.plan.now.lines (wave_lines_view c.in_ok-own.own)) (sym c.ranks.ensures) c.in_ok-own.ensures.samples;
      numbered = c.in_ok-own.ensures.numbered;
      lies = subst (λ own. IsSubset own (stream_ranks c.args.plan.now c.args.s)) (sym c.ranks.ensures) (daemon_lies c.args.plan.now c.args.s c.args.d c.requires.daemon);
    })

pub own_tree-requires-clause-numbered : goal.own_tree-requires-clause-numbered
own_tree-requires-clause-numbered g c lifetimes outlives =
    in_range c.args.plan.now c.args.s c.args.w c.times_of-times.result.samples c.times_of-times.result.wave c.grain_of.result c.paths_by-paths.result.now c.in_ok-own.own c.lines.result.now c.ranks.result.now
    (record {
      lines_are = c.lines.ensures;
      times = c.times_of-times.ensures.samples;
      wave = c.times_of-times.ensures.wave;
      sees = c.grain_of.ensures;
      by_grain = c.paths_by-paths.ensures;
      samples_are = subst (λ own. AreWaveLines c.times_of-times.result.samples c.times_of-times.result.wave own c.args.plan.now.lines (wave_lines_view c.in_ok-own.own)) (sym c.ranks.ensures) c.in_ok-own.ensures.samples;
      numbered = c.in_ok-own.ensures.numbered;
      lies = subst (λ own. IsSubset own (stream_ranks c.args.plan.now c.args.s)) (sym c.ranks.ensures) (daemon_lies c.args.plan.now c.args.s c.args.d c.requires.daemon);
    })

pub own_tree-requires-clause-within : goal.own_tree-requires-clause-within
own_tree-requires-clause-within g c lifetimes outlives =
    within c.args.plan.now c.args.s c.args.w c.times_of-times.result.samples c.times_of-times.result.wave c.grain_of.result c.paths_by-paths.result.now c.in_ok-own.own c.lines.result.now c.ranks.result.now
    (record {
      lines_are = c.lines.ensures;
      times = c.times_of-times.ensures.samples;
      wave = c.times_of-times.ensures.wave;
      sees = c.grain_of.ensures;
      by_grain = c.paths_by-paths.ensures;
      samples_are = subst (λ own. AreWaveLines c.times_of-times.result.samples c.times_of-times.result.wave own c.args.plan.now.lines (wave_lines_view c.in_ok-own.own)) (sym c.ranks.ensures) c.in_ok-own.ensures.samples;
      numbered = c.in_ok-own.ensures.numbered;
      lies = subst (λ own. IsSubset own (stream_ranks c.args.plan.now c.args.s)) (sym c.ranks.ensures) (daemon_lies c.args.plan.now c.args.s c.args.d c.requires.daemon);
    }) c.invariant.ensures c.requires.wave

pub returns-clause-coverage : goal.returns-clause-coverage
returns-clause-coverage g c =
    covered c.args.plan.now c.args.s c.args.w c.times_of-times.result.samples c.times_of-times.result.wave c.grain_of.result c.paths_by-paths.result.now c.in_ok-own.own c.lines.result.now c.ranks.result.now
    (record {
      lines_are = c.lines.ensures;
      times = c.times_of-times.ensures.samples;
      wave = c.times_of-times.ensures.wave;
      sees = c.grain_of.ensures;
      by_grain = c.paths_by-paths.ensures;
      samples_are = subst (λ own. AreWaveLines c.times_of-times.result.samples c.times_of-times.result.wave own c.args.plan.now.lines (wave_lines_view c.in_ok-own.own)) (sym c.ranks.ensures) c.in_ok-own.ensures.samples;
      numbered = c.in_ok-own.ensures.numbered;
      lies = subst (λ own. IsSubset own (stream_ranks c.args.plan.now c.args.s)) (sym c.ranks.ensures) (daemon_lies c.args.plan.now c.args.s c.args.d c.requires.daemon);
    }) c.of_tree.result (g.T.PrefixTree.tree c.in_ok-tree.tree) c.of_tree.ensures c.in_ok-tree.ensures ∙ c.ranks.ensures

pub returns-clause-partial_merge : goal.returns-clause-partial_merge
returns-clause-partial_merge g c =
    merged c.args.plan.now c.args.s c.args.w c.times_of-times.result.samples c.times_of-times.result.wave c.grain_of.result c.paths_by-paths.result.now c.in_ok-own.own c.lines.result.now c.ranks.result.now
    (record {
      lines_are = c.lines.ensures;
      times = c.times_of-times.ensures.samples;
      wave = c.times_of-times.ensures.wave;
      sees = c.grain_of.ensures;
      by_grain = c.paths_by-paths.ensures;
      samples_are = subst (λ own. AreWaveLines c.times_of-times.result.samples c.times_of-times.result.wave own c.args.plan.now.lines (wave_lines_view c.in_ok-own.own)) (sym c.ranks.ensures) c.in_ok-own.ensures.samples;
      numbered = c.in_ok-own.ensures.numbered;
      lies = subst (λ own. IsSubset own (stream_ranks c.args.plan.now c.args.s)) (sym c.ranks.ensures) (daemon_lies c.args.plan.now c.args.s c.args.d c.requires.daemon);
    }) c.of_tree.result (g.T.PrefixTree.tree c.in_ok-tree.tree) c.of_tree.ensures c.in_ok-tree.ensures c.requires.wave
