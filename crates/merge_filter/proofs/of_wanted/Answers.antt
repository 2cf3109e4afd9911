use Rattle.std.proofs.Common.{◌<◌, refl, sym, subst}
use Rattle.merge_filter.proofs.Daemons.{daemon_is_node, daemons_lie, samples_some, stream_some}
use Rattle.merge_filter.proofs.WaveTrees.{covered, in_range, lie, merged, within}
use Rattle.merge_filter.proofs.of_wanted.Goals as goal

pub grain_of-requires : goal.grain_of-requires
grain_of-requires g c = stream_some c.args.plan.now c.args.s c.args.wanted.times.wave c.requires.wave

pub wave_lines-requires-clause-times : goal.wave_lines-requires-clause-times
wave_lines-requires-clause-times g c = subst (λ k. 0 < k) (sym c.requires.times) (samples_some c.args.plan.now c.args.s c.args.wanted.times.wave c.invariant.ensures c.requires.wave)

pub wave_lines-requires-clause-daemons : goal.wave_lines-requires-clause-daemons
wave_lines-requires-clause-daemons g c = λ d there. daemon_is_node c.args.plan.now c.args.s d c.invariant.ensures (c.requires.daemons d there)

pub own_tree-requires-clause-own : goal.own_tree-requires-clause-own
own_tree-requires-clause-own g c lifetimes outlives =
    lie c.args.plan.now c.args.s c.args.wanted.times.wave c.args.wanted.times.samples c.args.wanted.times.wave c.grain_of.result c.paths_by-paths.result.now c.in_ok-seen.seen c.lines.result.now c.args.wanted.ranks.now
    (record {
      lines_are = c.lines.ensures;
      times = c.requires.times;
      wave = refl;
      sees = c.grain_of.ensures;
      by_grain = c.paths_by-paths.ensures;
      samples_are = c.in_ok-seen.ensures.samples;
      numbered = c.in_ok-seen.ensures.numbered;
      lies = daemons_lie c.args.plan.now c.args.s c.args.wanted.daemons.now c.args.wanted.ranks.now c.requires.daemons c.requires.ranks;
    })

pub own_tree-requires-clause-numbered : goal.own_tree-requires-clause-numbered
own_tree-requires-clause-numbered g c lifetimes outlives =
    in_range c.args.plan.now c.args.s c.args.wanted.times.wave c.args.wanted.times.samples c.args.wanted.times.wave c.grain_of.result c.paths_by-paths.result.now c.in_ok-seen.seen c.lines.result.now c.args.wanted.ranks.now
    (record {
      lines_are = c.lines.ensures;
      times = c.requires.times;
      wave = refl;
      sees = c.grain_of.ensures;
      by_grain = c.paths_by-paths.ensures;
      samples_are = c.in_ok-seen.ensures.samples;
      numbered = c.in_ok-seen.ensures.numbered;
      lies = daemons_lie c.args.plan.now c.args.s c.args.wanted.daemons.now c.args.wanted.ranks.now c.requires.daemons c.requires.ranks;
    })

pub own_tree-requires-clause-within : goal.own_tree-requires-clause-within
own_tree-requires-clause-within g c lifetimes outlives =
    within c.args.plan.now c.args.s c.args.wanted.times.wave c.args.wanted.times.samples c.args.wanted.times.wave c.grain_of.result c.paths_by-paths.result.now c.in_ok-seen.seen c.lines.result.now c.args.wanted.ranks.now
    (record {
      lines_are = c.lines.ensures;
      times = c.requires.times;
      wave = refl;
      sees = c.grain_of.ensures;
      by_grain = c.paths_by-paths.ensures;
      samples_are = c.in_ok-seen.ensures.samples;
      numbered = c.in_ok-seen.ensures.numbered;
      lies = daemons_lie c.args.plan.now c.args.s c.args.wanted.daemons.now c.args.wanted.ranks.now c.requires.daemons c.requires.ranks;
    }) c.invariant.ensures c.requires.wave

pub returns-clause-coverage : goal.returns-clause-coverage
returns-clause-coverage g c =
    covered c.args.plan.now c.args.s c.args.wanted.times.wave c.args.wanted.times.samples c.args.wanted.times.wave c.grain_of.result c.paths_by-paths.result.now c.in_ok-seen.seen c.lines.result.now c.args.wanted.ranks.now
    (record {
      lines_are = c.lines.ensures;
      times = c.requires.times;
      wave = refl;
      sees = c.grain_of.ensures;
      by_grain = c.paths_by-paths.ensures;
      samples_are = c.in_ok-seen.ensures.samples;
      numbered = c.in_ok-seen.ensures.numbered;
      lies = daemons_lie c.args.plan.now c.args.s c.args.wanted.daemons.now c.args.wanted.ranks.now c.requires.daemons c.requires.ranks;
    }) c.of_tree.result (g.T.PrefixTree.tree c.in_ok-tree.tree) c.of_tree.ensures c.in_ok-tree.ensures

pub returns-clause-partial_merge : goal.returns-clause-partial_merge
returns-clause-partial_merge g c =
    merged c.args.plan.now c.args.s c.args.wanted.times.wave c.args.wanted.times.samples c.args.wanted.times.wave c.grain_of.result c.paths_by-paths.result.now c.in_ok-seen.seen c.lines.result.now c.args.wanted.ranks.now
    (record {
      lines_are = c.lines.ensures;
      times = c.requires.times;
      wave = refl;
      sees = c.grain_of.ensures;
      by_grain = c.paths_by-paths.ensures;
      samples_are = c.in_ok-seen.ensures.samples;
      numbered = c.in_ok-seen.ensures.numbered;
      lies = daemons_lie c.args.plan.now c.args.s c.args.wanted.daemons.now c.args.wanted.ranks.now c.requires.daemons c.requires.ranks;
    }) c.of_tree.result (g.T.PrefixTree.tree c.in_ok-tree.tree) c.of_tree.ensures c.in_ok-tree.ensures c.requires.wave
