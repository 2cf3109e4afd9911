-- The tree of the samples of a wave that a plan gives.
use Rattle.std.proofs.Common.{◌≡◌, ◌≤◌, ◌<◌, ℕ, List, length, map, sym, ap, subst, ◌∙◌, arith}
use Rattle.std.specs.List.{AllByRecursion}
use Rattle.std.proofs.lemmas.List.{length-map}
use Rattle.rank_set.specs.Ranks.{Ranks, IsSubset}
use Rattle.call_path.specs.Path.{Path}
use Rattle.prefix_tree.specs.Tree.{Tree, count_below, tree_of}
use Rattle.overlay_setup.specs.declared.script.Grain.{Grain}
use Rattle.stat_plan.specs.Invariants.{IsPlan}
use Rattle.stat_plan.specs.OwnLines.{AreWaveLines}
use Rattle.stat_plan.specs.Plans.{Plan, grain, sample_count, samples, stream_ranks}
use Rattle.stat_plan.specs.Samples.{path_by, samples_of, wave_lines}
use Rattle.stat_plan.specs.Shown.{AreNumbered, held_lines, wave_lines_view}
use Rattle.stat_plan.specs.StackLines.{PathIndicesInRange, lines_of}
use Rattle.stat_plan.specs.declared.samples.StackLine.{StackLine}
use Rattle.stat_plan.specs.declared.samples.WaveLines.{WaveLines}
use Rattle.merge_filter.specs.Contributions.{Contrib, HasWave, IsPartialMerge, contrib, coverage_of}
use Rattle.merge_filter.proofs.Prefixes.{rows_within}
use Rattle.merge_filter.proofs.Standing.{covers, stands_from}
use Rattle.merge_filter.proofs.WaveSamples.{wave_lines_lie, wave_tree_is}

-- the wave's samples of the ranks `own`: their lines, as they are lent, with the paths as the stream sees them
pub record AreLent (p : Plan) (s w k j : ℕ) (g : Grain) (by : List Path) (all : WaveLines) (lines : List StackLine) (own : Ranks) : Type 0 where
  pub lines_are : lines ≡ held_lines all.lines
  pub times : k ≡ sample_count p s
  pub wave : j ≡ w
  pub sees : g ≡ grain p s
  pub by_grain : by ≡ map (path_by g) all.paths.now
  pub samples_are : AreWaveLines k j own p.lines (wave_lines_view all)
  pub numbered : AreNumbered all
  pub lies : IsSubset own (stream_ranks p s)

module _ (p : Plan) (s w k j : ℕ) (g : Grain) (by : List Path) (all : WaveLines) (lines : List StackLine) (own : Ranks) (are : AreLent p s w k j g by all lines own) where
  shown : AreWaveLines k j own p.lines (lines_of all.paths.now lines)
  shown = subst (λ ls. AreWaveLines k j own p.lines (lines_of all.paths.now ls)) (sym are.lines_are) are.samples_are

  shown_in_range : PathIndicesInRange all.paths.now lines
  shown_in_range = subst (PathIndicesInRange all.paths.now) (sym are.lines_are) are.numbered.in_range

  -- they list these ranks alone
  pub lie : AllByRecursion (λ line. IsSubset line.ranks own) lines
  lie = wave_lines_lie k j own p.lines all.paths.now lines shown

  pub in_range : PathIndicesInRange by lines
  in_range = subst (λ n. AllByRecursion (λ (line : StackLine). line.path < n) lines) (sym (ap length are.by_grain ∙ length-map all.paths.now (path_by g))) shown_in_range

  -- their tree is that of the wave's samples
  tree_is : tree_of (samples_of (wave_lines k j (lines_of by lines))) own ≡ tree_of (samples p s w) own
  tree_is =
      ap (λ v. tree_of (samples_of (wave_lines k v (lines_of by lines))) own) are.wave
      ∙ wave_tree_is p s w k g all.paths.now by lines own are.lies are.times are.sees (subst (λ v. AreWaveLines k v own p.lines (lines_of all.paths.now lines)) are.wave shown) shown_in_range are.by_grain

  pub within : IsPlan p → HasWave p s w → count_below (tree_of (samples_of (wave_lines k j (lines_of by lines))) own) ≤ 2048
  within plan wave =
      let rows = rows_within (samples p s w) own in
      let few = plan.within s w wave in
      let same = ap count_below tree_is in
      omega (arith, rows, few, same)

  -- what is made of their tree is a partial merge, and covers these ranks
  pub merged : (c : Contrib) (t : Tree) → c ≡ contrib s w t → t ≡ tree_of (samples_of (wave_lines k j (lines_of by lines))) own → HasWave p s w → IsPartialMerge p c
  merged c t is tree wave = subst (IsPartialMerge p) (sym is) (stands_from p s w own t (tree ∙ tree_is) are.lies wave)

  pub covered : (c : Contrib) (t : Tree) → c ≡ contrib s w t → t ≡ tree_of (samples_of (wave_lines k j (lines_of by lines))) own → coverage_of c ≡ own
  covered c t is tree = ap coverage_of is ∙ covers t (samples_of (wave_lines k j (lines_of by lines))) own tree
