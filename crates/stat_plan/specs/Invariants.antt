-- The invariant of a plan, and each of its parts.
use Rattle.std.specs.Prelude.{◌≡◌, ◌≢◌, ◌≤◌, ◌<◌, ℕ, true, false, List, length, slice_index_or}
use Rattle.std.specs.List.{AllByRecursion}
use Rattle.rank_set.specs.Ranks.{Ranks, none, Has, IsSubset}
use Rattle.call_path.specs.Good.{IsGoodPath}
use Rattle.overlay_setup.specs.NodeSets.{In}
use Rattle.stat_plan.specs.Samples.{SampleLine, all_ranks, IsWithinLimit}
use Rattle.overlay_setup.specs.Topologies.{Nodes, IsTopology}
use Rattle.overlay_setup.specs.Trees.{is_daemon}
use Rattle.stat_plan.specs.Plans.{Plan, Sampled, nodes_of, sampled_of, scripted_of, waves_of, samples as wave_samples}
use Rattle.overlay_setup.specs.Scripts.{IsScript, ScriptFits}
use Rattle.stat_plan.specs.declared.samples.TheConstants.{LINE_LIMIT}

-- a time of 0 to 65,535, some ranks that are placed, and a path of good frames
pub record IsSampleLine (placed : List Ranks) (line : SampleLine) : Type 0 where
  pub time : line.time ≤ 65535
  pub some : line.ranks ≢ none
  pub placed_ranks : IsSubset line.ranks (all_ranks placed)
  pub path : IsGoodPath line.path

-- no rank is placed on two nodes
abbrev pub ArePlacedOnce : List Ranks → Type 0
ArePlacedOnce placed = (m n r : ℕ) → Has r (slice_index_or placed m none) → Has r (slice_index_or placed n none) → m ≡ n

-- ranks that are placed once, and samples of them, in at most 262,144 lines
pub record AreSamples (s : Sampled) : Type 0 where
  pub once : ArePlacedOnce s.placed
  pub within_limit : length s.lines ≤ LINE_LIMIT
  pub lines : AllByRecursion (IsSampleLine s.placed) s.lines

-- each node has its ranks: some where it is a daemon, and none else
pub record SamplesFit (t : Nodes) (s : Sampled) : Type 0 where
  pub paired : length s.placed ≡ length t.parents
  pub on_daemons : (n : ℕ) → n < length t.parents → is_daemon t.parents n ≡ true → slice_index_or s.placed n none ≢ none
  pub nowhere_else : (n : ℕ) → n < length t.parents → is_daemon t.parents n ≡ false → slice_index_or s.placed n none ≡ none

-- each part is what it has to be, and the parts fit each other
pub record IsJob (p : Plan) : Type 0 where
  pub topology : IsTopology (nodes_of p)
  pub samples : AreSamples (sampled_of p)
  pub script : IsScript (scripted_of p)
  pub samples_fit : SamplesFit (nodes_of p) (sampled_of p)
  pub script_fits : ScriptFits (nodes_of p) (scripted_of p)

-- each part is what it has to be, the parts fit each other, and no wave has more than 2,048 distinct prefixes
pub record IsPlan (p : Plan) : Type 0 where
  pub topology : IsTopology (nodes_of p)
  pub samples : AreSamples (sampled_of p)
  pub script : IsScript (scripted_of p)
  pub samples_fit : SamplesFit (nodes_of p) (sampled_of p)
  pub script_fits : ScriptFits (nodes_of p) (scripted_of p)
  pub within : (s w : ℕ) → In (s, w) (waves_of p.streams) → IsWithinLimit (wave_samples p s w)
