-- How a daemon's own tree is made: line by line, where neighbours of one path are added together.
use Rattle.std.specs.Prelude.{◌≡◌, ℕ, ◌<◌, ◌≤◌, ◌&&◌, ◌||◌, List, [], ◌++◌, length, slice_index_or}
use Rattle.rank_set.specs.Ranks.{Ranks, has, Has, in_order, IsSubset}
use Rattle.call_path.specs.Path.{Path, is_path}
use Rattle.call_path.specs.Pairs.{Pairs, pairs_at, is_pair}
use Rattle.prefix_tree.specs.Tree.{Tree, tree_of, count_below}
use Rattle.stat_plan.specs.Samples.{SampleLine, samples_of}
use Rattle.merge_filter.specs.declared.own_tree.Pending.{Pending}

-- some pairs, and those that are still to be added
abbrev pub with_pending : Pairs → List Path → Pending → Pairs
with_pending P paths x = P ++ pairs_at (in_order x.ranks) (slice_index_or paths x.path [])

-- the tree has room for what is still to be added
pub record HasRoomFor (t : Tree) (paths : List Path) (x : Pending) : Type 0 where
  pub own : Ranks
  pub pairs : Pairs
  pub is : t ≡ tree_of pairs own
  pub lies : IsSubset x.ranks own
  pub within : count_below (tree_of (with_pending pairs paths x) own) ≤ 2048
  pub path : (r : ℕ) → Has r x.ranks → x.path < length paths

-- the tree of P over own, with old still to be added, has become u with new: there are the line's pairs more
pub record TakesLine (P : Pairs) (own : Ranks) (paths : List Path) (line : SampleLine) (at : ℕ) (old new : Pending) (u : Tree) : Type 0 where
  pub pairs : Pairs
  pub is : u ≡ tree_of pairs own
  pub number : new.path ≡ at
  pub each : (r : ℕ) (q : Path) → is_pair (with_pending pairs paths new) r q ≡ (is_pair (with_pending P paths old) r q || (has line.ranks r && is_path q line.path))

-- the tree t over own, with x still to be added, says what some lines say
pub record AreGathered (lines : List SampleLine) (own : Ranks) (paths : List Path) (x : Pending) (t : Tree) : Type 0 where
  pub pairs : Pairs
  pub is : t ≡ tree_of pairs own
  pub path : (r : ℕ) → Has r x.ranks → x.path < length paths
  pub each : (r : ℕ) (q : Path) → is_pair (with_pending pairs paths x) r q ≡ is_pair (samples_of lines) r q
