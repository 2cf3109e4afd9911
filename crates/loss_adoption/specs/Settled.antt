-- When nothing more comes of a daemon at a node.
use Rattle.std.specs.Prelude.{ℕ, Bool, ◌||◌, not, List}
use Rattle.rank_set.specs.Ranks.{Ranks, is_subset}
use Rattle.overlay_setup.specs.NodeSets.{member}
use Rattle.stat_plan.specs.Plans.{Plan, is_within, ranks}

-- the daemon d isn't n or under n, it has its ranks in covered, or it is known to be lost
abbrev pub is_settled : Plan → ℕ → List ℕ → Ranks → ℕ → Bool
is_settled p n lost covered d = not (is_within p d n) || is_subset (ranks p d) covered || member d lost
