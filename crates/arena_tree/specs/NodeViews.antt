-- What contracts see of a node.
use Rattle.std.specs.Prelude.{ℕ, drop}
use Rattle.rank_set.specs.Ranks.{Ranks}
use Rattle.call_path.specs.Path.{Path}
use Rattle.prefix_tree.specs.Tree.{Marks}

-- the frames of its rows, the marks of the last, and the places of its first child and its next sibling
pub record NodeView : Type 0 where
  pub frames : Path
  pub label : Ranks
  pub ends : Ranks
  pub first : ℕ
  pub next : ℕ

-- a node by its parts
abbrev pub view_of : Path → Marks → ℕ → ℕ → NodeView
view_of fs m first next = record { frames = fs; label = m.0; ends = m.1; first = first; next = next }

-- what a node has behind its first frames, with other links
abbrev pub view_behind : ℕ → ℕ → ℕ → NodeView → NodeView
view_behind skip first next c = view_of (drop skip c.frames) (c.label, c.ends) first next
