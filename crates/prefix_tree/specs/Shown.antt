-- What a reader sees of a row.
use Rattle.std.specs.Prelude.{◌≡◌, ◌<◌, ◌≤◌, length, IsTrue}
use Rattle.prefix_tree.specs.declared.Row.{Row}
use Rattle.call_path.specs.Path.{Path}
use Rattle.call_path.specs.Good.{is_good_frame}
use Rattle.prefix_tree.specs.Tree.{Marks, frame_of}

-- a row shows its depth, its last frame, its label and its ends
pub record Shows (row : Row) (e : Path × Marks) : Type 0 where
  pub depth : row.depth ≡ length e.0
  pub frame : row.frame.now ≡ frame_of e.0
  pub label : row.label.now ≡ e.1.0
  pub ends : row.ends.now ≡ e.1.1

-- a row below the root ends with a good frame, not too deep
pub record IsGoodRow (row : Row) : Type 0 where
  pub some : 0 < row.depth
  pub within_limit : row.depth ≤ 128
  pub frame : IsTrue (is_good_frame row.frame.now)
