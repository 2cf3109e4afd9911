-- Where a path ends: at the outermost frame that is cut at.
use Rattle.std.specs.Prelude.{ℕ, ◌+◌, Bool, not, List, take}
use Rattle.std.specs.List.{prefix_len}
use Rattle.frame_name.specs.Frames.{FrameView}
use Rattle.frame_name.specs.Words.{any_fits}
use Rattle.stack_path.specs.Beginnings.{Stack}

-- the frames up to the first one that is cut at, and it
abbrev pub until : (FrameView → Bool) → Stack → Stack
until is_cut s = take (prefix_len (λ f. not (is_cut f)) s + 1) s

-- whether one of the user's words fits a frame's name
abbrev pub is_cut_by : List (List ℕ) → FrameView → Bool
is_cut_by words f = any_fits words f.name
