-- Of more frames than a path may have both ends are kept, with a frame between that says so; a limit of the user's keeps
-- the outer frames, and a remark.
use Rattle.std.specs.Prelude.{ℕ, ◌-◌, Bool, nat_le, cond, List, [], ◌∷◌, ◌++◌, length, take, drop, codes, slice_index_or}
use Rattle.call_path.specs.Path.{Path}
use Rattle.frame_name.specs.Plain.{is_remark}

-- the frame that stands for those that are left out
abbrev pub left_out : List ℕ
left_out = codes "(frames left out)"

-- how many frames are kept at either end
abbrev pub outer_len : ℕ
outer_len = 63

abbrev pub inner_len : ℕ
inner_len = 64

-- at most 128 frames
unfoldable pub both_ends : Path → Path
both_ends p = cond (nat_le (length p) 128) p (take outer_len p ++ left_out ∷ drop (length p - inner_len) p)

-- a path with a remark behind it
abbrev pub with_remark : Path → List ℕ → Path
with_remark p remark = both_ends (p ++ remark ∷ [])

-- whether a path ends with a remark
abbrev pub ends_with_remark : Path → Bool
ends_with_remark p = is_remark (slice_index_or p (length p - 1) [])

-- at most so many frames: the outer ones, and a remark at the end takes the place of the last of these
unfoldable pub cut_to : ℕ → Path → Path
cut_to depth p = cond (nat_le (length p) depth) p
    (cond (ends_with_remark p) (take (depth - 1) p ++ drop (length p - 1) p) (take depth p))
