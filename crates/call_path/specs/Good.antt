-- Which frames are good, and how many of them a path may have.
use Rattle.std.specs.Prelude.{ℕ, Bool, ◌&&◌, ◌≤◌, ◌<◌, not, nat_eq, nat_le, nat_lt, List, length, All, IsTrue}
use Rattle.std.specs.List.{list_all}
use Rattle.call_path.specs.Path.{Path}

-- no control byte, and no `;`
abbrev pub is_plain : ℕ → Bool
is_plain b = nat_le 32 b && (not (nat_eq b 127) && not (nat_eq b 59))

-- 1 to 1,023 plain bytes
abbrev pub is_good_frame : List ℕ → Bool
is_good_frame f = nat_lt 0 (length f) && (nat_le (length f) 1023 && list_all is_plain f)

-- at most 128 good frames
pub record AreGoodFrames (p : Path) : Type 0 where
  pub within_limit : length p ≤ 128
  pub good : All (λ f. IsTrue (is_good_frame f)) p

-- 1 to 128 good frames
pub record IsGoodPath (p : Path) : Type 0 where
  pub some : 0 < length p
  pub good : AreGoodFrames p
