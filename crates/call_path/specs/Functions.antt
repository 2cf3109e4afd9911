-- Frames with a line, and the function of a frame.
use Rattle.std.specs.Prelude.{◌≡◌, ℕ, Bool, ◌&&◌, ◌++◌, ◌<◌, nat_eq, nat_le, nat_lt, cond, List, [], ◌∷◌, length, IsTrue}
use Rattle.std.specs.List.{list_all}
use Rattle.std.specs.Char.{is_ascii_digit}

-- the number of a line: 1 to 9 decimal digits
abbrev pub is_line : List ℕ → Bool
is_line digits = nat_lt 0 (length digits) && (nat_le (length digits) 9 && list_all is_ascii_digit digits)

-- a frame that names a function and, behind an `@`, a line in it
pub record HasLine (frame function line : List ℕ) : Type 0 where
  pub parts : frame ≡ function ++ 64 ∷ line
  pub named : 0 < length function
  pub numbered : IsTrue (is_line line)

-- a text up to the `@` of a line at its end
abbrev pub without_line : List ℕ → List ℕ
without_line [] = []
without_line (b ∷ text) = cond (nat_eq b 64 && is_line text) [] (b ∷ without_line text)

-- the function of a frame: the frame without its line; its first byte belongs to the function
abbrev pub func : List ℕ → List ℕ
func [] = []
func (b ∷ text) = b ∷ without_line text
