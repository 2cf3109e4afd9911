-- A call of a stack, as a debugger prints it.
use Rattle.std.specs.Prelude.{ℕ, Bool, List}

-- what isn't known is empty, or 0
pub record CallView : Type 0 where
  -- the function
  pub name : List ℕ
  -- the executable or the shared library that it is in
  pub binary : List ℕ
  -- whether that file was removed or replaced while it ran
  pub is_deleted : Bool
  -- where the call stands in that file: hexadecimal digits
  pub offset : List ℕ
  -- the source file, and the line there, from 1
  pub file : List ℕ
  pub line : ℕ
