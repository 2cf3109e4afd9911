-- The frame that a call path shows of a call.
use Rattle.std.specs.Prelude.{ℕ, Bool, List, ◌++◌}

pub record FrameView : Type 0 where
  -- the function's name by the rules, which says whether two calls are of one function
  pub name : List ℕ
  -- what is shown behind the name: the source file and the line, or nothing
  pub line : List ℕ
  -- whether the function (its symbol, without a library's name behind it) is `main`
  pub is_main : Bool
  -- whether it is one of the frames below which a program or a thread has not begun (`is_start` of its symbol)
  pub is_start : Bool
  -- whether it is the program's own code
  pub is_own : Bool
  -- whether its library is one of those in which a rank waits for others
  pub waits : Bool
  -- whether that library is MPI's
  pub is_mpi : Bool
  -- whether its name is that of a function of the MPI standard
  pub is_standard : Bool
  -- whether its source file is one of the C++ library's
  pub is_plumbing : Bool
  -- whether its file was removed or replaced while it ran
  pub is_deleted : Bool

-- a frame's text in a path
abbrev pub frame_text : FrameView → List ℕ
frame_text f = f.name ++ f.line
