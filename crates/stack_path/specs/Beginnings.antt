-- Where the path of a stack begins. A stack is a list of frames, outermost first.
use Rattle.std.specs.Prelude.{ℕ, ◌-◌, min, Bool, not, List, [], ◌∷◌, length, take, drop, reverse}
use Rattle.std.specs.List.{filter, prefix_len}
use Rattle.frame_name.specs.Frames.{FrameView}

abbrev pub Stack : Type 0
Stack = List FrameView

-- a stack from its outermost frame of a kind on; empty where none is of that kind
abbrev pub from_first : (FrameView → Bool) → Stack → Stack
from_first is_one s = drop (prefix_len (λ f. not (is_one f)) s) s

-- a stack, or another where it is empty
abbrev pub or_else : Stack → Stack → Stack
or_else [] other = other
or_else (f ∷ s) other = f ∷ s

-- how many frames of a stack there are up to the last one of its first four below which nothing has begun
abbrev pub start_len : Stack → ℕ
start_len s = length (take 4 s) - prefix_len (λ f. not f.is_start) (reverse (take 4 s))

-- a stack without them, but with its innermost frame
abbrev pub without_start : Stack → Stack
without_start s = drop (min (start_len s) (length s - 1)) s

-- what is shown of the first thread's stack: from the outermost `main` on, or else what is not below the beginning
abbrev pub begun_first : Stack → Stack
begun_first s = or_else (from_first (λ f. f.is_main) s) (without_start s)

-- what is shown of another thread's stack: from the program's own code on
abbrev pub begun_other : Stack → Stack
begun_other s = from_first (λ f. f.is_own) s

-- a stack without the frames of the C++ library's own source files, where it has others
abbrev pub without_plumbing : Stack → Stack
without_plumbing s = or_else (filter (λ f. not f.is_plumbing) s) s
