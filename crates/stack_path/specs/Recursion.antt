-- Recursion: of calls that come again, the last ones are shown. A stack has its outermost frame first.
use Rattle.std.specs.Prelude.{ℕ, zero, suc, ◌+◌, ◌-◌, Bool, ◌&&◌, not, nat_le, cond, List, [], ◌∷◌, ◌++◌, length, take, drop, true, false}
use Rattle.std.specs.List.{prefix_len}
use Rattle.std.specs.Str.{bytes_eq}
use Rattle.frame_name.specs.Frames.{FrameView}
use Rattle.stack_path.specs.Beginnings.{Stack}

-- how recursion is shown
pub data RecursionView : Type 0 where
  -- a cycle of calls that comes twice in a row is shown once
  Cycles : RecursionView
  -- a call of a function that is shown already takes the path back to it
  Loops : RecursionView
  -- each call is shown
  Each : RecursionView

-- whether two stacks are calls of the same functions
abbrev pub are_same : Stack → Stack → Bool
are_same [] [] = true
are_same [] (g ∷ t) = false
are_same (f ∷ s) [] = false
are_same (f ∷ s) (g ∷ t) = bytes_eq f.name g.name && are_same s t

-- the last n frames, and the n frames before them
abbrev pub last_frames : ℕ → Stack → Stack
last_frames n s = drop (length s - n) s

abbrev pub frames_before : ℕ → Stack → Stack
frames_before n s = take n (drop (length s - (n + n)) s)

-- whether a stack ends with the same n calls twice
abbrev pub ends_twice : ℕ → Stack → Bool
ends_twice n s = nat_le (n + n) (length s) && are_same (frames_before n s) (last_frames n s)

-- the length of the shortest cycle that a stack ends with twice, of the lengths from n on, `fuel` of them; or 0
unfoldable pub cycle_from : ℕ → ℕ → Stack → ℕ
cycle_from zero n s = 0
cycle_from (suc fuel) n s = cond (ends_twice n s) n (cycle_from fuel (suc n) s)

-- the longest cycle that is seen as recursion
abbrev pub longest_cycle : ℕ
longest_cycle = 32

unfoldable pub cycle_len : Stack → ℕ
cycle_len s = cycle_from longest_cycle 1 s

-- a stack without the n frames before its last n
abbrev pub without_before : ℕ → Stack → Stack
without_before n s = take (length s - (n + n)) s ++ drop (length s - n) s

-- a stack without the first of two cycles that it ends with
abbrev pub cycle_once : Stack → Stack
cycle_once s = without_before (cycle_len s) s

-- how many frames a stack has before the first call of a function
abbrev pub len_before : List ℕ → Stack → ℕ
len_before name s = prefix_len (λ f. not (bytes_eq f.name name)) s

-- what is shown of the calls so far, with one call more
abbrev pub with_call : RecursionView → Stack → FrameView → Stack
with_call Cycles s f = cycle_once (s ++ f ∷ [])
with_call Loops s f = take (len_before f.name s) s ++ f ∷ []
with_call Each s f = s ++ f ∷ []

-- the same with more calls
abbrev pub with_calls : RecursionView → Stack → Stack → Stack
with_calls how s [] = s
with_calls how s (f ∷ calls) = with_calls how (with_call how s f) calls

-- what is shown of a stack's calls
abbrev pub once : RecursionView → Stack → Stack
once how calls = with_calls how [] calls
