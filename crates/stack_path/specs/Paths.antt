-- The path of a stack.
use Rattle.std.specs.Prelude.{ℕ, ◌+◌, Bool, nat_lt, List, [], ◌∷◌, length, map, codes, Option, None, Some}
use Rattle.call_path.specs.Path.{Path}
use Rattle.frame_name.specs.Frames.{frame_text}
use Rattle.stack_path.specs.Beginnings.{Stack, begun_first, begun_other}
use Rattle.stack_path.specs.Shown.{shown, is_static}
use Rattle.stack_path.specs.Recursion.{once}
use Rattle.stack_path.specs.Cuts.{until, is_cut_by}
use Rattle.stack_path.specs.Ends.{both_ends}
use Rattle.stack_path.specs.Choices.{EndView, Calls, Whole, ChoiceView}

-- the calls of a stack that has begun which may be shown
abbrev pub visible : EndView → Stack → Stack
visible (Calls words) s = shown (is_static s) s
visible Whole s = s

-- the frames up to the one where the path ends
abbrev pub ended : EndView → Stack → Stack
ended (Calls words) s = until (is_cut_by words) s
ended Whole s = s

-- the frames that are shown of a stack that has begun
abbrev pub kept : ChoiceView → Stack → Stack
kept choice s = ended choice.end (once choice.recursion (visible choice.end s))

-- where no stack was printed
abbrev pub no_stack : List ℕ
no_stack = codes "(no stack)"

-- a path, which says so where it has no frame
abbrev pub or_no_stack : Path → Path
or_no_stack [] = no_stack ∷ []
or_no_stack (f ∷ p) = f ∷ p

-- a path, and what it leaves out
pub record PathView : Type 0 where
  pub path : Path
  -- whether it has over 128 frames, of which both ends are shown
  pub is_long : Bool
  -- whether over 1,000 calls are left out since they come again
  pub is_deep : Bool

-- the path of a stack of which so many calls may be shown, and these are
abbrev pub path_view : ℕ → Stack → Stack → PathView
path_view calls shown s = record {
  path = or_no_stack (both_ends (map frame_text s));
  is_long = nat_lt 128 (length s);
  is_deep = nat_lt (length shown + 1000) calls;
}

-- the path of a stack that has begun
abbrev pub path_of_begun : ChoiceView → Stack → PathView
path_of_begun choice s =
    path_view (length (visible choice.end s)) (once choice.recursion (visible choice.end s)) (kept choice s)

-- the path of the first thread's stack
unfoldable pub first_path : ChoiceView → Stack → PathView
first_path choice s = path_of_begun choice (begun_first s)

-- the path of another thread's stack, which has one where it runs the program's own code
abbrev pub path_if_begun : ChoiceView → Stack → Option PathView
path_if_begun choice [] = None
path_if_begun choice (f ∷ s) = Some (path_of_begun choice (f ∷ s))

unfoldable pub other_path : ChoiceView → Stack → Option PathView
other_path choice s = path_if_begun choice (begun_other s)
