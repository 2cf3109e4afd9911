-- What the user chooses of paths.
use Rattle.std.specs.Prelude.{ℕ, List}
use Rattle.stack_path.specs.Recursion.{RecursionView}

-- where paths end
pub data EndView : Type 0 where
  -- below the calls in which a rank waits, but for the program's own code; and at frames that a word fits
  Calls : List (List ℕ) → EndView
  -- nowhere: all frames are shown
  Whole : EndView

pub record ChoiceView : Type 0 where
  pub end : EndView
  pub recursion : RecursionView
