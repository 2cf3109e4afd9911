-- How a frame is held: as one text, that begins with the name.
use Rattle.std.specs.Prelude.{ℕ, List, IsTrue}
use Rattle.std.specs.Str.{IsCharBoundary}
use Rattle.call_path.specs.Good.{is_good_frame}

-- a good frame's text, with a character's beginning where the name ends
pub record IsFrameCut (name_len : ℕ) (text : List ℕ) : Type 0 where
  pub boundary : IsCharBoundary text name_len
  pub good : IsTrue (is_good_frame text)
