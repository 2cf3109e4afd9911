-- What a text that is one frame is read as.
use Rattle.std.proofs.Common.{◌≡◌, ℕ, List, [], ◌∷◌, length, Ok, None, Some, sym, ap, ◌∙◌, arith}
use Rattle.call_path.specs.Path.{Path, path_text}
use Rattle.call_path.specs.Reading.{first_error, frames, path_of, unless}
use Rattle.call_path.specs.declared.read.PathError.{PathError}
use Rattle.call_path.proofs.Errors.{text-frames}
use Rattle.tree_view.specs.Reading.{frame_in}

read_frames : (text : List ℕ) (path : Path) → path_of text ≡ Ok path → frames text ≡ path
read_frames text path is = by (first_error 0 0 (frames text)) is
  where
    by : (e : Rattle.std.proofs.Common.Option PathError) → unless (frames text) e ≡ Ok path → frames text ≡ path
    by None e = cc
    by (Some error) e = absurd (cc)

-- a path of one frame has that of its text
pub one_frame : (text : List ℕ) (path : Path) → path_of text ≡ Ok path → length path ≡ 1 → frame_in (path_of text) ≡ Some text
one_frame text [] is one = absurd (omega (arith, one))
one_frame text (f ∷ []) is one = ap frame_in is ∙ ap Some (sym (text-frames text ∙ ap path_text (read_frames text (f ∷ []) is)))
one_frame text (f ∷ g ∷ p) is one = absurd (omega (arith, one))
