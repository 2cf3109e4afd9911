-- How a path is held: as its text, with the offset where each frame ends.
use Rattle.std.specs.Prelude.{◌≡◌, ℕ, zero, suc, ◌+◌, List, [], ◌∷◌, length, slice_index, slice_range}
use Rattle.call_path.specs.Path.{Path, path_text}
use Rattle.call_path.specs.Good.{AreGoodFrames}

-- where each frame ends, if the first begins at a offset and the others past a `;`
abbrev pub ends_from : ℕ → Path → List ℕ
ends_from offset [] = []
ends_from offset (f ∷ p) = (offset + length f) ∷ ends_from (suc (offset + length f)) p

-- the frames of a text that end where is said, if the first begins at a offset and the others past a `;`
abbrev pub cut_from : ℕ → List ℕ → List ℕ → Path
cut_from offset [] text = []
cut_from offset (end ∷ ends) text = slice_range text offset end ∷ cut_from (suc end) ends text

-- where frame i begins
abbrev pub start_in : List ℕ → ℕ → ℕ
start_in ends zero = 0
start_in ends (suc i) = suc (slice_index ends i)

-- where the first frames end, n of them
abbrev pub end_in : List ℕ → ℕ → ℕ
end_in ends zero = 0
end_in ends (suc n) = slice_index ends n

-- the text and the ends are those of a path of good frames
pub record AreCuts (p : Path) (text ends : List ℕ) : Type 0 where
  pub joined : text ≡ path_text p
  pub places : ends ≡ ends_from 0 p
  pub good : AreGoodFrames p
