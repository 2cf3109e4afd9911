-- The views that two words ask for: by what, and an argument.
use Rattle.std.specs.Prelude.{ℕ, List, [], ◌∷◌, ◌&&◌, Bool, nat_le, nat_lt, length, Option, Some, None, option_map, Result, Ok, Err, codes, if◌then◌else◌}
use Rattle.std.specs.Char.{is_ascii_digit}
use Rattle.std.specs.List.{list_all}
use Rattle.std.specs.Str.{bytes_eq}
use Rattle.rank_set.specs.Ranks.{Ranks}
use Rattle.rank_set.specs.RanksText.{ranks_text}
use Rattle.rank_set.specs.Digits.{value_after}
use Rattle.rank_set.specs.declared.read.RanksError.{RanksError}
use Rattle.call_path.specs.Path.{Path}
use Rattle.call_path.specs.Reading.{path_of}
use Rattle.call_path.specs.declared.read.PathError.{PathError}
use Rattle.tree_view.specs.Views.{TreeView, OfRanks, WithFrame, FoldedAt, OfEachClass}
use Rattle.tree_view.specs.declared.reading.View.{View}
use Rattle.tree_view.specs.declared.reading.View.TheVariants.{Ranks as AsRanks, Frame as AsFrame, Fold as AsFold, Reps as AsReps}
use Rattle.tree_view.specs.declared.reading.ViewBy.{ViewBy}
use Rattle.tree_view.specs.declared.reading.ViewBy.TheVariants as by

-- a view, as definitions see it
abbrev pub tree_view : View → TreeView
tree_view (AsRanks ranks) = OfRanks ranks
tree_view (AsFrame f) = WithFrame f.now
tree_view (AsFold f) = FoldedAt f.now
tree_view (AsReps k) = OfEachClass k

-- by what it views
abbrev pub by_of : TreeView → ViewBy
by_of (OfRanks ranks) = by.Ranks
by_of (WithFrame f) = by.Frame
by_of (FoldedAt f) = by.Fold
by_of (OfEachClass k) = by.Reps

-- the word for it
abbrev pub by_word : ViewBy → List ℕ
by_word by.Ranks = codes "ranks"
by_word by.Frame = codes "frame"
by_word by.Fold = codes "fold"
by_word by.Reps = codes "reps"

-- what a word names, by exactly these words
abbrev pub view_by : List ℕ → Option ViewBy
view_by word =
    if bytes_eq word (codes "ranks") then Some by.Ranks
    else (if bytes_eq word (codes "frame") then Some by.Frame
    else (if bytes_eq word (codes "fold") then Some by.Fold
    else (if bytes_eq word (codes "reps") then Some by.Reps else None)))

-- the ranks of a text that was read
abbrev pub ranks_in : Result Ranks RanksError → Option Ranks
ranks_in (Ok ranks) = Some ranks
ranks_in (Err e) = None

-- the frame of a path that was read, where it has one alone
abbrev pub frame_in : Result Path PathError → Option (List ℕ)
frame_in (Err e) = None
frame_in (Ok []) = None
frame_in (Ok (f ∷ [])) = Some f
frame_in (Ok (f ∷ g ∷ p)) = None

-- whether a text is 1 to 20 decimal digits
abbrev pub is_number : List ℕ → Bool
is_number text = nat_lt 0 (length text) && (nat_le (length text) 20 && list_all is_ascii_digit text)

-- a number of representatives: 1 to 1,000
abbrev pub in_reps : ℕ → Option ℕ
in_reps n = if nat_le 1 n && nat_le n 1000 then Some n else None

-- the number of representatives that a text writes; zeros in front mean nothing
abbrev pub count_of : List ℕ → Option ℕ
count_of text = if is_number text then in_reps (value_after 0 text) else None

-- the view of an argument, and none where the argument is bad
abbrev pub view_of : ViewBy → List ℕ → Option TreeView
view_of by.Ranks text = option_map OfRanks (ranks_in (ranks_text text))
view_of by.Frame text = option_map WithFrame (frame_in (path_of text))
view_of by.Fold text = option_map FoldedAt (frame_in (path_of text))
view_of by.Reps text = option_map OfEachClass (count_of text)
