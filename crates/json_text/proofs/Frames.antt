-- The frames of a path, written one after another.
use Rattle.std.proofs.Common.{◌≡◌, ℕ, zero, suc, ◌+◌, ◌<◌, List, [], ◌∷◌, ◌++◌, Some, length, drop, refl, ap, subst, sym, ◌∙◌, arith, append_assoc}
use Rattle.std.specs.List.{flat_map, join_with_byte, slice_get}
use Rattle.std.specs.Option.{IfSome}
use Rattle.std.proofs.lemmas.List.{append-nil}
use Rattle.call_path.specs.Path.{Path, path_text}

-- frames after a first one
abbrev later_frames : Path → List ℕ
later_frames p = flat_map (λ frame. 59 ∷ frame) p

join_first : (f : List ℕ) (p : Path) → f ++ later_frames p ≡ join_with_byte 59 (f ∷ p)
join_first f [] = append-nil f
join_first f (g ∷ p) = ap (λ ys. f ++ 59 ∷ ys) (join_first g p)

there : (p : Path) (k : ℕ) (f : List ℕ) → slice_get p k ≡ Some f → IfSome (slice_get p k) (λ x. f ≡ x)
there p k f is = subst (λ o. IfSome o (λ x. f ≡ x)) (sym is) refl

first_from : (p : Path) (f : List ℕ) → 0 < length p → IfSome (slice_get p 0) (λ x. f ≡ x) → f ++ later_frames (drop 1 p) ≡ path_text p
first_from [] f some is = absurd (omega arith)
first_from (g ∷ p) f some is = ap (λ x. x ++ later_frames p) is ∙ join_first g p

-- the first frame
pub frames_begin : (p : Path) (f text : List ℕ) → 0 < length p → slice_get p 0 ≡ Some f → text ≡ f → text ++ later_frames (drop 1 p) ≡ path_text p
frames_begin p f text some is begin = ap (λ x. x ++ later_frames (drop 1 p)) begin ∙ first_from p f some (there p 0 f is)

frames_from : (p : Path) (k : ℕ) (f : List ℕ) → k < length p → IfSome (slice_get p k) (λ x. f ≡ x) → 59 ∷ f ++ later_frames (drop (k + 1) p) ≡ later_frames (drop k p)
frames_from [] k f lt is = absurd (omega arith)
frames_from (g ∷ p) zero f lt is = ap (λ x. 59 ∷ x ++ later_frames p) is
frames_from (g ∷ p) (suc k) f lt is = let later : suc k + 1 ≡ suc (k + 1) = omega arith in ap (λ n. 59 ∷ f ++ later_frames (drop n (g ∷ p))) later ∙ frames_from p k f (omega arith) is

-- one frame more
pub frames_next : (p : Path) (k : ℕ) (f before after : List ℕ) → k < length p → slice_get p k ≡ Some f → after ≡ (before ++ 59 ∷ []) ++ f → before ++ later_frames (drop k p) ≡ path_text p → after ++ later_frames (drop (k + 1) p) ≡ path_text p
frames_next p k f before after lt is more so_far =
    ap (λ x. x ++ later_frames (drop (k + 1) p)) more ∙ regroup before (59 ∷ []) f (later_frames (drop (k + 1) p)) ∙ ap (λ x. before ++ x) (frames_from p k f lt (there p k f is)) ∙ so_far
  where
    regroup : (a b c d : List ℕ) → ((a ++ b) ++ c) ++ d ≡ a ++ (b ++ (c ++ d))
    regroup a b c d = simp append_assoc
