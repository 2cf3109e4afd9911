-- The frames at both ends.
use Rattle.std.proofs.Common.{◌≡◌, ◌∙◌, ℕ, ◌-◌, ◌≤◌, ◌<◌, cond, List, [], ◌∷◌, ◌++◌, ap, sym, map, Bor, take, drop, length, arith, append_assoc}
use Rattle.std.proofs.lemmas.Bool.{le-leb, lt-leb}
use Rattle.std.proofs.lemmas.List.{take-map, drop-map, length-map}
use Rattle.call_path.specs.Path.{Path}
use Rattle.frame_name.specs.Frames.{FrameView, frame_text}
use Rattle.stack_path.specs.StackViews.{stack_view}
use Rattle.stack_path.specs.Ends.{both_ends, left_out}

-- the texts of frames
abbrev pub texts_of : List (Bor FrameView) → Path
texts_of frames = map frame_text (stack_view frames)

pub short_path : (p : Path) → length p ≤ 128 → both_ends p ≡ p
unfolding both_ends
short_path p fits = ap (λ b. cond b p (take 63 p ++ left_out ∷ drop (length p - 64) p)) (le-leb (length p) 128 fits)

pub long_path : (p : Path) → 128 < length p → both_ends p ≡ take 63 p ++ left_out ∷ drop (length p - 64) p
unfolding both_ends
long_path p more = ap (λ b. cond b p (take 63 p ++ left_out ∷ drop (length p - 64) p)) (lt-leb (length p) 128 more)

texts_len : (frames : List (Bor FrameView)) → length (texts_of frames) ≡ length frames
texts_len frames = length-map (stack_view frames) frame_text ∙ length-map frames (λ f. f.now)

texts_take : (n : ℕ) (frames : List (Bor FrameView)) → take n (texts_of frames) ≡ texts_of (take n frames)
texts_take n frames = take-map frame_text n (stack_view frames) ∙ ap (map frame_text) (take-map (λ f. f.now) n frames)

texts_drop : (n : ℕ) (frames : List (Bor FrameView)) → drop n (texts_of frames) ≡ texts_of (drop n frames)
texts_drop n frames = drop-map frame_text n (stack_view frames) ∙ ap (map frame_text) (drop-map (λ f. f.now) n frames)

pub all_fit : (frames : List (Bor FrameView)) (p q : Path) → length frames ≤ 128 → p ≡ [] → q ≡ p ++ texts_of frames →
    q ≡ both_ends (texts_of frames)
all_fit frames p q fits begins is =
    is ∙ ap (λ t. t ++ texts_of frames) begins ∙ sym (short_path (texts_of frames) (omega (arith, texts_len frames)))

pub ends_fit : (frames outer inner : List (Bor FrameView)) (p q r s : Path) → 128 < length frames →
    outer ≡ take 63 frames → inner ≡ drop (length frames - 64) frames → p ≡ [] → q ≡ p ++ texts_of outer →
    r ≡ q ++ left_out ∷ [] → s ≡ r ++ texts_of inner → s ≡ both_ends (texts_of frames)
ends_fit frames outer inner p q r s more is_outer is_inner begins first middle last =
    last ∙ ap (λ t. t ++ texts_of inner) (middle ∙ ap (λ t. t ++ left_out ∷ []) (first ∙ ap (λ t. t ++ texts_of outer) begins))
    ∙ append_assoc (texts_of outer) (left_out ∷ []) (texts_of inner)
    ∙ ap (λ t. t ++ left_out ∷ texts_of inner) (ap texts_of is_outer ∙ sym (texts_take 63 frames))
    ∙ ap (λ t. take 63 (texts_of frames) ++ left_out ∷ t)
    (ap texts_of is_inner ∙ sym (texts_drop (length frames - 64) frames)
    ∙ ap (λ n. drop (n - 64) (texts_of frames)) (sym (texts_len frames)))
    ∙ sym (long_path (texts_of frames) (omega (arith, texts_len frames)))
