-- Frames by reference, and what they stand for.
use Rattle.std.proofs.Common.{◌≡◌, ◌∙◌, ℕ, suc, ◌+◌, ◌-◌, ◌≤◌, Bool, cond, List, [], ◌∷◌, ◌++◌, refl, ap, sym, Bor, take, drop, length, arith, add_assoc, add-one}
use Rattle.std.proofs.lemmas.List.{take-map, drop-map, map-append, length-map, length-take-le, drop-drop}
use Rattle.std.proofs.Math.Seq.{take-append_seam, drop-append-add}
use Rattle.stack_path.specs.Recursion.{without_before}
use Rattle.std.specs.List.{prefix_len}
use Rattle.frame_name.specs.Frames.{FrameView}
use Rattle.stack_path.specs.StackViews.{stack_view}

-- a prefix of frames that have a property
pub prefix_view : (p : FrameView → Bool) (frames : List (Bor FrameView)) →
    prefix_len (λ f. p f.now) frames ≡ prefix_len p (stack_view frames)
prefix_view p [] = refl
prefix_view p (f ∷ frames) = ap (λ n. cond (p f.now) (1 + n) 0) (prefix_view p frames)

-- the frames up to the first one that has a property, and it
pub until_view : (p : FrameView → Bool) (frames kept : List (Bor FrameView)) (n : ℕ) →
    kept ≡ take (n + 1) frames → n ≡ prefix_len (λ f. p f.now) frames →
    stack_view kept ≡ take (prefix_len p (stack_view frames) + 1) (stack_view frames)
until_view p frames kept n is len =
    ap stack_view is ∙ sym (take-map (λ f. f.now) (n + 1) frames)
    ∙ ap (λ k. take (k + 1) (stack_view frames)) (len ∙ prefix_view p frames)

-- the frames before a call, and one frame more
pub with_view : (n m : ℕ) (frames front more : List (Bor FrameView)) (f : Bor FrameView) →
    front ≡ take n frames → more ≡ front ++ f ∷ [] → n ≡ m →
    stack_view more ≡ take m (stack_view frames) ++ f.now ∷ []
with_view n m frames front more f is all same =
    ap stack_view (all ∙ ap (λ xs. xs ++ f ∷ []) is) ∙ map-append (λ f. f.now) (take n frames) (f ∷ [])
    ∙ ap (λ xs. xs ++ f.now ∷ []) (sym (take-map (λ f. f.now) n frames) ∙ ap (λ k. take k (stack_view frames)) same)

-- frames without some in the middle
pub middle_view : (frames left : List (Bor FrameView)) (n start count : ℕ) → n + n ≤ length frames →
    start ≡ length frames - (n + n) → count ≡ n → left ≡ take start frames ++ drop (start + count) frames →
    stack_view left ≡ without_before n (stack_view frames)
middle_view frames left n start count fits at all is =
    let size : length (stack_view frames) ≡ length frames = length-map frames (λ f. f.now) in
    let a : start ≡ length (stack_view frames) - (n + n) = omega (arith, size, at) in
    let b : start + count ≡ length (stack_view frames) - n = omega (arith, size, at, all, fits) in
    ap stack_view is ∙ map-append (λ f. f.now) (take start frames) (drop (start + count) frames)
    ∙ ap (λ xs. xs ++ stack_view (drop (start + count) frames)) (sym (take-map (λ f. f.now) start frames) ∙ ap (λ k. take k (stack_view frames)) a)
    ∙ ap (λ xs. take (length (stack_view frames) - (n + n)) (stack_view frames) ++ xs) (sym (drop-map (λ f. f.now) (start + count) frames) ∙ ap (λ k. drop k (stack_view frames)) b)

-- one frame more is taken out
pub removed_one : (frames now after : List (Bor FrameView)) (start i : ℕ) → start ≤ length frames →
    now ≡ take start frames ++ drop (start + i) frames → after ≡ take start now ++ drop (suc start) now →
    after ≡ take start frames ++ drop (start + (i + 1)) frames
removed_one frames now after start i fits is next =
    let front = take start frames in
    let back = drop (start + i) frames in
    let size : length (take start frames) ≡ start = length-take-le start frames fits in
    next ∙ ap (λ k. take start now ++ drop k now) (sym (add-one start)) ∙ ap (λ xs. take start xs ++ drop (start + 1) xs) is
    ∙ ap (λ xs. xs ++ drop (start + 1) (front ++ back)) (ap (λ k. take k (front ++ back)) (sym size) ∙ take-append_seam front back)
    ∙ ap (λ xs. front ++ xs) (ap (λ k. drop (k + 1) (front ++ back)) (sym size) ∙ drop-append-add front back 1 ∙ drop-drop 1 (start + i) frames)
    ∙ ap (λ k. front ++ drop k frames) (add_assoc start i 1)
