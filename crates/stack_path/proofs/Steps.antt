-- The steps of the loops.
use Rattle.std.proofs.Common.{◌≡◌, ◌∙◌, Bool, true, false, ◌&&◌, not, cond, [], ◌∷◌, ap}
use Rattle.frame_name.specs.Frames.{FrameView}
use Rattle.stack_path.specs.Beginnings.{Stack}
use Rattle.stack_path.specs.Shown.{shown_below}

-- a frame that is left out
pub left_out_step : (named below : Bool) (f : FrameView) (s : Stack) → (below && not f.is_own) ≡ true →
    shown_below named below (f ∷ s) ≡ shown_below named true s
left_out_step named below f s h = ap (λ b. cond b (shown_below named true s) (cond (named && f.is_standard) (f ∷ []) (f ∷ shown_below named f.waits s))) h

-- a frame behind which nothing is shown
pub last_step : (named below : Bool) (f : FrameView) (s : Stack) → (below && not f.is_own) ≡ false → (named && f.is_standard) ≡ true →
    shown_below named below (f ∷ s) ≡ f ∷ []
last_step named below f s h k = ap (λ b. cond b (shown_below named true s) (cond (named && f.is_standard) (f ∷ []) (f ∷ shown_below named f.waits s))) h
    ∙ ap (λ b. cond b (f ∷ []) (f ∷ shown_below named f.waits s)) k

-- a frame that is shown
pub shown_step : (named below : Bool) (f : FrameView) (s : Stack) → (below && not f.is_own) ≡ false → (named && f.is_standard) ≡ false →
    shown_below named below (f ∷ s) ≡ f ∷ shown_below named f.waits s
shown_step named below f s h k = ap (λ b. cond b (shown_below named true s) (cond (named && f.is_standard) (f ∷ []) (f ∷ shown_below named f.waits s))) h
    ∙ ap (λ b. cond b (f ∷ []) (f ∷ shown_below named f.waits s)) k
