-- Whether frames are left where some are taken out.
use Rattle.std.proofs.Common.{◌≡◌, Bool, true, false, cond, ◌||◌, [], ◌∷◌, refl, sym}
use Rattle.std.specs.List.{list_any, filter}
use Rattle.std.proofs.lemmas.Bool.{true≢false}
use Rattle.frame_name.specs.Frames.{FrameView}
use Rattle.stack_path.specs.Beginnings.{Stack, or_else}

pub some_left : (p : FrameView → Bool) (s t : Stack) → list_any p s ≡ true → or_else (filter p s) t ≡ filter p s
some_left p [] t h = absurd (true≢false (sym h))
some_left p (f ∷ s) t h = by_test (p f) h (some_left p s t)
  where
    by_test : (b : Bool) → (b || list_any p s) ≡ true → (list_any p s ≡ true → or_else (filter p s) t ≡ filter p s) →
        or_else (cond b (f ∷ filter p s) (filter p s)) t ≡ cond b (f ∷ filter p s) (filter p s)
    by_test true e rest = refl
    by_test false e rest = rest e

pub none_left : (p : FrameView → Bool) (s t : Stack) → list_any p s ≡ false → or_else (filter p s) t ≡ t
none_left p [] t h = refl
none_left p (f ∷ s) t h = by_test (p f) h (none_left p s t)
  where
    by_test : (b : Bool) → (b || list_any p s) ≡ false → (list_any p s ≡ false → or_else (filter p s) t ≡ t) →
        or_else (cond b (f ∷ filter p s) (filter p s)) t ≡ t
    by_test true e rest = absurd (true≢false e)
    by_test false e rest = rest e
