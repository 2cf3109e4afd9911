-- Two paths compared from a frame on.
use Rattle.std.proofs.Common.{◌≡◌, ℕ, ◌+◌, ◌<◌, Bool, true, false, List, [], ◌∷◌, length, drop, refl, ap, ◌∙◌, arith}
use Rattle.std.specs.Prelude.{◌&&◌, slice_get, Some}
use Rattle.std.specs.Ordering.{nat_cmp, eq_by_cmp}
use Rattle.std.specs.Cmp.Lexicographic.{slice_cmp}
use Rattle.std.proofs.lemmas.List.{drop_more}
use Rattle.std.proofs.lemmas.Option.{get_or_from_slice_get, slice_get_within}
use Rattle.call_path.specs.Path.{Path, is_prefix}

-- a list from an element on
pub from_frame : (p : Path) (i : ℕ) (f : List ℕ) → slice_get p i ≡ Some f → drop i p ≡ f ∷ drop (i + 1) p
from_frame p i f at = drop_more p i [] (slice_get_within p i f at) ∙ ap (λ g. g ∷ drop (i + 1) p) (get_or_from_slice_get p i f [] at)

module _ (p q : Path) (i : ℕ) (f g : List ℕ) (left : slice_get p i ≡ Some f) (right : slice_get q i ≡ Some g) where
  -- a prefix begins with the same frame
  pub prefix_step : is_prefix (drop i p) (drop i q) ≡ (eq_by_cmp (slice_cmp nat_cmp) f g && is_prefix (drop (i + 1) p) (drop (i + 1) q))
  prefix_step = λ k. is_prefix (from_frame p i f left k) (from_frame q i g right k)

  -- paths whose frames differ
  pub prefix_other : eq_by_cmp (slice_cmp nat_cmp) f g ≡ false → is_prefix (drop i p) (drop i q) ≡ false
  prefix_other e = prefix_step ∙ ap (λ b. b && is_prefix (drop (i + 1) p) (drop (i + 1) q)) e

  -- and whose frames are the same
  pub prefix_same : eq_by_cmp (slice_cmp nat_cmp) f g ≡ true → is_prefix (drop i p) (drop i q) ≡ is_prefix (drop (i + 1) p) (drop (i + 1) q)
  prefix_same e = prefix_step ∙ ap (λ b. b && is_prefix (drop (i + 1) p) (drop (i + 1) q)) e

-- a longer path is no prefix
pub prefix_long : (p q : Path) → length q < length p → is_prefix p q ≡ false
prefix_long [] q lt = absurd (omega arith)
prefix_long (f ∷ p) [] lt = refl
prefix_long (f ∷ p) (g ∷ q) lt = ap (λ b. eq_by_cmp (slice_cmp nat_cmp) f g && b) (prefix_long p q (omega arith)) ∙ both (eq_by_cmp (slice_cmp nat_cmp) f g)
  where
    both : (b : Bool) → (b && false) ≡ false
    both true = refl
    both false = refl
