-- A row as a chain of its own.
use Rattle.std.proofs.Common.{◌≡◌, ℕ, zero, suc, ◌+◌, ◌<◌, List, [], ◌∷◌, ◌++◌, length, map, drop, refl, sym, ap, ◌∙◌, arith}
use Rattle.std.specs.List.{slice_get}
use Rattle.std.specs.Option.{IfSome}
use Rattle.call_path.specs.Path.{Path}
use Rattle.prefix_tree.specs.Tree.{Marks, frame_of}
use Rattle.prefix_tree.specs.Chains.{shown, chained}

-- what is left of a path past all frames but the last
last_alone : (p : Path) (k : ℕ) → suc k ≡ length p → drop k p ≡ frame_of p ∷ []
last_alone [] k e = absurd (omega (arith, e))
last_alone (f ∷ []) zero e = refl
last_alone (f ∷ []) (suc k) e = absurd (omega (arith, e))
last_alone (f ∷ g ∷ p) zero e = absurd (omega (arith, e))
last_alone (f ∷ g ∷ p) (suc k) e = last_alone (g ∷ p) k (omega (arith, e))

pub one_chained : (d : ℕ) (p : Path) (k : ℕ) (m : Marks) → suc k ≡ length p → d ≡ length p → chained d (drop k p) m ≡ shown (p, m) ∷ []
one_chained d p k m e deep = ap (λ fs. chained d fs m) (last_alone p k e) ∙ (λ i. (deep i, frame_of p, m) ∷ [])

-- a row, and those behind it
pub row_then : (es : List (Path × Marks)) (k : ℕ) (ys : List (ℕ × List ℕ × Marks)) → k < length es → IfSome (slice_get es k) (λ e. ys ≡ shown e ∷ []) → drop k (map shown es) ≡ ys ++ drop (k + 1) (map shown es)
row_then [] k ys lt is = absurd (omega (arith, lt))
row_then (e ∷ es) zero ys lt is = ap (λ y. y ++ map shown es) (sym is)
row_then (e ∷ es) (suc k) ys lt is = let later : suc (k + 1) ≡ suc k + 1 = omega arith in row_then es k ys (omega (arith, lt)) is ∙ ap (λ n. ys ++ drop n (map shown (e ∷ es))) later
