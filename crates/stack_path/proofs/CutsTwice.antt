-- A path that ends earlier is a function of one that ends later.
use Rattle.std.proofs.Common.{◌≡◌, ◌∙◌, ℕ, suc, ◌+◌, Bool, true, false, not, cond, List, [], ◌∷◌, ◌++◌, refl, ap, sym, take, arith}
use Rattle.std.specs.Prelude.{◌||◌}
use Rattle.std.specs.List.{prefix_len}
use Rattle.std.proofs.lemmas.List.Folds.{list_any-append}
use Rattle.frame_name.specs.Frames.{FrameView}
use Rattle.frame_name.specs.Words.{word_fits}
use Rattle.stack_path.specs.Beginnings.{Stack}
use Rattle.stack_path.specs.Cuts.{until, is_cut_by}

by_first : (t : Bool) (n : ℕ) (f : FrameView) (s : Stack) → take (cond (not t) (1 + n) 0 + 1) (f ∷ s) ≡ f ∷ cond t [] (take (n + 1) s)
by_first true n f s = refl
by_first false n f s = let e : 1 + n + 1 ≡ suc (n + 1) = omega arith in ap (λ k. take k (f ∷ s)) e

pub until_first : (is_cut : FrameView → Bool) (f : FrameView) (s : Stack) → until is_cut (f ∷ s) ≡ f ∷ cond (is_cut f) [] (until is_cut s)
until_first is_cut f s = by_first (is_cut f) (prefix_len (λ g. not (is_cut g)) s) f s

by_both : (a b : Bool) (more : FrameView → Bool) (p q : Stack) → until more p ≡ q → cond b [] (until more (cond a [] p)) ≡ cond (a || b) [] q
by_both true true more p q e = refl
by_both true false more p q e = refl
by_both false true more p q e = refl
by_both false false more p q e = e

-- to cut at more, what was cut at less is enough
pub cut_more : (cuts more : FrameView → Bool) (s : Stack) → until more (until cuts s) ≡ until (λ f. cuts f || more f) s
cut_more cuts more [] = refl
cut_more cuts more (f ∷ s) =
    ap (until more) (until_first cuts f s) ∙ until_first more f (cond (cuts f) [] (until cuts s))
    ∙ ap (λ t. f ∷ t) (by_both (cuts f) (more f) more (until cuts s) (until (λ g. cuts g || more g) s) (cut_more cuts more s))
    ∙ sym (until_first (λ g. cuts g || more g) f s)

twice_the_same : (b : Bool) → (b || b) ≡ b
twice_the_same true = refl
twice_the_same false = refl

pub cut_again : (cuts : FrameView → Bool) (s : Stack) → until cuts (until cuts s) ≡ until cuts s
cut_again cuts s = cut_more cuts cuts s ∙ (λ i. until (λ f. twice_the_same (cuts f) i) s)

pub cut_by_more : (words more : List (List ℕ)) (s : Stack) →
    until (is_cut_by (words ++ more)) s ≡ until (is_cut_by more) (until (is_cut_by words) s)
cut_by_more words more s =
    (λ i. until (λ f. list_any-append (λ word. word_fits word f.name) words more i) s)
    ∙ sym (cut_more (is_cut_by words) (is_cut_by more) s)
