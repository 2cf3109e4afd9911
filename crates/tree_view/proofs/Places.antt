-- How many frames come before the first f in a path.
use Rattle.std.proofs.Common.{◌≡◌, ℕ, zero, suc, ◌+◌, ◌-◌, ◌++◌, take, ◌<◌, ◌≤◌, Bool, true, false, cond, ◌||◌, List, [], ◌∷◌, length, refl, sym, ap, ◌∙◌, arith, eqb, ◌≢◌, Bor, lt-ltb, le-ltb, eq-eqb}
use Rattle.std.proofs.lemmas.Bool.{ne_eqb}
use Rattle.rank_set.specs.Ranks.{none}
use Rattle.prefix_tree.specs.Tree.{Marks}
use Rattle.call_path.specs.Path.{Path}
use Rattle.tree_view.specs.Views.{is_frame, has_frame}
use Rattle.tree_view.specs.Selections.{closes, ends_in, is_root, place_in, place_of}
use Rattle.tree_view.specs.declared.selection.Selection.{Selection}
use Rattle.tree_view.specs.declared.selection.Selection.TheVariants.{Ranks as RanksOnly, Frame, Fold}

module _ (f : List ℕ) where
  -- a frame that stands above stays the first
  pub place_kept : (p : Path) (n : ℕ) (g : List ℕ) → place_of f p < n → n ≤ length p → place_of f (take n p ++ g ∷ []) ≡ place_of f p
  place_kept [] n g lt le = absurd (omega (arith, lt, le))
  place_kept (x ∷ p) zero g lt le = absurd (omega (arith, lt))
  place_kept (x ∷ p) (suc n) g lt le = by (is_frame x f) lt (λ less. place_kept p n g less (omega (arith, le)))
    where
      by : (b : Bool) → cond b 0 (suc (place_of f p)) < suc n → (place_of f p < n → place_of f (take n p ++ g ∷ []) ≡ place_of f p) → cond b 0 (suc (place_of f (take n p ++ g ∷ []))) ≡ cond b 0 (suc (place_of f p))
      by true lt rest = refl
      by false lt rest = ap suc (rest (omega (arith, lt)))

  -- where none stands above, the last frame is the first one, or there is none
  pub place_new : (p : Path) (n : ℕ) (g : List ℕ) → n ≤ place_of f p → n ≤ length p → place_of f (take n p ++ g ∷ []) ≡ cond (is_frame g f) n (suc n)
  place_new p zero g le within = refl
  place_new [] (suc n) g le within = absurd (omega (arith, within))
  place_new (x ∷ p) (suc n) g le within = by (is_frame x f) le (λ less. place_new p n g less (omega (arith, within)))
    where
      later : (c : Bool) → suc (cond c n (suc n)) ≡ cond c (suc n) (suc (suc n))
      later true = refl
      later false = refl

      by : (b : Bool) → suc n ≤ cond b 0 (suc (place_of f p)) → (n ≤ place_of f p → place_of f (take n p ++ g ∷ []) ≡ cond (is_frame g f) n (suc n))
          → cond b 0 (suc (place_of f (take n p ++ g ∷ []))) ≡ cond (is_frame g f) (suc n) (suc (suc n))
      by true le rest = absurd (omega (arith, le))
      by false le rest = ap suc (rest (omega (arith, le))) ∙ later (is_frame g f)

  pub place_within : (p : Path) → place_of f p ≤ length p
  place_within [] = omega arith
  place_within (x ∷ p) = by (is_frame x f) (place_within p)
    where
      by : (b : Bool) → place_of f p ≤ length p → cond b 0 (suc (place_of f p)) ≤ suc (length p)
      by true le = omega arith
      by false le = omega (arith, le)

  -- a path has the frame where its place is before the end
  pub has_by_place : (p : Path) → has_frame f p ≡ Rattle.std.proofs.Common.ltb (place_of f p) (length p)
  has_by_place [] = refl
  has_by_place (x ∷ p) = by (is_frame x f) (has_by_place p)
    where
      by : (b : Bool) → has_frame f p ≡ Rattle.std.proofs.Common.ltb (place_of f p) (length p) → (b || has_frame f p) ≡ Rattle.std.proofs.Common.ltb (cond b 0 (suc (place_of f p))) (suc (length p))
      by true ih = grind arith
      by false ih = ih ∙ grind arith

  -- and ends with the first where that is the last place
  pub closes_by_place : (p : Path) → closes f p ≡ eqb (suc (place_of f p)) (length p)
  closes_by_place [] = refl
  closes_by_place (x ∷ p) = by (is_frame x f) (closes_by_place p)
    where
      root_len : (p : Path) → is_root p ≡ eqb 1 (suc (length p))
      root_len [] = refl
      root_len (y ∷ p) = grind arith

      by : (b : Bool) → closes f p ≡ eqb (suc (place_of f p)) (length p) → cond b (is_root p) (closes f p) ≡ eqb (suc (cond b 0 (suc (place_of f p)))) (suc (length p))
      by true ih = root_len p
      by false ih = ih ∙ grind arith

-- before the first frame there is none
pub no_place : (v : Selection) → 0 ≡ place_in v []
no_place (RanksOnly ranks) = refl
no_place (Frame f) = refl
no_place (Fold f) = refl

-- ---- the ends of a row by these places

module _ (x : Bor (List ℕ)) (p : Path) (m : Marks) (n : ℕ) (at : n ≡ place_of x.now p) where
  pub frame_there : (v : Selection) → v ≡ Frame x → n < length p → m.1 ≡ ends_in v p m
  frame_there v is lt = sym (ap (λ w. ends_in w p m) is ∙ ap (λ b. cond b m.1 none) (has_by_place x.now p ∙ lt-ltb (place_of x.now p) (length p) (omega (arith, at, lt))))

  pub frame_absent : (v : Selection) → v ≡ Frame x → length p ≤ n → none ≡ ends_in v p m
  frame_absent v is le = sym (ap (λ w. ends_in w p m) is ∙ ap (λ b. cond b m.1 none) (has_by_place x.now p ∙ le-ltb (place_of x.now p) (length p) (omega (arith, at, le))))

  fold_is : (v : Selection) (a b : Bool) → v ≡ Fold x → closes x.now p ≡ a → has_frame x.now p ≡ b → ends_in v p m ≡ cond a m.0 (cond b none m.1)
  fold_is v a b is e f = ap (λ w. ends_in w p m) is ∙ (λ i. cond (e i) m.0 (cond (f i) none m.1))

  pub fold_absent : (v : Selection) → v ≡ Fold x → n ≡ length p → m.1 ≡ ends_in v p m
  fold_absent v is e = sym (fold_is v false false is (closes_by_place x.now p ∙ ne_eqb (suc (place_of x.now p)) (length p) (λ k. absurd (omega (arith, at, e, k)))) (has_by_place x.now p ∙ le-ltb (place_of x.now p) (length p) (omega (arith, at, e))))

  pub fold_last : (v : Selection) → v ≡ Fold x → n + 1 ≡ length p → m.0 ≡ ends_in v p m
  fold_last v is e = sym (fold_is v true (has_frame x.now p) is (closes_by_place x.now p ∙ eq-eqb (suc (place_of x.now p)) (length p) (omega (arith, at, e))) refl)

  pub fold_past : (v : Selection) → v ≡ Fold x → n ≤ length p → n ≢ length p → n + 1 ≢ length p → none ≡ ends_in v p m
  fold_past v is le one two = sym (fold_is v false true is (closes_by_place x.now p ∙ ne_eqb (suc (place_of x.now p)) (length p) (λ k. two (omega (arith, at, k)))) (has_by_place x.now p ∙ lt-ltb (place_of x.now p) (length p) (omega (arith, at, le, one))))
