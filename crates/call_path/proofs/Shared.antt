-- How many first frames two paths share.
use Rattle.std.proofs.Common.{◌≡◌, ◌≢◌, ℕ, zero, suc, ◌+◌, ◌<◌, ◌≤◌, Bool, true, false, cond, List, [], ◌∷◌, length, take, drop, get_or, refl, sym, ap, ◌∙◌, arith}
use Rattle.std.specs.Prelude.{slice_get, Some, min, ◌&&◌}
use Rattle.std.specs.Ordering.{nat_cmp, eq_by_cmp, is_eq}
use Rattle.std.specs.Cmp.Lexicographic.{slice_cmp, nat_list_cmp_total, texts_ties, same_text}
use Rattle.std.proofs.lemmas.Bool.{and_parts, true≢false}
use Rattle.std.proofs.lemmas.Cmp.{tied_itself}
use Rattle.std.proofs.lemmas.List.{drop_all, drop-drop}
use Rattle.call_path.specs.Path.{Path, is_prefix, shared_len}
use Rattle.call_path.proofs.Orders.{from_frame}

-- a path without frames shares none
pub shared_none : (p : Path) → shared_len p [] ≡ 0
shared_none [] = refl
shared_none (f ∷ p) = refl

-- at the end of one of the paths nothing more is shared
pub shared_end : (p q : Path) (i : ℕ) → i ≡ min (length p) (length q) → shared_len (drop i p) (drop i q) ≡ 0
shared_end [] q i is = ap (λ r. shared_len r (drop i q)) (drop_all i [] (omega arith))
shared_end (f ∷ p) [] i is = ap (shared_len (drop i (f ∷ p))) (drop_all i [] (omega arith)) ∙ shared_none (drop i (f ∷ p))
shared_end (f ∷ p) (g ∷ q) zero is = absurd (omega arith)
shared_end (f ∷ p) (g ∷ q) (suc i) is = shared_end p q i (omega arith)

-- the first frames that are the same are shared
pub shared_after : (p q : Path) (i : ℕ) → i ≤ length p → i ≤ length q → take i p ≡ take i q → shared_len p q ≡ i + shared_len (drop i p) (drop i q)
shared_after p q zero l r e = omega arith
shared_after [] q (suc i) l r e = absurd (omega arith)
shared_after (f ∷ p) [] (suc i) l r e = absurd (omega arith)
shared_after (f ∷ p) (g ∷ q) (suc i) l r e =
    let same : f ≡ g = ap (λ (r : Path). get_or r 0 []) e in
    let tied : eq_by_cmp (slice_cmp nat_cmp) f g ≡ true = ap (eq_by_cmp (slice_cmp nat_cmp) f) (sym same) ∙ ap is_eq (tied_itself nat_list_cmp_total f) in
    let rest = shared_after p q i (omega arith) (omega arith) (ap (drop 1) e) in
    ap (λ t. cond t (suc (shared_len p q)) 0) tied ∙ omega (arith, rest)

-- all frames of the shorter path are shared where the first frames are the same
pub shared_all : (p q : Path) (i : ℕ) → i ≡ min (length p) (length q) → take i p ≡ take i q → shared_len p q ≡ i
shared_all p q i is e =
    let after = shared_after p q i (omega arith) (omega arith) e in
    let end = shared_end p q i is in
    omega (arith, after, end)

-- a path, and another from a frame on: frames that differ end what is shared, and the same frame counts
module _ (p q : Path) (from i : ℕ) (f g : List ℕ) (left : slice_get p i ≡ Some f) (right : slice_get q (from + i) ≡ Some g) where
  other_from : drop i (drop from q) ≡ g ∷ drop (i + 1) (drop from q)
  other_from =
      let e : from + i + 1 ≡ from + (i + 1) = omega arith in
      drop-drop i from q ∙ from_frame q (from + i) g right ∙ ap (λ n. g ∷ drop n q) e ∙ ap (λ r. g ∷ r) (sym (drop-drop (i + 1) from q))

  shared_step : shared_len (drop i p) (drop i (drop from q)) ≡ cond (eq_by_cmp (slice_cmp nat_cmp) f g) (suc (shared_len (drop (i + 1) p) (drop (i + 1) (drop from q)))) 0
  shared_step = λ k. shared_len (from_frame p i f left k) (other_from k)

  pub shared_other : eq_by_cmp (slice_cmp nat_cmp) f g ≡ false → shared_len (drop i p) (drop i (drop from q)) ≡ 0
  shared_other e = shared_step ∙ ap (λ t. cond t (suc (shared_len (drop (i + 1) p) (drop (i + 1) (drop from q)))) 0) e

  pub shared_same : eq_by_cmp (slice_cmp nat_cmp) f g ≡ true → shared_len (drop i p) (drop i (drop from q)) ≡ suc (shared_len (drop (i + 1) p) (drop (i + 1) (drop from q)))
  shared_same e = shared_step ∙ ap (λ t. cond t (suc (shared_len (drop (i + 1) p) (drop (i + 1) (drop from q)))) 0) e

-- what two paths share is no longer than they are
pub shared_within : (p q : Path) → (shared_len p q ≤ length p) × (shared_len p q ≤ length q)
shared_within [] q = (omega arith, omega arith)
shared_within (f ∷ p) [] = (omega arith, omega arith)
shared_within (f ∷ p) (g ∷ q) = by_test (eq_by_cmp (slice_cmp nat_cmp) f g) (shared_within p q)
  where
    by_test : (t : Bool) → (shared_len p q ≤ length p) × (shared_len p q ≤ length q) → (cond t (suc (shared_len p q)) 0 ≤ suc (length p)) × (cond t (suc (shared_len p q)) 0 ≤ suc (length q))
    by_test true h = (omega (arith, h.0), omega (arith, h.1))
    by_test false h = (omega arith, omega arith)

-- they begin with the same frames
pub shared_same_frames : (p q : Path) → take (shared_len p q) p ≡ take (shared_len p q) q
shared_same_frames [] q = refl
shared_same_frames (f ∷ p) [] = refl
shared_same_frames (f ∷ p) (g ∷ q) = by_test (eq_by_cmp (slice_cmp nat_cmp) f g) refl (shared_same_frames p q)
  where
    by_test : (t : Bool) → eq_by_cmp (slice_cmp nat_cmp) f g ≡ t → take (shared_len p q) p ≡ take (shared_len p q) q → take (cond t (suc (shared_len p q)) 0) (f ∷ p) ≡ take (cond t (suc (shared_len p q)) 0) (g ∷ q)
    by_test true e h = (λ k. same_text f g (sym (texts_ties f g ∙ e)) k ∷ h k)
    by_test false e h = refl

-- and go on with frames that differ, where both go on
pub shared_differ : (p q : Path) → shared_len p q < length p → shared_len p q < length q → get_or p (shared_len p q) [] ≢ get_or q (shared_len p q) []
shared_differ [] q lt gt = absurd (omega arith)
shared_differ (f ∷ p) [] lt gt = absurd (omega arith)
shared_differ (f ∷ p) (g ∷ q) lt gt = by_test (eq_by_cmp (slice_cmp nat_cmp) f g) refl lt gt (shared_differ p q)
  where
    by_test : (t : Bool) → eq_by_cmp (slice_cmp nat_cmp) f g ≡ t → cond t (suc (shared_len p q)) 0 < suc (length p) → cond t (suc (shared_len p q)) 0 < suc (length q)
        → (shared_len p q < length p → shared_len p q < length q → get_or p (shared_len p q) [] ≢ get_or q (shared_len p q) [])
        → get_or (f ∷ p) (cond t (suc (shared_len p q)) 0) [] ≢ get_or (g ∷ q) (cond t (suc (shared_len p q)) 0) []
    by_test true e lt gt h = h (omega arith) (omega arith)
    by_test false e lt gt h = λ same. true≢false (sym (ap (eq_by_cmp (slice_cmp nat_cmp) f) (sym same) ∙ ap is_eq (tied_itself nat_list_cmp_total f)) ∙ e)

-- all frames are shared just where the path is a prefix
pub shared_prefix : (p q : Path) → is_prefix p q ≡ true → shared_len p q ≡ length p
shared_prefix [] q is = refl
shared_prefix (f ∷ p) [] is = absurd (true≢false (sym is))
shared_prefix (f ∷ p) (g ∷ q) is =
    let parts = and_parts (eq_by_cmp (slice_cmp nat_cmp) f g) (is_prefix p q) is in
    ap (λ t. cond t (suc (shared_len p q)) 0) parts.0 ∙ ap suc (shared_prefix p q parts.1)

pub prefix_shared : (p q : Path) → shared_len p q ≡ length p → is_prefix p q ≡ true
prefix_shared [] q is = refl
prefix_shared (f ∷ p) [] is = absurd (omega arith)
prefix_shared (f ∷ p) (g ∷ q) is = by_test (eq_by_cmp (slice_cmp nat_cmp) f g) is (prefix_shared p q)
  where
    by_test : (t : Bool) → cond t (suc (shared_len p q)) 0 ≡ suc (length p) → (shared_len p q ≡ length p → is_prefix p q ≡ true) → (t && is_prefix p q) ≡ true
    by_test true e h = h (omega arith)
    by_test false e h = absurd (omega arith)
