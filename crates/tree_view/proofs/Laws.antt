-- The laws of views: the tree of the edited ends is that of the viewed pairs.
use Rattle.std.proofs.Common.{◌≡◌, ℕ, Bool, true, false, cond, ◌&&◌, ◌||◌, List, [], ◌∷◌, refl, sym, ap, ◌∙◌, eqb}
use Rattle.std.specs.Ordering.{nat_cmp}
use Rattle.std.specs.Cmp.Lexicographic.{slice_cmp}
use Rattle.std.specs.FinMap as finmap
use Rattle.std.specs.Cmp.{Equal-is}
use Rattle.std.proofs.lemmas.Bool.{true≢false, and_parts}
use Rattle.std.proofs.lemmas.Map.Views.{any-filter_same}
use Rattle.rank_set.specs.Ranks.{Ranks, none, has, those, has-those, has-none}
use Rattle.call_path.specs.Path.{Path, is_path, is_prefix}
use Rattle.call_path.specs.Pairs.{Pairs, is_pair, passes, is_below}
use Rattle.call_path.proofs.PathLemmas.{and_false, is_path-cons, is_path-exact}
use Rattle.prefix_tree.specs.Tree.{Marks, Tree, tree_of}
use Rattle.prefix_tree.specs.Joined.{in_rows, labelled, ended, IsTreeOf, AreSamePairs}
use Rattle.prefix_tree.proofs.PairLemmas.{and_swap}
use Rattle.prefix_tree.proofs.Rows.{in_rows-entries}
use Rattle.prefix_tree.proofs.TreeLemmas.{IsTreeOf-from_equal}
use Rattle.prefix_tree.proofs.TreeLaws.{tree_of-same_pairs}
use Rattle.tree_view.specs.Views.{is_frame, has_frame, cut_at, was_in, with_frame, ranks_with, folded}
use Rattle.tree_view.specs.Selections.{closes, edited, fold_ends, is_root}
use Rattle.tree_view.proofs.EditLemmas.{is_pair-edited, in_rows-alike, in_rows-and, in_rows-never}

-- ---- folded paths

neither : (a b : Bool) → cond a false (cond b false false) ≡ false
neither true b = refl
neither false true = refl
neither false false = refl

at_root : (q p : Path) → is_path q [] ≡ cond (is_root q) (is_prefix q p) false
at_root [] p = refl
at_root (x ∷ q) p = refl

cut_here : (f : List ℕ) (q p : Path) (b : Bool) → is_path q (cut_at f p) ≡ cond (closes f q) (is_prefix q p) (cond (has_frame f q) false (is_path q p))
    → is_path q (cond b [] (cut_at f p)) ≡ cond (cond b (is_root q) (closes f q)) (is_prefix q p) (cond (b || has_frame f q) false (is_path q p))
cut_here f q p true ih = at_root q p
cut_here f q p false ih = ih

cut_below : (f g k : List ℕ) (q p : Path) (b : Bool) → is_frame g k ≡ b → is_path q (cut_at f p) ≡ cond (closes f q) (is_prefix q p) (cond (has_frame f q) false (is_path q p))
    → (b && is_path q (cond (is_frame k f) [] (cut_at f p))) ≡ cond (closes f (g ∷ q)) (b && is_prefix q p) (cond (has_frame f (g ∷ q)) false (b && is_path q p))
cut_below f g k q p false e ih = sym (neither (closes f (g ∷ q)) (has_frame f (g ∷ q)))
cut_below f g k q p true e ih =
    let same : g ≡ k = finmap.slice_cmp-IsAntisymmetric finmap.nat_cmp-IsAntisymmetric g k ((Equal-is (slice_cmp nat_cmp g k)).0 e) in
    ap (λ x. is_path q (cond (is_frame x f) [] (cut_at f p))) (sym same) ∙ cut_here f q p (is_frame g f) ih

-- a path is a folded one where it ends with its first such frame and starts that one, or has no such frame and is that one
is_cut : (f : List ℕ) (q p : Path) → is_path q (cut_at f p) ≡ cond (closes f q) (is_prefix q p) (cond (has_frame f q) false (is_path q p))
is_cut f [] [] = refl
is_cut f [] (k ∷ p) = refl
is_cut f (g ∷ q) [] = sym (neither (closes f (g ∷ q)) (has_frame f (g ∷ q)))
is_cut f (g ∷ q) (k ∷ p) =
    is_path-cons g k q (cond (is_frame k f) [] (cut_at f p))
    ∙ cut_below f g k q p (is_frame g k) refl (is_cut f q p)
    ∙ (λ i. cond (closes f (g ∷ q)) (is_frame g k && is_prefix q p) (cond (has_frame f (g ∷ q)) false (sym (is_path-cons g k q p) i)))

both_pairs : (x a b u v w z : Bool) → ((x && cond a u (cond b false v)) || cond a w (cond b false z)) ≡ cond a ((x && u) || w) (cond b false ((x && v) || z))
both_pairs true true b u v w z = refl
both_pairs false true b u v w z = refl
both_pairs true false true u v w z = refl
both_pairs false false true u v w z = refl
both_pairs true false false u v w z = refl
both_pairs false false false u v w z = refl

-- ---- some ranks alone

module _ (P : Pairs) (C : Ranks) (t : Tree) (h : IsTreeOf P C t) where
  ends_here : (q : Path) (r : ℕ) → in_rows (ended r) (finmap.entries t.below) q ≡ (is_below q && (has C r && is_pair P r q))
  ends_here q r = in_rows-entries (ended r) t.below q ∙ h.ends q r

  labels_here : (q : Path) (r : ℕ) → in_rows (labelled r) (finmap.entries t.below) q ≡ (is_below q && (has C r && passes P r q))
  labels_here q r = in_rows-entries (labelled r) t.below q ∙ h.labels q r

  pub ranks_same : (A : Ranks) → AreSamePairs (edited (λ p m. those (has A) m.1) (finmap.entries t.below)) P (those (has A) C)
  ranks_same A q r =
      (λ i. is_below q && (has-those (has A) C r i && (
      is_pair-edited (λ p m. those (has A) m.1) (finmap.entries t.below) r q
      ∙ in_rows-alike (λ m. has (those (has A) m.1) r) (λ m. ended r m && has A r) (λ m. has-those (has A) m.1 r) (finmap.entries t.below) q
      ∙ in_rows-and (ended r) (has A r) (finmap.entries t.below) q
      ∙ ap (λ b. b && has A r) (ends_here q r)) i))
      ∙ once (is_below q) (has C r) (has A r) (is_pair P r q)
      ∙ ap (λ b. is_below q && (b && is_pair P r q)) (sym (has-those (has A) C r))
    where
      once : (b c a x : Bool) → (b && ((c && a) && ((b && (c && x)) && a))) ≡ (b && ((c && a) && x))
      once true true true true = refl
      once true true true false = refl
      once true true false x = refl
      once true false a x = refl
      once false c a x = refl

  -- ---- paths with a frame

  pub frame_same : (f : List ℕ) (D : Ranks) → ((r : ℕ) → has D r ≡ true → has C r ≡ true) → AreSamePairs (edited (λ p m. cond (has_frame f p) m.1 none) (finmap.entries t.below)) (with_frame f P) D
  frame_same f D lies q r =
      ap (λ b. is_below q && (has D r && b)) (
      is_pair-edited (λ p m. cond (has_frame f p) m.1 none) (finmap.entries t.below) r q
      ∙ in_rows-alike (λ m. has (cond (has_frame f q) m.1 none) r) (λ m. ended r m && has_frame f q) (λ m. kept_ends (has_frame f q) m) (finmap.entries t.below) q
      ∙ in_rows-and (ended r) (has_frame f q) (finmap.entries t.below) q
      ∙ ap (λ b. b && has_frame f q) (ends_here q r))
      ∙ once (is_below q) (has D r) (has C r) (is_pair P r q) (has_frame f q) (lies r)
      ∙ ap (λ b. is_below q && (has D r && b)) (and_swap (is_pair P r q) (has_frame f q) ∙ sym (kept q r))
    where
      kept_ends : (b : Bool) (m : Marks) → has (cond b m.1 none) r ≡ (ended r m && b)
      kept_ends true m = and_true (has m.1 r)
        where
          and_true : (a : Bool) → a ≡ (a && true)
          and_true true = refl
          and_true false = refl
      kept_ends false m = has-none r ∙ sym (and_false (has m.1 r))

      once : (b d c x k : Bool) → (d ≡ true → c ≡ true) → (b && (d && ((b && (c && x)) && k))) ≡ (b && (d && (x && k)))
      once true true true x k lies = refl
      once true true false x k lies = absurd (true≢false (sym (lies refl)))
      once true false c x k lies = refl
      once false d c x k lies = refl

      kept : (q : Path) (r : ℕ) → is_pair (with_frame f P) r q ≡ (has_frame f q && is_pair P r q)
      kept q r = any-filter_same (λ (e : ℕ × Path). eqb e.0 r && is_path q e.1) (λ e. has_frame f e.1) (has_frame f q) (λ e one. ap (has_frame f) (sym (is_path-exact q e.1 ((and_parts (eqb e.0 r) (is_path q e.1) one).1)))) P

  -- ---- folds

  pub fold_same : (f : List ℕ) → AreSamePairs (edited (fold_ends f) (finmap.entries t.below)) (folded f P) C
  fold_same f q r =
      ap (λ b. is_below q && (has C r && b)) (
      is_pair-edited (fold_ends f) (finmap.entries t.below) r q
      ∙ in_rows-alike (λ m. has (fold_ends f q m) r) (λ m. cond (closes f q) (labelled r m) (cond (has_frame f q) false (ended r m))) (λ m. three (closes f q) (has_frame f q) m) (finmap.entries t.below) q
      ∙ rows_three (closes f q) (has_frame f q)
      ∙ (λ i. cond (closes f q) (labels_here q r i) (cond (has_frame f q) false (ends_here q r i))))
      ∙ once (is_below q) (has C r) (closes f q) (has_frame f q) (passes P r q) (is_pair P r q)
      ∙ ap (λ b. is_below q && (has C r && b)) (sym (cut_pairs P))
    where
      three : (a b : Bool) (m : Marks) → has (cond a m.0 (cond b none m.1)) r ≡ cond a (has m.0 r) (cond b false (has m.1 r))
      three true b m = refl
      three false true m = has-none r
      three false false m = refl

      rows_three : (a b : Bool) → in_rows (λ m. cond a (labelled r m) (cond b false (ended r m))) (finmap.entries t.below) q ≡ cond a (in_rows (labelled r) (finmap.entries t.below) q) (cond b false (in_rows (ended r) (finmap.entries t.below) q))
      rows_three true b = refl
      rows_three false true = in_rows-never (finmap.entries t.below) q
      rows_three false false = refl

      once : (b c a d x y : Bool) → (b && (c && cond a (b && (c && x)) (cond d false (b && (c && y))))) ≡ (b && (c && cond a x (cond d false y)))
      once true true true d x y = refl
      once true true false true x y = refl
      once true true false false x y = refl
      once true false a d x y = refl
      once false c a d x y = refl

      cut_pairs : (Q : Pairs) → is_pair (folded f Q) r q ≡ cond (closes f q) (passes Q r q) (cond (has_frame f q) false (is_pair Q r q))
      cut_pairs [] = sym (neither (closes f q) (has_frame f q))
      cut_pairs (e ∷ Q) = (λ i. (eqb e.0 r && is_cut f q e.1 i) || cut_pairs Q i) ∙ both_pairs (eqb e.0 r) (closes f q) (has_frame f q) (is_prefix q e.1) (is_path q e.1) (passes Q r q) (is_pair Q r q)

-- ---- the three laws

module _ (P : Pairs) (C : Ranks) (t : Tree) (is : t ≡ tree_of P C) where
  pub ranks_law : (A : Ranks) → tree_of (edited (λ p m. those (has A) m.1) (finmap.entries t.below)) (those (has A) C) ≡ tree_of P (those (has A) C)
  ranks_law A = tree_of-same_pairs _ _ (those (has A) C) (ranks_same P C t (IsTreeOf-from_equal P C t is) A)

  pub frame_law : (f : List ℕ) → tree_of (edited (λ p m. cond (has_frame f p) m.1 none) (finmap.entries t.below)) (ranks_with f P C) ≡ tree_of (with_frame f P) (ranks_with f P C)
  frame_law f = tree_of-same_pairs _ _ (ranks_with f P C) (frame_same P C t (IsTreeOf-from_equal P C t is) f (ranks_with f P C) (λ r there. (and_parts (has C r) (was_in P f r) (sym (has-those (was_in P f) C r) ∙ there)).0))

  pub fold_law : (f : List ℕ) → tree_of (edited (fold_ends f) (finmap.entries t.below)) C ≡ tree_of (folded f P) C
  fold_law f = tree_of-same_pairs _ _ C (fold_same P C t (IsTreeOf-from_equal P C t is) f)
