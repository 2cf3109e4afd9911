-- What a view keeps depends on the tree alone, not on the pairs that it is of.
use Rattle.std.proofs.Common.{◌≡◌, ℕ, Bool, true, false, cond, ◌&&◌, ◌||◌, List, [], ◌∷◌, filter, refl, sym, ap, ◌∙◌, arith, eqb, inl, inr}
use Rattle.std.specs.FinMap as finmap
use Rattle.std.specs.Cmp.{both_ways}
use Rattle.std.proofs.lemmas.Bool.{true≢false, or_cases, or_left, or_right, false_from_ne_true}
use Rattle.rank_set.specs.Ranks.{Ranks, has, those, has-those, same_ranks}
use Rattle.call_path.specs.Path.{Path, is_path}
use Rattle.call_path.specs.Pairs.{HasNoEmptyPath, Pairs, is_pair}
use Rattle.prefix_tree.specs.Tree.{Tree, pairs_of, tree_of}
use Rattle.prefix_tree.proofs.PairLemmas.{is_pair-pairs_of}
use Rattle.prefix_tree.proofs.TreeLemmas.{IsTreeOf-from_equal}
use Rattle.equiv_class.specs.Classes.{classes_of}
use Rattle.equiv_class.proofs.SamePairs.{classes-same_pairs, classes_of_tree}
use Rattle.tree_view.specs.Views.{TreeView, OfRanks, WithFrame, FoldedAt, OfEachClass, cut_at, folded, has_frame, least_ranks, ranks_with, viewed_classes, viewed_pairs, viewed_ranks, viewed_tree, was_in}
use Rattle.tree_view.proofs.Laws.{fold_law, frame_law, ranks_law}
use Rattle.tree_view.proofs.Lies.{has_pair, in_pairs}

-- ---- no empty path

kept_pair : (test : ℕ × Path → Bool) (P : Pairs) (r : ℕ) (p : Path) → is_pair (filter test P) r p ≡ true → is_pair P r p ≡ true
kept_pair test [] r p one = one
kept_pair test (e ∷ P) r p one = by (test e) one (kept_pair test P r p)
  where
    by : (b : Bool) → is_pair (cond b (e ∷ filter test P) (filter test P)) r p ≡ true → (is_pair (filter test P) r p ≡ true → is_pair P r p ≡ true) → is_pair (e ∷ P) r p ≡ true
    by true h rest = elim (or_cases (eqb e.0 r && is_path p e.1) (is_pair (filter test P) r p) h) [
      | inl here ↦ or_left (eqb e.0 r && is_path p e.1) (is_pair P r p) here
      | inr later ↦ or_right (eqb e.0 r && is_path p e.1) (is_pair P r p) (rest later)
    ]
    by false h rest = or_right (eqb e.0 r && is_path p e.1) (is_pair P r p) (rest h)

empty_cut : (f : List ℕ) (p : Path) → is_path [] (cut_at f p) ≡ is_path [] p
empty_cut f [] = refl
empty_cut f (g ∷ p) = refl

empty_folded : (f : List ℕ) (P : Pairs) (r : ℕ) → is_pair (folded f P) r [] ≡ is_pair P r []
empty_folded f [] r = refl
empty_folded f (e ∷ P) r = λ i. (eqb e.0 r && empty_cut f e.1 i) || empty_folded f P r i

fold_none_empty : (f : List ℕ) (P : Pairs) → HasNoEmptyPath P → HasNoEmptyPath (folded f P)
fold_none_empty f P some r [] one = some r [] (sym (empty_folded f P r) ∙ one)
fold_none_empty f P some r (g ∷ p) one = omega arith

-- the pairs that a view keeps have no empty path
pub none_empty : (v : TreeView) (P : Pairs) → HasNoEmptyPath P → HasNoEmptyPath (viewed_pairs v P)
none_empty (OfRanks ranks) P some = some
none_empty (WithFrame f) P some = λ r p one. some r p (kept_pair (λ e. has_frame f e.1) P r p one)
none_empty (FoldedAt f) P some = fold_none_empty f P some
none_empty (OfEachClass k) P some = some

-- a tree's own pairs have none
pub own_none_empty : (t : Tree) → t ≡ tree_of (pairs_of t) t.coverage → HasNoEmptyPath (pairs_of t)
own_none_empty t is r [] one = absurd (true≢false (sym one ∙ is_pair-pairs_of t r [] ∙ (IsTreeOf-from_equal (pairs_of t) t.coverage t is).ends [] r))
own_none_empty t is r (g ∷ p) one = omega arith

-- ---- two lists of pairs of one tree

module _ (t : Tree) (P Q : Pairs) (C : Ranks) (is : t ≡ tree_of P C) (is_too : t ≡ tree_of Q C) (some : HasNoEmptyPath P) (some_too : HasNoEmptyPath Q) where
  no_root : (R : Pairs) → HasNoEmptyPath R → (r : ℕ) → is_pair R r [] ≡ false
  no_root R none r = false_from_ne_true _ (λ one. absurd (Rattle.std.proofs.Math.Nat.lt_irrefl 0 (none r [] one)))

  -- they have the same pairs of covered ranks
  same_pairs : (r : ℕ) (p : Path) → has C r ≡ true → is_pair P r p ≡ is_pair Q r p
  same_pairs r [] hr = no_root P some r ∙ sym (no_root Q some_too r)
  same_pairs r (g ∷ p) hr =
      sym (ap (λ b. b && is_pair P r (g ∷ p)) hr) ∙ sym ((IsTreeOf-from_equal P C t is).ends (g ∷ p) r)
      ∙ (IsTreeOf-from_equal Q C t is_too).ends (g ∷ p) r ∙ ap (λ b. b && is_pair Q r (g ∷ p)) hr

  same_in_frame : (f : List ℕ) (r : ℕ) → has C r ≡ true → was_in P f r ≡ was_in Q f r
  same_in_frame f r hr = both_ways _ _
      (λ one. let pair = has_pair P C t (IsTreeOf-from_equal P C t is) f r P one in in_pairs P C t (IsTreeOf-from_equal P C t is) Q f r pair.0 (sym (same_pairs r pair.0 hr) ∙ pair.1.0) pair.1.1)
      (λ one. let pair = has_pair P C t (IsTreeOf-from_equal P C t is) f r Q one in in_pairs P C t (IsTreeOf-from_equal P C t is) P f r pair.0 (same_pairs r pair.0 hr ∙ pair.1.0) pair.1.1)

  under : (a b c : Bool) → (a ≡ true → b ≡ c) → (a && b) ≡ (a && c)
  under true b c e = e refl
  under false b c e = refl

  same_with : (f : List ℕ) → ranks_with f P C ≡ ranks_with f Q C
  same_with f = same_ranks (ranks_with f P C) (ranks_with f Q C) (λ r. has-those (was_in P f) C r ∙ under (has C r) (was_in P f r) (was_in Q f r) (same_in_frame f r) ∙ sym (has-those (was_in Q f) C r))

  -- a view keeps the same ranks
  pub same_viewed_ranks : (v : TreeView) → viewed_ranks v P C ≡ viewed_ranks v Q C
  same_viewed_ranks (OfRanks ranks) = refl
  same_viewed_ranks (WithFrame f) = same_with f
  same_viewed_ranks (FoldedAt f) = refl
  same_viewed_ranks (OfEachClass k) = ap (λ ks. those (has (least_ranks k ks)) C) (classes-same_pairs P Q C same_pairs)

  -- so its tree is the same
  pub same_viewed_tree : (v : TreeView) → viewed_tree v P C ≡ viewed_tree v Q C
  same_viewed_tree (OfRanks ranks) = sym (ranks_law P C t is ranks) ∙ ranks_law Q C t is_too ranks
  same_viewed_tree (WithFrame f) = sym (frame_law P C t is f) ∙ (λ i. tree_of (Rattle.tree_view.specs.Selections.edited (λ p m. cond (has_frame f p) m.1 Rattle.rank_set.specs.Ranks.none) (finmap.entries t.below)) (same_with f i)) ∙ frame_law Q C t is_too f
  same_viewed_tree (FoldedAt f) = sym (fold_law P C t is f) ∙ fold_law Q C t is_too f
  same_viewed_tree (OfEachClass k) =
      sym (ranks_law P C t is (least_ranks k (classes_of P C))) ∙ ranks_law Q C t is_too (least_ranks k (classes_of P C))
      ∙ ap (λ ks. tree_of Q (those (has (least_ranks k ks)) C)) (classes-same_pairs P Q C same_pairs)

  -- and so are its classes
  pub same_viewed_classes : (v : TreeView) → viewed_classes v P C ≡ viewed_classes v Q C
  same_viewed_classes v =
      sym (classes_of_tree (viewed_pairs v P) (viewed_ranks v P C) (viewed_tree v P C) (none_empty v P some) refl)
      ∙ classes_of_tree (viewed_pairs v Q) (viewed_ranks v Q C) (viewed_tree v P C) (none_empty v Q some_too) (same_viewed_tree v)
