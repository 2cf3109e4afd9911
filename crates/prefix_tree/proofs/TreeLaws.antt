-- Laws of trees for callers, in the words of their contracts.
use Rattle.std.proofs.Common.{◌≡◌, ℕ, Bool, true, false, ◌&&◌, ◌||◌, ◌++◌, refl, sym, ap, ◌∙◌}
use Rattle.rank_set.specs.Ranks.{Ranks, none, has, in_order, union, has-union, has-none}
use Rattle.call_path.specs.Path.{Path}
use Rattle.call_path.specs.Pairs.{Pairs, pairs_at, is_pair, is_below}
use Rattle.prefix_tree.specs.Tree.{Tree, tree_of, pairs_of, merged, added, Adds}
use Rattle.prefix_tree.specs.Joined.{AreSamePairs}
use Rattle.prefix_tree.proofs.PairLemmas.{is_pair-append, is_pair-pairs_of}
use Rattle.prefix_tree.proofs.TreeLemmas.{IsTreeOf-tree_of, IsTreeOf-same_pairs, tree_of-is, pairs_of-same, coverage-tree_of}

-- a tree depends on which pairs of covered ranks there are alone
pub tree_of-same_pairs : (P Q : Pairs) (C : Ranks) → AreSamePairs P Q C → tree_of P C ≡ tree_of Q C
tree_of-same_pairs P Q C same = tree_of-is Q C (tree_of P C) (IsTreeOf-same_pairs P Q C (tree_of P C) same (IsTreeOf-tree_of P C))

module _ (P : Pairs) (C : Ranks) where
  back : AreSamePairs P (pairs_of (tree_of P C)) C
  back = pairs_of-same P C (tree_of P C) (IsTreeOf-tree_of P C)

  widened : (b a x y z : Bool) → (b && (a && x)) ≡ (b && (a && y)) → (b && (a && (x || z))) ≡ (b && (a && (y || z)))
  widened true true x y z e = ap (λ v. v || z) e
  widened true false x y z e = refl
  widened false a x y z e = refl

  -- more pairs of a tree's ranks
  pub added-tree_of : (D : Ranks) (p : Path) → added (tree_of P C) D p ≡ tree_of (P ++ pairs_at (in_order D) p) C
  added-tree_of D p =
      ap (tree_of (pairs_of (tree_of P C) ++ pairs_at (in_order D) p)) (coverage-tree_of P C)
      ∙ tree_of-same_pairs _ _ C (λ q r.
      ap (λ b. is_below q && (has C r && b)) (is_pair-append (pairs_of (tree_of P C)) (pairs_at (in_order D) p) r q)
      ∙ widened (is_below q) (has C r) (is_pair (pairs_of (tree_of P C)) r q) (is_pair P r q) (is_pair (pairs_at (in_order D) p) r q) (sym (back q r))
      ∙ ap (λ b. is_below q && (has C r && b)) (sym (is_pair-append P (pairs_at (in_order D) p) r q)))

-- what a tree's pairs are
pub pair_of_tree : (S : Pairs) (A : Ranks) (q : Path) (r : ℕ) → is_pair (pairs_of (tree_of S A)) r q ≡ (is_below q && (has A r && is_pair S r q))
pair_of_tree S A q r = is_pair-pairs_of (tree_of S A) r q ∙ (IsTreeOf-tree_of S A).ends q r

-- the same pairs over the ranks of both
pub merged-tree_of : (S : Pairs) (A B : Ranks) → merged (tree_of S A) (tree_of S B) ≡ tree_of S (union A B)
merged-tree_of S A B =
    (λ i. tree_of (pairs_of (tree_of S A) ++ pairs_of (tree_of S B)) (union (coverage-tree_of S A i) (coverage-tree_of S B i)))
    ∙ tree_of-same_pairs _ _ (union A B) (λ q r.
    (λ i. is_below q && (has-union A B r i && is_pair-append (pairs_of (tree_of S A)) (pairs_of (tree_of S B)) r q i))
    ∙ split (is_below q) (has A r) (has B r) _ _ (is_pair S r q) (back S A q r) (back S B q r)
    (pair_of_tree S A q r) (pair_of_tree S B q r)
    ∙ sym (λ i. is_below q && (has-union A B r i && is_pair S r q)))
  where
    split : (b a c x y z : Bool) → (b && (a && z)) ≡ (b && (a && x)) → (b && (c && z)) ≡ (b && (c && y)) → x ≡ (b && (a && z)) → y ≡ (b && (c && z)) → (b && ((a || c) && (x || y))) ≡ (b && ((a || c) && z))
    split false a c x y z e f g h = refl
    split true true true x y z e f g h = (λ i. sym e i || sym f i) ∙ twice z
      where
        twice : (v : Bool) → (v || v) ≡ v
        twice true = refl
        twice false = refl
    split true true false x y z e f g h = (λ i. sym e i || h i) ∙ or_false z
      where
        or_false : (v : Bool) → (v || false) ≡ v
        or_false true = refl
        or_false false = refl
    split true false true x y z e f g h = (λ i. g i || sym f i)
    split true false false x y z e f g h = refl

-- over no ranks there are no rows
pub tree_of-uncovered : (P Q : Pairs) → tree_of P none ≡ tree_of Q none
tree_of-uncovered P Q = tree_of-same_pairs P Q none (λ q r. (λ i. is_below q && (has-none r i && is_pair P r q)) ∙ sym (λ i. is_below q && (has-none r i && is_pair Q r q)))

-- the pairs of a tree, and each of the ranks with the path
pub added_adds : (t : Tree) (D : Ranks) (p : Path) → Adds t D p (added t D p)
added_adds t D p P C is = ap (λ u. added u D p) is ∙ added-tree_of P C D p
