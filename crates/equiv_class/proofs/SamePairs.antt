-- Pairs that are the same at covered ranks make the same classes, and those that a tree gives back are so.
use Rattle.std.proofs.Common.{◌≡◌, ℕ, Bool, true, false, not, ◌&&◌, ◌||◌, ltb, List, [], ◌∷◌, map, refl, sym, ap, ◌∙◌}
use Rattle.std.specs.List.{list_any, filter}
use Rattle.std.specs.Cmp.{both_ways}
use Rattle.std.specs.Ordering.{nat_cmp, eq_by_cmp}
use Rattle.std.proofs.lemmas.Bool.{or_right, false_from_ne_true}
use Rattle.rank_set.specs.Ranks.{Ranks, IsSubset, has, those, in_order, has-in_order, has-those, same_ranks}
use Rattle.rank_set.proofs.Ordered.{filter_on, map_on}
use Rattle.call_path.specs.Path.{Path}
use Rattle.call_path.specs.Pairs.{HasNoEmptyPath, Pairs, is_pair}
use Rattle.prefix_tree.specs.Tree.{Tree, pairs_of, tree_of}
use Rattle.prefix_tree.proofs.PairLemmas.{is_pair-pairs_of}
use Rattle.prefix_tree.proofs.TreeLemmas.{IsTreeOf-from_equal, coverage-tree_of}
use Rattle.equiv_class.specs.Classes.{equivalent, paths_of, classes_of, is_least}
use Rattle.equiv_class.proofs.Equivalent.{equivalent-from_paths, paths-from_equivalent}
use Rattle.equiv_class.proofs.Ordered.{kept_in, tied_self}
use Rattle.equiv_class.proofs.PathsInOrder.{paths_of-same}

-- pairs that are the same at covered ranks make the same classes
module _ (P Q : Pairs) (C : Ranks) (same : (r : ℕ) (p : Path) → has C r ≡ true → is_pair P r p ≡ is_pair Q r p) where
  same_equivalent : (r s : ℕ) → has C r ≡ true → has C s ≡ true → equivalent P r s ≡ equivalent Q r s
  same_equivalent r s hr hs = both_ways _ _
      (λ one. equivalent-from_paths Q r s (λ p. sym (same r p hr) ∙ paths-from_equivalent P r s one p ∙ same s p hs))
      (λ one. equivalent-from_paths P r s (λ p. same r p hr ∙ paths-from_equivalent Q r s one p ∙ sym (same s p hs)))

  any_on : (f g : ℕ → Bool) (xs : List ℕ) → ((x : ℕ) → list_any (eq_by_cmp nat_cmp x) xs ≡ true → f x ≡ g x) → list_any f xs ≡ list_any g xs
  any_on f g [] each = refl
  any_on f g (x ∷ xs) each =
      (λ i. each x (ap (λ b. b || list_any (eq_by_cmp nat_cmp x) xs) (tied_self x)) i || any_on f g xs (λ y one. each y (or_right (eq_by_cmp nat_cmp y x) (list_any (eq_by_cmp nat_cmp y) xs) one)) i)

  in_C : (x : ℕ) → list_any (eq_by_cmp nat_cmp x) (in_order C) ≡ true → has C x ≡ true
  in_C x one = has-in_order C x ∙ one

  paths_agree : (r : ℕ) → has C r ≡ true → paths_of P r ≡ paths_of Q r
  paths_agree r hr = paths_of-same P Q r r (λ p. same r p hr)

  -- so they have the same classes
  pub classes-same_pairs : classes_of P C ≡ classes_of Q C
  unfolding classes_of
  classes-same_pairs =
      ap (map (λ r. let b : Ranks × List Path = (those (equivalent P r) C, paths_of P r) in b)) (filter_on (is_least P C) (is_least Q C) (in_order C) (λ r there.
      ap not (any_on (λ s. ltb s r && equivalent P r s) (λ s. ltb s r && equivalent Q r s) (in_order C) (λ s here. ap (λ b. ltb s r && b) (same_equivalent r s (in_C r there) (in_C s here))))))
      ∙ map_on (λ r. let b : Ranks × List Path = (those (equivalent P r) C, paths_of P r) in b) (λ r. let b : Ranks × List Path = (those (equivalent Q r) C, paths_of Q r) in b) (filter (is_least Q C) (in_order C)) (λ r one.
      let hr = in_C r (kept_in (is_least Q C) (in_order C) r one) in
      (λ i. (same_ranks (those (equivalent P r) C) (those (equivalent Q r) C) (λ q. has-those (equivalent P r) C q ∙ under (has C q) (equivalent P r q) (equivalent Q r q) (λ hq. same_equivalent r q hr hq) ∙ sym (has-those (equivalent Q r) C q)) i, paths_agree r hr i)))
    where
      under : (a b c : Bool) → (a ≡ true → b ≡ c) → (a && b) ≡ (a && c)
      under true b c f = f refl
      under false b c f = refl

-- a tree's own pairs are those that it was made of, at covered ranks
pub own_pairs : (P : Pairs) (C : Ranks) (t : Tree) → HasNoEmptyPath P → t ≡ tree_of P C → (r : ℕ) (p : Path) → has C r ≡ true → is_pair (pairs_of t) r p ≡ is_pair P r p
own_pairs P C t some is r [] hr =
    is_pair-pairs_of t r [] ∙ (IsTreeOf-from_equal P C t is).ends [] r ∙ sym (false_from_ne_true _ (λ one. absurd (Rattle.std.proofs.Math.Nat.lt_irrefl 0 (some r [] one))))
own_pairs P C t some is r (f ∷ p) hr = is_pair-pairs_of t r (f ∷ p) ∙ (IsTreeOf-from_equal P C t is).ends (f ∷ p) r ∙ ap (λ b. b && is_pair P r (f ∷ p)) hr

-- so it has the classes of those pairs
pub classes_of_tree : (P : Pairs) (C : Ranks) (t : Tree) → HasNoEmptyPath P → t ≡ tree_of P C → classes_of (pairs_of t) t.coverage ≡ classes_of P C
classes_of_tree P C t some is = ap (classes_of (pairs_of t)) (ap (λ (u : Tree). u.coverage) is ∙ coverage-tree_of P C) ∙ classes-same_pairs (pairs_of t) P C (own_pairs P C t some is)

-- and the same of some of its covered ranks
pub classes_of_part : (P : Pairs) (C A : Ranks) → HasNoEmptyPath P → IsSubset A C → classes_of (pairs_of (tree_of P C)) A ≡ classes_of P A
classes_of_part P C A some part = classes-same_pairs (pairs_of (tree_of P C)) P A (λ r p hr. own_pairs P C (tree_of P C) some refl r p (part r hr))
