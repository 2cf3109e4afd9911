-- The classes part the covered ranks, and each has the paths of its ranks.
use Rattle.std.proofs.Common.{◌≡◌, ℕ, zero, suc, ◌<◌, Bool, true, false, cond, not, ◌&&◌, List, [], ◌∷◌, Some, refl, sym, ap, ◌∙◌, subst, arith}
use Rattle.std.specs.List.{list_any, slice_get}
use Rattle.std.specs.Ordering.{nat_cmp, eq_by_cmp}
use Rattle.std.proofs.lemmas.Bool.{and_parts}
use Rattle.rank_set.specs.Ranks.{Ranks, has, in_order, size, those, has-in_order, has-those}
use Rattle.call_path.specs.Pairs.{Pairs}
use Rattle.equiv_class.specs.Classes.{HaveOwnPaths, equivalent, classes_of, classes_with, paths_of}
use Rattle.equiv_class.proofs.Equivalent.{paths-from_equivalent}
use Rattle.equiv_class.proofs.Blocks.{equivalent_itself, classes_none, fewer_without, next_class}
use Rattle.equiv_class.proofs.PathsInOrder.{paths_of-same}

-- a rank stands in one class where it is covered, and else in none
pub classes_with-classes_of : (P : Pairs) (C : Ranks) (r : ℕ) → classes_with r (classes_of P C) ≡ cond (has C r) 1 0
classes_with-classes_of P C r = go (suc (size C)) C (omega arith)
  where
    count : (h a : Bool) (k : ℕ) → k ≡ cond (h && not a) 1 0 → cond (h && a) (suc k) k ≡ cond h 1 0
    count true true k e = ap suc e
    count true false k e = e
    count false a k e = e

    go : (n : ℕ) (C : Ranks) → size C < n → classes_with r (classes_of P C) ≡ cond (has C r) 1 0
    go zero C lt = absurd (omega (arith, lt))
    go (suc n) C lt = by_first (go n) (in_order C) refl
      where
        by_first : ((D : Ranks) → size D < n → classes_with r (classes_of P D) ≡ cond (has D r) 1 0) → (xs : List ℕ) → in_order C ≡ xs → classes_with r (classes_of P C) ≡ cond (has C r) 1 0
        by_first smaller [] is = ap (classes_with r) (classes_none P C is) ∙ sym (ap (λ b. cond b 1 0) (has-in_order C r ∙ ap (list_any (eq_by_cmp nat_cmp r)) is))
        by_first smaller (x ∷ xs) is =
            let least : slice_get (in_order C) 0 ≡ Some x = ap (λ ys. slice_get ys 0) is in
            let left : Ranks = those (λ s. not (equivalent P x s)) C in
            let fewer : size left < size C = fewer_without (equivalent P x) C x least (equivalent_itself P x) in
            ap (classes_with r) (next_class P C x least)
            ∙ ap (λ b. cond b (suc (classes_with r (classes_of P left))) (classes_with r (classes_of P left))) (has-those (equivalent P x) C r)
            ∙ count (has C r) (equivalent P x r) (classes_with r (classes_of P left)) (smaller left (omega (arith, lt, fewer)) ∙ ap (λ b. cond b 1 0) (has-those (λ s. not (equivalent P x s)) C r))

-- the paths of each class are those of each of its ranks
pub classes_have_own_paths : (P : Pairs) (C : Ranks) → HaveOwnPaths P (classes_of P C)
classes_have_own_paths P C = go (suc (size C)) C (omega arith)
  where
    go : (n : ℕ) (C : Ranks) → size C < n → HaveOwnPaths P (classes_of P C)
    go zero C lt = absurd (omega (arith, lt))
    go (suc n) C lt = by_first (go n) (in_order C) refl
      where
        by_first : ((D : Ranks) → size D < n → HaveOwnPaths P (classes_of P D)) → (xs : List ℕ) → in_order C ≡ xs → HaveOwnPaths P (classes_of P C)
        by_first smaller [] is = subst (HaveOwnPaths P) (sym (classes_none P C is)) tt
        by_first smaller (x ∷ xs) is =
            let least : slice_get (in_order C) 0 ≡ Some x = ap (λ ys. slice_get ys 0) is in
            let left : Ranks = those (λ s. not (equivalent P x s)) C in
            let fewer : size left < size C = fewer_without (equivalent P x) C x least (equivalent_itself P x) in
            let own : (r : ℕ) → has (those (equivalent P x) C) r ≡ true → paths_of P x ≡ paths_of P r = λ r there.
            paths_of-same P P x r (paths-from_equivalent P x r ((and_parts (has C r) (equivalent P x r) (sym (has-those (equivalent P x) C r) ∙ there)).1)) in
            subst (HaveOwnPaths P) (sym (next_class P C x least)) (own, smaller left (omega (arith, lt, fewer)))
