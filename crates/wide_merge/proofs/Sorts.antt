-- Classes that are sorted by their paths, united, and sorted by their least ranks.
use Rattle.std.proofs.Common.{◌≡◌, ℕ, ◌≤◌, ◌<◌, List, [], ◌∷◌, ◌++◌, get_or, length, false, map, refl, sym, ap, subst, ◌∙◌, zero, suc, arith}
use Rattle.std.specs.Ordering.{is_lt, nat_cmp}
use Rattle.std.specs.List.Sorted.{IsPermutation, IsSortedBy, IsSortedByKey}
use Rattle.std.specs.Cmp.Lexicographic.{slice_cmp}
use Rattle.std.proofs.lemmas.Cmp.{nat_list_cmp_total}
use Rattle.std.proofs.lemmas.List.{get_or-map, length-map, map-append}
use Rattle.std.proofs.lemmas.List.Elements.{All-from_recursion, recursion_from_All}
use Rattle.std.proofs.lemmas.List.MinMax.{ranks_by}
use Rattle.std.proofs.lemmas.List.Sorted.{All-permutation, IsNonDecreasingBy-from_sort, IsPermutation-map, sorted_far}
use Rattle.rank_set.specs.Ranks.{Ranks, in_order, union}
use Rattle.call_path.specs.Path.{Path}
use Rattle.call_path.specs.Pairs.{Pairs}
use Rattle.equiv_class.specs.ClassList.{HaveIndices, class_view, class_views}
use Rattle.equiv_class.specs.declared.Class.{Class}
use Rattle.wide_merge.specs.ClassLists.{Block, are_paths, least}
use Rattle.wide_merge.specs.Joining.{AreClassesOver, ArePathsInOrder, index_views, same_indices, with_blocks}
use Rattle.wide_merge.proofs.Indices.{AllBelow, HaveBelow, below-with_blocks, list_order, to_paths, with_blocks-paths}
use Rattle.wide_merge.proofs.Uniting.{block_cmp, united}

-- ---- classes, and what they list

views_are : (es : List (Path × Ranks)) (cs : List Class) → class_views es cs ≡ map (to_paths es) (index_views cs)
views_are es [] = refl
views_are es (c ∷ cs) = ap (λ ks. class_view es c ∷ ks) (views_are es cs)

have_below : (n : ℕ) (cs : List Class) → HaveIndices n cs → HaveBelow n (index_views cs)
have_below n [] h = tt
have_below n (c ∷ cs) h = (h.0, have_below n cs h.1)

have_indices : (n : ℕ) (cs : List Class) → HaveBelow n (index_views cs) → HaveIndices n cs
have_indices n [] h = tt
have_indices n (c ∷ cs) h = (h.0, have_indices n cs h.1)

indices_both : (n : ℕ) (cs ds : List Class) → HaveIndices n cs → HaveIndices n ds → HaveIndices n (cs ++ ds)
indices_both n [] ds one two = two
indices_both n (c ∷ cs) ds one two = (one.0, indices_both n cs ds one.1 two)

indices_moved : (n : ℕ) (cs ds : List Class) → IsPermutation cs ds → HaveIndices n cs → HaveIndices n ds
indices_moved n cs ds moved h =
    let each = λ (k : Class). AllBelow n k.paths.items in
    recursion_from_All each ds (All-permutation each cs ds moved (All-from_recursion each cs h))

indices_at : (n : ℕ) (cs : List Class) (i : ℕ) (d : Class) → i < length cs → HaveIndices n cs → AllBelow n (get_or cs i d).paths.items
indices_at n [] i d lt h = absurd (omega (arith, lt))
indices_at n (c ∷ cs) zero d lt h = h.0
indices_at n (c ∷ cs) (suc i) d lt h = indices_at n cs i d (omega (arith, lt)) h.1

-- ---- the two sorts

-- a class of a list, as a block of the list of blocks
at_view : (es : List (Path × Ranks)) (cs : List Class) (i : ℕ) (d : Block) (x : Class) → i < length cs → get_or (class_views es cs) i d ≡ class_view es (get_or cs i x)
at_view es cs i d x lt = get_or-map (class_view es) cs i x d lt

module _ (es : List (Path × Ranks)) (cs : List Class) where
  some_class : (i : ℕ) → i < length cs → Class
  some_class i lt = at cs lt
    where
      at : (ds : List Class) → i < length ds → Class
      at [] lt = absurd (omega (arith, lt))
      at (x ∷ ds) lt = x

  views_by_paths : ArePathsInOrder es → HaveIndices (length es) cs → IsSortedBy (λ a b. is_lt (slice_cmp nat_cmp a.paths.items b.paths.items)) cs
      → (i j : ℕ) (d : Block) → i ≤ j → j < length (class_views es cs) → is_lt (block_cmp (get_or (class_views es cs) j d) (get_or (class_views es cs) i d)) ≡ false
  views_by_paths up have sorted i j d le lt =
      let lj : j < length cs = omega (arith, lt, length-map cs (class_view es)) in
      let li : i < length cs = omega (arith, le, lj) in
      let x : Class = some_class j lj in
      (λ k. is_lt (block_cmp (at_view es cs j d x lj k) (at_view es cs i d x li k)))
      ∙ ap is_lt (sym (list_order es (get_or cs j x).paths.items (get_or cs i x).paths.items up (indices_at (length es) cs j x lj have) (indices_at (length es) cs i x li have)))
      ∙ sorted_far (λ a b. is_lt (slice_cmp nat_cmp a.paths.items b.paths.items)) (ranks_by nat_list_cmp_total (λ (k : Class). k.paths.items)) cs sorted i j x le lj

  views_by_least : IsSortedByKey (λ k. get_or (in_order k.ranks) 0 0) nat_cmp cs → (i j : ℕ) (d : Block) → i ≤ j → j < length (class_views es cs) → least (get_or (class_views es cs) i d) ≤ least (get_or (class_views es cs) j d)
  views_by_least sorted i j d le lt =
      let lj : j < length cs = omega (arith, lt, length-map cs (class_view es)) in
      let x : Class = some_class j lj in
      let here = IsNonDecreasingBy-from_sort (λ (k : Class). get_or (in_order k.ranks) 0 0) cs sorted i j x le lj in
      omega (arith, ap least (at_view es cs j d x lj), ap least (at_view es cs i d x (omega (arith, le, lj))), here)

-- ---- both

-- classes over two sets: appended, sorted by their paths, neighbours of the same paths united, and sorted by their least ranks
pub united_classes : (es : List (Path × Ranks)) (P : Pairs) (A B : Ranks) (one other both sorted all ordered : List Class) → ArePathsInOrder es → AreClassesOver es P A one → AreClassesOver es P B other
    → both ≡ one ++ other → IsPermutation both sorted → IsSortedBy (λ a b. is_lt (slice_cmp nat_cmp a.paths.items b.paths.items)) sorted
    → index_views all ≡ with_blocks same_indices [] (index_views sorted) → IsPermutation all ordered → IsSortedByKey (λ k. get_or (in_order k.ranks) 0 0) nat_cmp ordered → AreClassesOver es P (union A B) ordered
united_classes es P A B one other both sorted all ordered up is_one is_other is_both moved by_paths is_all moved_back by_least =
    let n : ℕ = length es in
    let in_sorted : HaveIndices n sorted = indices_moved n both sorted moved (subst (HaveIndices n) (sym is_both) (indices_both n one other is_one.indices is_other.indices)) in
    let below : HaveBelow n (index_views sorted) = have_below n sorted in_sorted in
    let in_all : HaveIndices n all = have_indices n all (subst (HaveBelow n) (sym is_all) (below-with_blocks n [] (index_views sorted) tt below)) in
    let views : class_views es all ≡ with_blocks are_paths [] (class_views es sorted) =
    views_are es all ∙ ap (map (to_paths es)) is_all ∙ with_blocks-paths es up [] (index_views sorted) tt below ∙ ap (with_blocks are_paths []) (sym (views_are es sorted)) in
    record {
      indices = indices_moved n all ordered moved_back in_all;
      classes =
          united P A B (class_views es one) (class_views es other) (class_views es sorted) (class_views es ordered) is_one.classes is_other.classes
          (subst (λ ks. IsPermutation ks (class_views es sorted)) (ap (class_views es) is_both ∙ map-append (class_view es) one other) (IsPermutation-map (class_view es) both sorted moved))
          (views_by_paths es sorted up in_sorted by_paths)
          (subst (λ ks. IsPermutation ks (class_views es ordered)) views (IsPermutation-map (class_view es) all ordered moved_back))
          (views_by_least es ordered by_least);
    }
