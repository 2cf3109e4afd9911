-- Indices in a list of paths in order stand for the paths.
use Rattle.std.proofs.Common.{◌≡◌, ℕ, zero, suc, ◌<◌, Bool, true, false, cond, List, [], ◌∷◌, length, map, refl, sym, ap, ◌∙◌, inl, inr, arith}
use Rattle.std.specs.List.{AllByRecursion}
use Rattle.std.specs.List.Sorted.{IsStrictlySortedBy}
use Rattle.std.specs.Ordering.{is_eq, nat_cmp, ordering_reverse, ordering_then}
use Rattle.std.specs.declared.cmp.Ordering.TheVariants.{Equal, Greater, Less}
use Rattle.std.specs.Cmp.{nat_cmp_is}
use Rattle.std.specs.Cmp.Lexicographic.{slice_cmp}
use Rattle.std.proofs.lemmas.Bool.{cases_lt}
use Rattle.std.proofs.lemmas.Cmp.{tied_itself}
use Rattle.rank_set.specs.Ranks.{Ranks, union}
use Rattle.call_path.specs.Path.{Path, path_cmp, path_cmp_total}
use Rattle.equiv_class.specs.ClassList.{path_of}
use Rattle.wide_merge.specs.ClassLists.{Block, are_paths}
use Rattle.wide_merge.specs.Joining.{ArePathsInOrder, same_indices, with_block, with_blocks}

-- so many indices are of the list
abbrev pub AllBelow : ℕ → List ℕ → Type 0
AllBelow n is = AllByRecursion (λ i. i < n) is

-- with their paths
abbrev pub to_paths : List (Path × Ranks) → Ranks × List ℕ → Block
to_paths es b = (b.0, map (path_of es) b.1)

at_later : (x : Path) (es : List (Path × Ranks)) (j : ℕ) → j < length es → AllByRecursion (λ y. path_cmp x y ≡ Less) (map (λ e. e.0) es) → path_cmp x (path_of es j) ≡ Less
at_later x [] j lt up = absurd (omega (arith, lt))
at_later x (e ∷ es) zero lt up = up.0
at_later x (e ∷ es) (suc j) lt up = at_later x es j (omega (arith, lt)) up.1

-- a lesser index has the lesser path
less_at : (es : List (Path × Ranks)) (i j : ℕ) → ArePathsInOrder es → i < j → j < length es → path_cmp (path_of es i) (path_of es j) ≡ Less
unfolding IsStrictlySortedBy
less_at [] i j up lt in_es = absurd (omega (arith, in_es))
less_at (e ∷ es) zero zero up lt in_es = absurd (omega (arith, lt))
less_at (e ∷ es) zero (suc j) up lt in_es = at_later e.0 es j (omega (arith, in_es)) up.0
less_at (e ∷ es) (suc i) zero up lt in_es = absurd (omega (arith, lt))
less_at (e ∷ es) (suc i) (suc j) up lt in_es = less_at es i j up.1 (omega (arith, lt)) (omega (arith, in_es))

-- indices stand in the order of their paths
order_at : (es : List (Path × Ranks)) (i j : ℕ) → ArePathsInOrder es → i < length es → j < length es → nat_cmp i j ≡ path_cmp (path_of es i) (path_of es j)
order_at es i j up li lj = elim (cases_lt i j) [
  | inl lt ↦ sym (nat_cmp_is i j Less lt) ∙ sym (less_at es i j up lt lj)
  | inr ge ↦ elim (cases_lt j i) [
    | inl gt ↦ sym (nat_cmp_is i j Greater gt) ∙ sym (path_cmp_total.antisymm (path_of es i) (path_of es j) ∙ ap ordering_reverse (less_at es j i up gt li))
    | inr le ↦
        let e : i ≡ j = omega (arith, ge, le) in
        sym (nat_cmp_is i j Equal e) ∙ sym (tied_itself path_cmp_total (path_of es j)) ∙ ap (λ k. path_cmp (path_of es k) (path_of es j)) (sym e)
  ]
]

-- and so do lists of them
pub list_order : (es : List (Path × Ranks)) (is js : List ℕ) → ArePathsInOrder es → AllBelow (length es) is → AllBelow (length es) js → slice_cmp nat_cmp is js ≡ slice_cmp path_cmp (map (path_of es) is) (map (path_of es) js)
list_order es [] [] up ai aj = refl
list_order es [] (j ∷ js) up ai aj = refl
list_order es (i ∷ is) [] up ai aj = refl
list_order es (i ∷ is) (j ∷ js) up ai aj = (λ k. ordering_then (order_at es i j up ai.0 aj.0 k) (list_order es is js up ai.1 aj.1 k))

same_at : (es : List (Path × Ranks)) (is js : List ℕ) → ArePathsInOrder es → AllBelow (length es) is → AllBelow (length es) js → same_indices is js ≡ are_paths (map (path_of es) is) (map (path_of es) js)
same_at es is js up ai aj = ap is_eq (list_order es is js up ai aj)

-- the indices of each are of the list
abbrev pub HaveBelow : ℕ → List (Ranks × List ℕ) → Type 0
HaveBelow n ks = AllByRecursion (λ k. AllBelow n k.1) ks

below-with_block : (n : ℕ) (ks : List (Ranks × List ℕ)) (k : Ranks × List ℕ) → HaveBelow n ks → AllBelow n k.1 → HaveBelow n (with_block same_indices ks k)
below-with_block n [] k all one = (one, tt)
below-with_block n (l ∷ []) k all one = by (same_indices l.1 k.1)
  where
    by : (b : Bool) → HaveBelow n (cond b ((union l.0 k.0, l.1) ∷ []) (l ∷ k ∷ []))
    by true = (all.0, tt)
    by false = (all.0, (one, tt))
below-with_block n (l ∷ m ∷ ls) k all one = (all.0, below-with_block n (m ∷ ls) k all.1 one)

pub below-with_blocks : (n : ℕ) (done ks : List (Ranks × List ℕ)) → HaveBelow n done → HaveBelow n ks → HaveBelow n (with_blocks same_indices done ks)
below-with_blocks n done [] all more = all
below-with_blocks n done (k ∷ ks) all more = below-with_blocks n (with_block same_indices done k) ks (below-with_block n done k all more.0) more.1

module _ (es : List (Path × Ranks)) (up : ArePathsInOrder es) where
  with_block-paths : (ks : List (Ranks × List ℕ)) (k : Ranks × List ℕ) → HaveBelow (length es) ks → AllBelow (length es) k.1 → map (to_paths es) (with_block same_indices ks k) ≡ with_block are_paths (map (to_paths es) ks) (to_paths es k)
  with_block-paths [] k all one = refl
  with_block-paths (l ∷ []) k all one = by (same_indices l.1 k.1) ∙ ap (λ b. cond b ((union l.0 k.0, map (path_of es) l.1) ∷ []) (to_paths es l ∷ to_paths es k ∷ [])) (same_at es l.1 k.1 up all.0 one)
    where
      by : (b : Bool) → map (to_paths es) (cond b ((union l.0 k.0, l.1) ∷ []) (l ∷ k ∷ [])) ≡ cond b ((union l.0 k.0, map (path_of es) l.1) ∷ []) (to_paths es l ∷ to_paths es k ∷ [])
      by true = refl
      by false = refl
  with_block-paths (l ∷ m ∷ ls) k all one = ap (λ xs. to_paths es l ∷ xs) (with_block-paths (m ∷ ls) k all.1 one)

  pub with_blocks-paths : (done ks : List (Ranks × List ℕ)) → HaveBelow (length es) done → HaveBelow (length es) ks → map (to_paths es) (with_blocks same_indices done ks) ≡ with_blocks are_paths (map (to_paths es) done) (map (to_paths es) ks)
  with_blocks-paths done [] all more = refl
  with_blocks-paths done (k ∷ ks) all more =
      with_blocks-paths (with_block same_indices done k) ks (below-with_block (length es) done k all more.0) more.1
      ∙ ap (λ d. with_blocks are_paths d (map (to_paths es) ks)) (with_block-paths done k all more.0)
