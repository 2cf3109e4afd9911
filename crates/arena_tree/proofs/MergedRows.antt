-- The rows of a merged forest are the rows of united_marks, united.
use Rattle.std.proofs.Common.{◌≡◌, ℕ, suc, ◌+◌, Bool, true, false, true≢false, ◌&&◌, ◌||◌, List, [], ◌∷◌, Option, Some, None, map, refl, sym, ap, ◌∙◌}
use Rattle.std.specs.declared.cmp.Ordering.TheVariants.{Less, Equal, Greater}
use Rattle.std.specs.Ordering.{eq_by_cmp}
use Rattle.std.specs.FinMap as finmap
use Rattle.std.proofs.lemmas.List.Folds.{list_any-append}
use Rattle.rank_set.specs.Ranks.{same_ranks}
use Rattle.call_path.specs.Path.{Path, path_cmp, is_path, path_cmp_total, path_cmp_exact}
use Rattle.prefix_tree.specs.Tree.{Marks}
use Rattle.prefix_tree.specs.Joined.{below_frame, insert_rows, in_rows, if_some, seen, labelled, ended}
use Rattle.prefix_tree.specs.Owned.{by_order}
use Rattle.prefix_tree.proofs.Rows.{Spreads, labelled_spreads, ended_spreads, seen-insert_rows, in_rows-entries}
use Rattle.prefix_tree.proofs.PairLemmas.{in_rows-under, no_root}
use Rattle.arena_tree.specs.RowForest.{RowForest, no_rows, row_node, frame_cmp, size, forest_rows, HasIncreasingRows}
use Rattle.arena_tree.specs.RowMerge.{united_marks, count_new, merge_rows}
use Rattle.arena_tree.proofs.Orders.{frame_exact, ordered-merge_rows, rows_sorted}

first_too : (h u r s : Bool) → (h || (u || (r || s))) ≡ (r || (h || (u || s)))
first_too true u true s = refl
first_too true u false s = refl
first_too false true true s = refl
first_too false true false s = refl
first_too false false r s = refl

each_with_each : (i hm hw ub uc rs rt : Bool) → ((i && (hm || hw)) || ((ub || uc) || (rs || rt))) ≡ (((i && hm) || (ub || rs)) || ((i && hw) || (uc || rt)))
each_with_each true true hw ub uc rs rt = refl
each_with_each true false true true uc rs rt = refl
each_with_each true false true false uc true rt = refl
each_with_each true false true false uc false rt = refl
each_with_each true false false true uc rs rt = refl
each_with_each true false false false true true rt = refl
each_with_each true false false false true false rt = refl
each_with_each true false false false false rs rt = refl
each_with_each false hm hw true uc rs rt = refl
each_with_each false hm hw false true true rt = refl
each_with_each false hm hw false true false rt = refl
each_with_each false hm hw false false rs rt = refl

at_the_end : (h u r s : Bool) → (h || (u || (r || s))) ≡ ((h || (u || r)) || s)
at_the_end true u r s = refl
at_the_end false true r s = refl
at_the_end false false r s = refl

module _ (test : Marks → Bool) (spreads : Spreads test) where
  abbrev R : RowForest → Path → Bool
  R k p = in_rows test (forest_rows k) p

  abbrev U : List ℕ → RowForest → Path → Bool
  U f b p = in_rows test (map (below_frame f) (forest_rows b)) p

  -- a node, what lies under it, and what comes later
  parts : (a : ℕ) (f : List ℕ) (m : Marks) (b s : RowForest) (p : Path) → R (row_node a f m b s) p ≡ ((is_path p (f ∷ []) && test m) || (U f b p || R s p))
  parts a f m b s p = ap (λ x. (is_path p (f ∷ []) && test m) || x) (list_any-append (λ (e : Path × Marks). is_path p e.0 && test e.1) (map (below_frame f) (forest_rows b)) (forest_rows s))

  spread : (i x y : Bool) → (i && (x || y)) ≡ ((i && x) || (i && y))
  spread true x y = refl
  spread false x y = refl

  under : (f : List ℕ) (b c d : RowForest) → ((p : Path) → R d p ≡ (R b p || R c p)) → (p : Path) → U f d p ≡ (U f b p || U f c p)
  under f b c d is [] = no_root test f (forest_rows d) ∙ sym (λ i. no_root test f (forest_rows b) i || no_root test f (forest_rows c) i)
  under f b c d is (g ∷ q) =
      in_rows-under test f g q (forest_rows d) ∙ ap (λ x. eq_by_cmp frame_cmp g f && x) (is q) ∙ spread (eq_by_cmp frame_cmp g f) (R b q) (R c q)
      ∙ sym (λ i. in_rows-under test f g q (forest_rows b) i || in_rows-under test f g q (forest_rows c) i)

  new_rows : (n : ℕ) (g : List ℕ) (w : Marks) (c t k c' t' : RowForest) (x : ℕ) → ((p : Path) → R c' p ≡ R c p) → ((p : Path) → R t' p ≡ (R k p || R t p)) → (p : Path) → R (row_node n g w c' t') p ≡ (R k p || R (row_node x g w c t) p)
  new_rows n g w c t k c' t' x at_c at_t p =
      parts n g w c' t' p ∙ (λ i. (is_path p (g ∷ []) && test w) || (under g no_rows c c' at_c p i || at_t p i))
      ∙ first_too (is_path p (g ∷ []) && test w) (U g c p) (R k p) (R t p)
      ∙ ap (λ y. R k p || y) (sym (parts x g w c t p))

  unites : (n : ℕ) (k o : RowForest) (p : Path) → R (merge_rows n k o) p ≡ (R k p || R o p)
  unites n no_rows no_rows p = refl
  unites n (row_node a f m b s) no_rows p = no_more (R (row_node a f m b s) p)
    where
      no_more : (y : Bool) → y ≡ (y || false)
      no_more true = refl
      no_more false = refl
  unites n no_rows (row_node x g w c t) p = new_rows n g w c t no_rows (merge_rows (suc n) no_rows c) (merge_rows (suc n + size c) no_rows t) x (unites (suc n) no_rows c) (unites (suc n + size c) no_rows t) p
  unites n (row_node a f m b s) (row_node x g w c t) p =
      let new = new_rows n g w c t (row_node a f m b s) (merge_rows (suc n) no_rows c) (merge_rows (suc n + size c) (row_node a f m b s) t) x (unites (suc n) no_rows c) (unites (suc n + size c) (row_node a f m b s) t) p in
      let same_b = unites n b c in
      let same_s = unites (n + count_new b c) s t p in
      let pass = unites n s (row_node x g w c t) p in
      elim (frame_cmp g f) as (λ r. frame_cmp g f ≡ r → R (by_order r (row_node n g w (merge_rows (suc n) no_rows c) (merge_rows (suc n + size c) (row_node a f m b s) t)) (row_node a f (united_marks m w) (merge_rows n b c) (merge_rows (n + count_new b c) s t)) (row_node a f m b (merge_rows n s (row_node x g w c t)))) p ≡ (R (row_node a f m b s) p || R (row_node x g w c t) p)) [
        | Less ↦ λ e. new
        | Equal ↦ λ e.
            let one : f ≡ g = sym (frame_exact g f e) in
            parts a f (united_marks m w) (merge_rows n b c) (merge_rows (n + count_new b c) s t) p
            ∙ (λ i. (is_path p (f ∷ []) && spreads m w i) || (under f b c (merge_rows n b c) same_b p i || same_s i))
            ∙ each_with_each (is_path p (f ∷ [])) (test m) (test w) (U f b p) (U f c p) (R s p) (R t p)
            ∙ ap (λ h. ((is_path p (f ∷ []) && test m) || (U f b p || R s p)) || ((is_path p (h ∷ []) && test w) || (U h c p || R t p))) one
            ∙ sym (λ i. parts a f m b s p i || parts x g w c t p i)
        | Greater ↦ λ e.
            parts a f m b (merge_rows n s (row_node x g w c t)) p
            ∙ ap (λ y. (is_path p (f ∷ []) && test m) || (U f b p || y)) pass
            ∙ at_the_end (is_path p (f ∷ []) && test m) (U f b p) (R s p) (R (row_node x g w c t) p)
            ∙ ap (λ y. y || R (row_node x g w c t) p) (sym (parts a f m b s p))
      ] refl

-- rows are the same where they have the same members
abbrev any_marks : Marks → Bool
any_marks m = true

every_spreads : Spreads any_marks
every_spreads a b = refl

same_options : (x y : Option Marks) → ((r : ℕ) → if_some (labelled r) x ≡ if_some (labelled r) y) → ((r : ℕ) → if_some (ended r) x ≡ if_some (ended r) y) → if_some any_marks x ≡ if_some any_marks y → x ≡ y
same_options None None l e a = refl
same_options None (Some m) l e a = absurd (true≢false (sym a))
same_options (Some m) None l e a = absurd (true≢false a)
same_options (Some m) (Some w) l e a = let labels = same_ranks m.0 w.0 l in let ends = same_ranks m.1 w.1 e in λ i. Some (labels i, ends i)

module _ (n : ℕ) (k o : RowForest) (up : HasIncreasingRows k) (vp : HasIncreasingRows o) where
  seen_both : (test : Marks → Bool) → Spreads test → (p : Path) → seen test (finmap.from_sorted {R = path_cmp} (forest_rows (merge_rows n k o))) p ≡ seen test (insert_rows (finmap.from_sorted (forest_rows k)) (forest_rows o)) p
  seen_both test spreads p =
      seen_in (merge_rows n k o) (ordered-merge_rows n k o up vp)
      ∙ unites test spreads n k o p
      ∙ ap (λ y. y || in_rows test (forest_rows o) p) (sym (seen_in k up))
      ∙ sym (seen-insert_rows test spreads (finmap.from_sorted (forest_rows k)) (forest_rows o) p)
    where
      seen_in : (j : RowForest) → HasIncreasingRows j → seen test (finmap.from_sorted {R = path_cmp} (forest_rows j)) p ≡ in_rows test (forest_rows j) p
      seen_in j jp = sym (in_rows-entries test (finmap.from_sorted {R = path_cmp} (forest_rows j)) p) ∙ ap (λ es. in_rows test es p) (finmap.entries-from_sorted path_cmp (forest_rows j) (rows_sorted j jp))

  pub rows_united : finmap.from_sorted {R = path_cmp} (forest_rows (merge_rows n k o)) ≡ insert_rows (finmap.from_sorted (forest_rows k)) (forest_rows o)
  rows_united = finmap.same_map path_cmp_total path_cmp_exact _ _ (λ p. same_options _ _ (λ r. seen_both (labelled r) (labelled_spreads r) p) (λ r. seen_both (ended r) (ended_spreads r) p) (seen_both any_marks every_spreads p))
