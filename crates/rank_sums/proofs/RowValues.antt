-- What the rows of a tree count for, one after another.
use Rattle.std.proofs.Common.{◌≡◌, inl, inr, ℕ, zero, suc, ◌<◌, ◌≤◌, ◌*◌, ◌+◌, ◌-◌, ◌^◌, List, [], ◌∷◌, ap, refl, sym, ◌∙◌, subst, Option, Some, arith, length, drop, mul-le-mul}
use Rattle.std.proofs.Math.IntN.{ℤ, pos, neg_ℤ}
use lib.Signed.{mag}
use Rattle.std.specs.Prelude.{slice_get, IfSome}
use Rattle.std.specs.Fmt.{signed_decimal}
use Rattle.std.specs.FinMap as finmap
use Rattle.std.proofs.lemmas.List.{drop_all}
use Rattle.rank_set.specs.Ranks.{size, in_order}
use Rattle.call_path.specs.Path.{Path}
use Rattle.prefix_tree.specs.declared.Row.{Row}
use Rattle.prefix_tree.specs.Shown.{Shows}
use Rattle.prefix_tree.specs.Tree.{Marks, Tree, rows_of, frame_of}
use Rattle.overlay_setup.specs.NodeSets.{In}
use Rattle.rank_sums.specs.declared.fold.Fold.{Fold}
use Rattle.rank_sums.specs.Folds.{IsWithin, joined, total, times}
use Rattle.rank_sums.specs.PartTrees.{number_at, row_total, tree_total, IsNumberRow, IsNumberText, SaysNumbers}
use Rattle.rank_sums.proofs.Totals.{joined-assoc, joined-none}
use Rattle.rank_sums.proofs.Times.{times_is}
use Rattle.rank_sums.proofs.NumberTexts.{text_value}
use Rattle.rank_sums.proofs.Small.{Within, IsAtMost, from_order, joined_within, to_order, total_within, within_more}

-- a row that is shown
pub record IsRow (t : Tree) (i : ℕ) (row : Row) : Type 0 where
  pub entry : Path × Marks
  pub here : drop i (finmap.entries t.below) ≡ entry ∷ drop (suc i) (finmap.entries t.below)
  pub there : In entry (finmap.entries t.below)
  pub shows : Shows row entry

shown : (row : Row) (es : List (Path × Marks)) (k : ℕ) → k < length es → IfSome (slice_get es k) (Shows row) → (e : Path × Marks) × ((drop k es ≡ e ∷ drop (suc k) es) × In e es × Shows row e)
shown row [] k lt h = absurd (omega arith)
shown row (e ∷ es) zero lt h = (e, (refl, inl refl, h))
shown row (e ∷ es) (suc k) lt h = let r = shown row es k (omega (arith, lt)) h in (r.0, (r.1.0, inr r.1.1, r.1.2))

row_at : (t : Tree) (k : ℕ) (row : Row) → suc k < length (rows_of t) → IfSome (slice_get (rows_of t) (suc k)) (Shows row) → IsRow t k row
row_at t k row lt h =
    let r = shown row (finmap.entries t.below) k (omega (arith, lt)) h in
    record { entry = r.0; here = r.1.0; there = r.1.1; shows = r.1.2 }

pub row_is : (t : Tree) (i : ℕ) (row : Row) → 1 ≤ i → i < length (rows_of t) → IfSome (slice_get (rows_of t) i) (Shows row) → IsRow t (i - 1) row
row_is t i row some lt h =
    let e : i ≡ suc (i - 1) = omega (arith, some) in
    row_at t (i - 1) row (omega (arith, lt, some)) (subst (λ k. IfSome (slice_get (rows_of t) k) (Shows row)) e h)

-- its frame is a number's text
pub frame_is : (f : Fold) (t : Tree) (i : ℕ) (row : Row) → SaysNumbers f t → IsRow t i row → IsNumberText row.frame.now
frame_is f t i row says r =
    let e = says.rows r.entry r.there in
    record { number = e.number; fits = e.fits; writes = r.shows.frame ∙ ap frame_of e.path }

-- and what is read of it is what the row counts for
pub value_is : (f : Fold) (t : Tree) (i : ℕ) (row : Row) (count : ℕ) (part : Option ℤ) → SaysNumbers f t → (r : IsRow t i row) → count ≡ size row.ends.now
    → ((z : ℤ) → mag z < 2 ^ 63 → row.frame.now ≡ signed_decimal z → part ≡ times f z count) → part ≡ row_total f r.entry
value_is f t i row count part says r is gives =
    let e = says.rows r.entry r.there in
    gives e.number e.fits (r.shows.frame ∙ ap frame_of e.path)
    ∙ ap (times f e.number) (is ∙ ap size r.shows.ends)
    ∙ sym (times_is f e.number (in_order r.entry.1.1))
    ∙ ap (λ o. total f (λ r. o) (in_order r.entry.1.1)) (sym (ap number_at e.path ∙ ap Some (text_value e.number e.fits)))

-- it is small
pub part_within : (f : Fold) (t : Tree) (i : ℕ) (row : Row) (count : ℕ) (part : Option ℤ) → SaysNumbers f t → (r : IsRow t i row) → count ≡ size row.ends.now → count ≤ 1048576
    → part ≡ row_total f r.entry → IsWithin (2 ^ 84) part
part_within f t i row count part says r is few e =
    let k = total_within f (λ r0. number_at r.entry.0) (2 ^ 63) (in_order r.entry.1.1) (λ x. number_within r.entry (says.rows r.entry r.there)) in
    let n : size r.entry.1.1 ≤ 1048576 = omega (arith, few, is, ap size r.shows.ends) in
    let one : 2 ^ 63 ≤ 2 ^ 63 = omega arith in
    let m : size r.entry.1.1 * 2 ^ 63 ≤ 1048576 * 2 ^ 63 = mul-le-mul n one in
    subst (IsWithin (2 ^ 84)) (sym e) (within_more (size r.entry.1.1 * 2 ^ 63) (2 ^ 84) (row_total f r.entry) (omega (arith, m)) (to_order (size r.entry.1.1 * 2 ^ 63) (row_total f r.entry) k))
  where
    number_within : (e : Path × Marks) → IsNumberRow e → IsAtMost (2 ^ 63) (number_at e.0)
    number_within e h z is =
        let n : h.number ≡ z = same (sym (ap Some (text_value h.number h.fits)) ∙ sym (ap number_at h.path) ∙ is) in
        bound z (subst (λ x. mag x < 2 ^ 63) n h.fits)
      where
        same : {a b : ℤ} → ◌≡◌ {A = Option ℤ} (Some a) (Some b) → a ≡ b
        same e = cc

        bound : (z : ℤ) → mag z < 2 ^ 63 → Within (2 ^ 63) z
        bound (pos n) lt = (omega (arith, lt), omega (arith, lt))
        bound (Rattle.std.proofs.Math.IntN.negsuc n) lt = (omega (arith, lt), omega (arith, lt))

-- one row more
pub step_is : (f : Fold) (t : Tree) (i : ℕ) (row : Row) (value part new : Option ℤ) → (r : IsRow t i row) → part ≡ row_total f r.entry → new ≡ joined f value part
    → joined f value (total f (row_total f) (drop i (finmap.entries t.below))) ≡ tree_total f t → joined f new (total f (row_total f) (drop (suc i) (finmap.entries t.below))) ≡ tree_total f t
step_is f t i row value part new r e is h =
    let rest : Option ℤ = total f (row_total f) (drop (suc i) (finmap.entries t.below)) in
    ap (λ x. joined f x rest) (is ∙ ap (joined f value) e)
    ∙ joined-assoc f value (row_total f r.entry) rest
    ∙ ap (joined f value) (sym (ap (total f (row_total f)) r.here))
    ∙ h

pub joined_bound : (f : Fold) (a b new : Option ℤ) (m n : ℕ) → IsWithin m a → IsWithin n b → new ≡ joined f a b → IsWithin (m + n) new
joined_bound f a b new m n ha hb is = subst (IsWithin (m + n)) (sym is) (to_order (m + n) (joined f a b) (joined_within f a b m n (from_order m a ha) (from_order n b hb)))

-- where no row is left, this is what the tree counts for
pub all_read : (f : Fold) (t : Tree) (at : ℕ) (value : Option ℤ) → 1 ≤ at → length (rows_of t) ≤ at
    → joined f value (total f (row_total f) (drop (at - 1) (finmap.entries t.below))) ≡ tree_total f t → value ≡ tree_total f t
all_read f t at value some past h =
    let none_left : length (finmap.entries t.below) ≤ at - 1 = omega (arith, some, past) in
    sym (ap (λ es. joined f value (total f (row_total f) es)) (drop_all (at - 1) (finmap.entries t.below) none_left) ∙ joined-none f value) ∙ h
