-- Edits of a list of rows, as edits of its entries.
use Rattle.std.proofs.Common.{◌≡◌, ℕ, ◌+◌, ◌-◌, ◌<◌, ◌≤◌, Bool, true, false, cond, ◌&&◌, List, [], ◌∷◌, ◌++◌, Some, None, Result, Ok, Err, map, refl, sym, ap, ◌∙◌, subst, T, length, get_or, set, take, drop, arith, zero, suc}
use Rattle.std.specs.List.{insert}
use Rattle.std.specs.Ordering.{is_eq, is_lt}
use Rattle.std.specs.declared.cmp.Ordering.{Ordering}
use Rattle.std.specs.declared.cmp.Ordering.TheVariants.{Less, Equal, Greater}
use Rattle.std.specs.FinMap as finmap
use Rattle.std.proofs.lemmas.List.{map-append, map-set, take_more, take-map, drop-map, get_or-map}
use Rattle.rank_set.specs.Ranks.{Ranks, none}
use Rattle.call_path.specs.Path.{Path, path_cmp, path_cmp_total, path_cmp_exact}
use Rattle.prefix_tree.specs.Tree.{Marks}
use Rattle.prefix_tree.specs.Joined.{path_rows, below_frame}
use Rattle.prefix_tree.specs.declared.owned.TreeRow.{TreeRow}
use Rattle.prefix_tree.specs.Owned.{by_order, next_place, place_of, entry_of, entries_view, below_in, HasIncreasingPaths}

-- one more element that shows the same
pub map_push_more : {A B : Type 0} (f : A → B) (done xs : List A) (i : ℕ) (x y : A) → i < length xs → y ≡ get_or xs i y → f x ≡ f y → map f done ≡ map f (take i xs) → map f (done ++ x ∷ []) ≡ map f (take (i + 1) xs)
map_push_more f done xs i x y lt is same so_far =
    map-append f done (x ∷ []) ∙ (λ k. so_far k ++ same k ∷ []) ∙ ap (λ z. map f (take i xs) ++ f z ∷ []) is
    ∙ sym (map-append f (take i xs) (get_or xs i y ∷ [])) ∙ ap (map f) (sym (take_more xs i y lt))

-- what a list with one more element shows
pub map-insert : {A B : Type 0} (f : A → B) (xs : List A) (i : ℕ) (x : A) → map f (insert xs i x) ≡ insert (map f xs) i (f x)
map-insert f xs i x = map-append f (take i xs) (x ∷ drop i xs) ∙ (λ k. sym (take-map f i xs) k ++ f x ∷ sym (drop-map f i xs) k)

-- what stands at the place of a path, and what new marks there make of the list
module _ (p : Path) (w : Marks) (d : Path × Marks) where
  -- the path stands at place i, and new marks there are an edit of that place
  pub record IsPresentAt (es : List (Path × Marks)) (i : ℕ) : Type 0 where
    pub inside : i < length es
    pub new : finmap.put path_cmp p w es ≡ set es i ((get_or es i d).0, w)
    pub found : finmap.find path_cmp p es ≡ Some (get_or es i d).1
    pub same : (get_or es i d).0 ≡ p

  -- the path stands nowhere, and goes to place i
  pub record IsAbsentAt (es : List (Path × Marks)) (i : ℕ) : Type 0 where
    pub inside : i ≤ length es
    pub new : finmap.put path_cmp p w es ≡ insert es i (p, w)
    pub missing : T (finmap.is_sorted path_cmp es) → finmap.find path_cmp p es ≡ None

  -- what a place says of the list
  abbrev pub IsPlace : List (Path × Marks) → Result ℕ ℕ → Type 0
  IsPlace es (Ok i) = IsPresentAt es i
  IsPlace es (Err i) = IsAbsentAt es i

  first : (a b : Bool) → T (a && b) → T a
  first true b h = tt
  first false b h = absurd h

  second : (a b : Bool) → T (a && b) → T b
  second true b h = h
  second false b h = absurd h

  less : (o : Ordering) → T (is_lt o) → o ≡ Less
  less Less h = refl
  less Equal h = absurd h
  less Greater h = absurd h

  missing_from : (e : Path × Marks) (es : List (Path × Marks)) → path_cmp p e.0 ≡ Less → T (finmap.is_sorted path_cmp (e ∷ es)) → finmap.find path_cmp p (e ∷ es) ≡ None
  missing_from e [] k up = ap (λ o. cond (is_eq o) (Some e.1) None) k
  missing_from e (f ∷ es) k up =
      ap (λ o. cond (is_eq o) (Some e.1) (finmap.find path_cmp p (f ∷ es))) k
      ∙ missing_from f es (path_cmp_total.trans p e.0 f.0 k (less _ (first _ _ (first _ _ up)))) (second _ _ up)

  module _ (e : Path × Marks) (es : List (Path × Marks)) (k : path_cmp p e.0 ≡ Greater) where
    new_later : finmap.put path_cmp p w (e ∷ es) ≡ e ∷ finmap.put path_cmp p w es
    new_later = rw k

    find_later : finmap.find path_cmp p (e ∷ es) ≡ finmap.find path_cmp p es
    find_later = rw k

    later : (r : Result ℕ ℕ) → IsPlace es r → IsPlace (e ∷ es) (next_place r)
    later (Ok i) h = record { inside = omega (arith, h.inside); new = new_later ∙ ap (λ fs. e ∷ fs) h.new; found = find_later ∙ h.found; same = h.same }
    later (Err i) h = record { inside = omega (arith, h.inside); new = new_later ∙ ap (λ fs. e ∷ fs) h.new; missing = λ up. find_later ∙ h.missing (second _ _ up) }

  -- the place of a path says so
  pub at_place : (es : List (Path × Marks)) → IsPlace es (place_of p es)
  at_place [] = record { inside = omega arith; new = refl; missing = λ up. refl }
  at_place (e ∷ es) =
      elim (path_cmp p e.0) as (λ o. path_cmp p e.0 ≡ o → IsPlace (e ∷ es) (by_order o (Err 0) (Ok 0) (next_place (place_of p es)))) [
        | Less ↦ λ k. record { inside = omega arith; new = rw k; missing = missing_from e es k }
        | Equal ↦ λ k. record { inside = omega arith; new = rw k; found = rw k; same = sym (path_cmp_exact p e.0 k) }
        | Greater ↦ λ k. later e es k (place_of p es) (at_place es)
      ] refl

-- new marks keep the order, and are those of the map
pub entries-put : (p : Path) (w : Marks) (es : List (Path × Marks)) → T (finmap.is_sorted path_cmp es) → finmap.entries (finmap.insert (finmap.from_sorted {R = path_cmp} es) p w) ≡ finmap.put path_cmp p w es
entries-put p w es up = finmap.entries-insert path_cmp_total (finmap.from_sorted es) p w ∙ ap (finmap.put path_cmp p w) (finmap.entries-from_sorted path_cmp es up)

-- they keep the order
pub put_sorted : (p : Path) (w : Marks) (es : List (Path × Marks)) → T (finmap.is_sorted path_cmp es) → T (finmap.is_sorted path_cmp (finmap.put path_cmp p w es))
put_sorted p w es up = subst (λ fs. T (finmap.is_sorted path_cmp fs)) (entries-put p w es up) (finmap.entries_sorted (finmap.insert (finmap.from_sorted {R = path_cmp} es) p w))

-- and are those of the map
pub from_sorted-put : (p : Path) (w : Marks) (es : List (Path × Marks)) → T (finmap.is_sorted path_cmp es) → finmap.from_sorted {R = path_cmp} (finmap.put path_cmp p w es) ≡ finmap.insert (finmap.from_sorted es) p w
from_sorted-put p w es up = finmap.same_entries_map _ _ (finmap.entries-from_sorted path_cmp _ (put_sorted p w es up) ∙ sym (entries-put p w es up))

-- the marks that stand there
pub get-from_entries : (p : Path) (es : List (Path × Marks)) → T (finmap.is_sorted path_cmp es) → finmap.get (finmap.from_sorted {R = path_cmp} es) p ≡ finmap.find path_cmp p es
get-from_entries p es up = finmap.get-from_sorted path_cmp es p up

-- the rows of a path, one after another
pub path_rows_at : (C : Ranks) (p : Path) (k : ℕ) → suc k < length p → drop k (path_rows C p) ≡ (take (suc k) p, (C, none)) ∷ drop (suc k) (path_rows C p)
path_rows_at C [] k lt = absurd (omega arith)
path_rows_at C (f ∷ []) k lt = absurd (omega arith)
path_rows_at C (f ∷ g ∷ p) zero lt = refl
path_rows_at C (f ∷ g ∷ p) (suc k) lt =
    drop-map (below_frame f) k (path_rows C (g ∷ p)) ∙ ap (map (below_frame f)) (path_rows_at C (g ∷ p) k (omega arith))
    ∙ ap (λ es. (take (suc (suc k)) (f ∷ g ∷ p), (C, none)) ∷ es) (sym (drop-map (below_frame f) (suc k) (path_rows C (g ∷ p))))

-- the last row of a path
pub path_rows_last : (C : Ranks) (p : Path) (k : ℕ) → suc k ≡ length p → drop k (path_rows C p) ≡ (p, (C, C)) ∷ []
path_rows_last C [] k e = absurd (omega arith)
path_rows_last C (f ∷ []) zero e = refl
path_rows_last C (f ∷ []) (suc k) e = absurd (omega arith)
path_rows_last C (f ∷ g ∷ p) zero e = absurd (omega arith)
path_rows_last C (f ∷ g ∷ p) (suc k) e = drop-map (below_frame f) k (path_rows C (g ∷ p)) ∙ ap (map (below_frame f)) (path_rows_last C (g ∷ p) k (omega arith))

-- the marks at the place of a path
module _ (p : Path) (rows : List TreeRow) (up : HasIncreasingPaths rows) where
  -- those of its row, where it has one
  pub present_marks : (i : ℕ) → place_of p (entries_view rows) ≡ Ok i → (row : TreeRow) → i < length rows → row ≡ get_or rows i row → finmap.get (below_in rows) p ≡ Some (row.label, row.ends)
  present_marks i at row lt is =
      let es = entries_view rows in
      let h : IsPresentAt p (row.label, row.ends) (entry_of row) es i = subst (IsPlace p (row.label, row.ends) (entry_of row) es) at (at_place p (row.label, row.ends) (entry_of row) es) in
      get-from_entries p es up ∙ h.found ∙ ap (λ (e : Path × Marks). Some e.1) (get_or-map entry_of rows i row (entry_of row) lt ∙ ap entry_of (sym is))

  -- there are none where it has no row
  pub absent_marks : (i : ℕ) → place_of p (entries_view rows) ≡ Err i → finmap.get (below_in rows) p ≡ None
  absent_marks i at =
      let es = entries_view rows in
      let m : Marks = (none, none) in
      let h : IsAbsentAt p m (p, m) es i = subst (IsPlace p m (p, m) es) at (at_place p m (p, m) es) in
      get-from_entries p es up ∙ h.missing up

-- rows with a row put at its place
module _ (rows : List TreeRow) (row : TreeRow) (i : ℕ) where
  -- over the row of the same path
  pub put_present : place_of row.path (entries_view rows) ≡ Ok i → i < length rows → entries_view (set rows i row) ≡ finmap.put path_cmp row.path (row.label, row.ends) (entries_view rows)
  put_present at lt =
      let es = entries_view rows in
      let w : Marks = (row.label, row.ends) in
      let h : IsPresentAt row.path w (entry_of row) es i = subst (IsPlace row.path w (entry_of row) es) at (at_place row.path w (entry_of row) es) in
      map-set entry_of rows i row ∙ (λ k. set es i (sym h.same k, w)) ∙ sym h.new

  -- where its path has none
  pub put_absent : place_of row.path (entries_view rows) ≡ Err i → entries_view (insert rows i row) ≡ finmap.put path_cmp row.path (row.label, row.ends) (entries_view rows)
  put_absent at =
      let es = entries_view rows in
      let w : Marks = (row.label, row.ends) in
      let h : IsAbsentAt row.path w (entry_of row) es i = subst (IsPlace row.path w (entry_of row) es) at (at_place row.path w (entry_of row) es) in
      map-insert entry_of rows i row ∙ sym h.new

-- what is left of a path's rows, one row on
pub path_step : (C : Ranks) (p : Path) (k : ℕ) → 1 ≤ k → k < length p → drop (k - 1) (path_rows C p) ≡ (take k p, (C, none)) ∷ drop ((k + 1) - 1) (path_rows C p)
path_step C p zero from lt = absurd (omega arith)
path_step C p (suc k) from lt =
    let here : (suc k + 1) - 1 ≡ suc k = omega arith in
    let there : suc k - 1 ≡ k = omega arith in
    ap (λ n. drop n (path_rows C p)) there ∙ path_rows_at C p k lt ∙ ap (λ n. (take (suc k) p, (C, none)) ∷ drop n (path_rows C p)) (sym here)

-- and at the last
pub path_last : (C : Ranks) (p : Path) (k : ℕ) → 1 ≤ k → k ≡ length p → drop (k - 1) (path_rows C p) ≡ (p, (C, C)) ∷ []
path_last C p zero from e = absurd (omega arith)
path_last C p (suc k) from e = let there : suc k - 1 ≡ k = omega arith in ap (λ n. drop n (path_rows C p)) there ∙ path_rows_last C p k e
