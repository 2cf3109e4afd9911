-- What a binary search over rows in order finds.
use Rattle.std.proofs.Common.{◌≡◌, ℕ, zero, suc, ◌+◌, ◌-◌, ◌/◌, ◌<◌, ◌≤◌, ◌&&◌, List, [], ◌∷◌, Ok, Err, sym, ap, ◌∙◌, subst, T, length, get_or, arith, inl, inr}
use Rattle.std.specs.Ordering.{is_lt}
use Rattle.std.specs.declared.cmp.Ordering.{Ordering}
use Rattle.std.specs.declared.cmp.Ordering.TheVariants.{Less, Equal, Greater}
use Rattle.std.specs.FinMap as finmap
use Rattle.std.specs.FinMap.Entries.{below_all}
use Rattle.std.proofs.lemmas.Bool.{cases_order}
use Rattle.std.proofs.lemmas.List.{get_or-map}
use Rattle.rank_set.specs.Ranks.{none}
use Rattle.call_path.specs.Path.{Path, path_cmp, path_cmp_total}
use Rattle.prefix_tree.specs.Tree.{Marks}
use Rattle.prefix_tree.specs.declared.owned.TreeRow.{TreeRow}
use Rattle.prefix_tree.specs.Owned.{by_order, next_place, place_of, entry_of, entries_view}
use Rattle.prefix_tree.proofs.Rows.{both, first, second, less, turned}

-- rows in order without their second
after_second : (e f : Path × Marks) (es : List (Path × Marks)) → T (finmap.is_sorted path_cmp (e ∷ f ∷ es)) → T (finmap.is_sorted path_cmp (e ∷ es))
after_second e f es up =
    let head = is_lt (path_cmp e.0 f.0) && below_all path_cmp e.0 es in
    let rest = below_all path_cmp f.0 es && finmap.is_sorted path_cmp es in
    both (below_all path_cmp e.0 es) (finmap.is_sorted path_cmp es)
    (second (is_lt (path_cmp e.0 f.0)) (below_all path_cmp e.0 es) (first head rest up))
    (second (below_all path_cmp f.0 es) (finmap.is_sorted path_cmp es) (second head rest up))

-- the first of rows in order is below each other
first_below : (e : Path × Marks) (es : List (Path × Marks)) (d : Path × Marks) (j : ℕ) → T (finmap.is_sorted path_cmp (e ∷ es)) → j < length es → path_cmp e.0 (get_or es j d).0 ≡ Less
first_below e [] d j up lt = absurd (omega arith)
first_below e (f ∷ es) d zero up lt = less _ (first _ _ (first _ _ up))
first_below e (f ∷ es) d (suc j) up lt = first_below e es d j (after_second e f es up) (omega arith)

-- an earlier row is below a later one
pub row_below : (es : List (Path × Marks)) (d : Path × Marks) (i j : ℕ) → T (finmap.is_sorted path_cmp es) → i < j → j < length es → path_cmp (get_or es i d).0 (get_or es j d).0 ≡ Less
row_below [] d i j up le lt = absurd (omega arith)
row_below (e ∷ es) d zero zero up le lt = absurd (omega arith)
row_below (e ∷ es) d zero (suc j) up le lt = first_below e es d j up (omega arith)
row_below (e ∷ es) d (suc i) zero up le lt = absurd (omega arith)
row_below (e ∷ es) d (suc i) (suc j) up le lt = row_below es d i j (second (below_all path_cmp e.0 es) (finmap.is_sorted path_cmp es) up) (omega arith) (omega arith)

-- the entry of no row
abbrev pub no_entry : Path × Marks
no_entry = ([], (none, none))

module _ (p : Path) where
  -- a path that ties with a row is found there
  pub place_at : (es : List (Path × Marks)) (d : Path × Marks) (i : ℕ) → T (finmap.is_sorted path_cmp es) → i < length es → path_cmp p (get_or es i d).0 ≡ Equal → place_of p es ≡ Ok i
  place_at [] d i up lt e = absurd (omega arith)
  place_at (f ∷ es) d zero up lt e = ap (λ o. by_order o (Err 0) (Ok 0) (next_place (place_of p es))) e
  place_at (f ∷ es) d (suc i) up lt e =
      let past : path_cmp p f.0 ≡ Greater = path_cmp_total.congr p (get_or es i d).0 f.0 e ∙ turned f.0 (get_or es i d).0 Less (first_below f es d i up (omega arith)) in
      ap (λ o. by_order o (Err 0) (Ok 0) (next_place (place_of p es))) past ∙ ap next_place (place_at es d i (second (below_all path_cmp f.0 es) (finmap.is_sorted path_cmp es) up) (omega arith) e)

  -- a path goes between the rows below it and those above it
  pub place_between : (es : List (Path × Marks)) (d : Path × Marks) (i : ℕ) → i ≤ length es → ((k : ℕ) → k < i → path_cmp p (get_or es k d).0 ≡ Greater) → ((k : ℕ) → i ≤ k → k < length es → path_cmp p (get_or es k d).0 ≡ Less) → place_of p es ≡ Err i
  place_between [] d i le below above = let e : 0 ≡ i = omega arith in ap Err e
  place_between (f ∷ es) d zero le below above =
      ap (λ o. by_order o (Err 0) (Ok 0) (next_place (place_of p es))) (above 0 (omega arith) (omega arith))
  place_between (f ∷ es) d (suc i) le below above =
      ap (λ o. by_order o (Err 0) (Ok 0) (next_place (place_of p es))) (below 0 (omega arith))
      ∙ ap next_place (place_between es d i (omega arith) (λ k lt. below (suc k) (omega arith)) (λ k from lt. above (suc k) (omega arith) (omega arith)))

  -- what a search knows of rows: those before low are below the path, and those from high on are above it
  pub record IsSearchedTo (es : List (Path × Marks)) (low high : ℕ) : Type 0 where
    pub order : low ≤ high
    pub inside : high ≤ length es
    pub below : (k : ℕ) → k < low → path_cmp p (get_or es k no_entry).0 ≡ Greater
    pub above : (k : ℕ) → high ≤ k → k < length es → path_cmp p (get_or es k no_entry).0 ≡ Less

  module _ (es : List (Path × Marks)) (up : T (finmap.is_sorted path_cmp es)) (low high middle : ℕ) (h : IsSearchedTo es low high) (from : low ≤ middle) (to : middle < high) where
    inside_here : middle < length es
    inside_here = let i = h.inside in omega (arith, i, to)

    -- a row above the path: it and those after it are
    pub search_below : path_cmp p (get_or es middle no_entry).0 ≡ Less → IsSearchedTo es low middle
    search_below e =
        record {
          order = from;
          inside = let i = inside_here in omega (arith, i);
          below = h.below;
          above = λ k start lt. elim (cases_order middle k) [
            | inl same ↦ subst (λ n. path_cmp p (get_or es n no_entry).0 ≡ Less) same e
            | inr (inl before) ↦ path_cmp_total.trans p (get_or es middle no_entry).0 (get_or es k no_entry).0 e (row_below es no_entry middle k up before lt)
            | inr (inr after) ↦ absurd (omega arith)
          ];
        }

    -- a row below the path: it and those before it are
    pub search_above : path_cmp p (get_or es middle no_entry).0 ≡ Greater → IsSearchedTo es (middle + 1) high
    search_above e =
        record {
          order = omega (arith, to);
          inside = h.inside;
          below = λ k lt. elim (cases_order k middle) [
            | inl same ↦ subst (λ n. path_cmp p (get_or es n no_entry).0 ≡ Greater) (sym same) e
            | inr (inl before) ↦ turned (get_or es k no_entry).0 p Less (path_cmp_total.trans (get_or es k no_entry).0 (get_or es middle no_entry).0 p (row_below es no_entry k middle up before inside_here) (turned p (get_or es middle no_entry).0 Greater e))
            | inr (inr after) ↦ absurd (omega arith)
          ];
          above = h.above;
        }

  -- where nothing is left to search, the path goes there
  pub search_end : (es : List (Path × Marks)) (low high : ℕ) → IsSearchedTo es low high → high ≤ low → Err low ≡ place_of p es
  search_end es low high h le =
      let o = h.order in
      let i = h.inside in
      sym (place_between es no_entry low (omega (arith, o, i)) h.below (λ k start lt. h.above k (omega (arith, start, le)) lt))

-- a place halfway between two others
pub halfway : (low high : ℕ) → low < high → (low ≤ low + (high - low) / 2) × (low + (high - low) / 2 < high)
halfway low high lt = (omega arith, omega (arith, lt))

-- the path of a row
row_at : (rows : List TreeRow) (k : ℕ) (row : TreeRow) → k < length rows → row ≡ get_or rows k row → (get_or (entries_view rows) k no_entry).0 ≡ row.path
row_at rows k row lt is = ap (λ (e : Path × Marks). e.0) (get_or-map entry_of rows k row no_entry lt ∙ ap entry_of (sym is))

-- how a path compares with a row
pub row_compared : (p : Path) (rows : List TreeRow) (k : ℕ) (row : TreeRow) (o : Ordering) → k < length rows → row ≡ get_or rows k row → path_cmp p (get_or rows k row).path ≡ o → path_cmp p (get_or (entries_view rows) k no_entry).0 ≡ o
row_compared p rows k row o lt is e = ap (path_cmp p) (row_at rows k row lt is) ∙ ap (λ (r : TreeRow). path_cmp p r.path) is ∙ e
