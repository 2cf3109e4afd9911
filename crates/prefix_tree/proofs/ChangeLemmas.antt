-- Rows put in their places one after another are the rows united.
use Rattle.std.proofs.Common.{◌≡◌, ℕ, ◌+◌, ◌<◌, ◌≤◌, suc, Bool, true, false, not, cond, ◌&&◌, List, [], ◌∷◌, ◌++◌, Some, map, refl, sym, ap, ◌∙◌, T, length, take, get_or, arith}
use Rattle.std.specs.Prelude.{is_some}
use Rattle.std.specs.Ordering.{eq_by_cmp, is_eq}
use Rattle.std.specs.declared.cmp.Ordering.{Ordering}
use Rattle.std.specs.declared.cmp.Ordering.TheVariants.{Less, Equal, Greater}
use Rattle.prefix_tree.specs.declared.owned.TreeRow.{TreeRow}
use Rattle.prefix_tree.specs.Owned.{by_order, entry_of, entries_view}
use Rattle.std.proofs.lemmas.List.{take_more, map-append}
use Rattle.std.specs.Cmp.{eq_by_cmp_equiv, tied_itself}
use Rattle.std.specs.Cmp.Lexicographic.{slice_cmp}
use Rattle.std.specs.FinMap as finmap
use Rattle.std.proofs.lemmas.Bool.{or_parts}
use Rattle.rank_set.specs.Ranks.{Ranks}
use Rattle.call_path.specs.Path.{Path, path_cmp, is_path, path_cmp_total}
use Rattle.prefix_tree.specs.Tree.{Marks}
use Rattle.prefix_tree.specs.Joined.{Below, both_marks, put_row, insert_rows, path_rows, below_frame, in_rows}
use Rattle.prefix_tree.specs.Changes.{changed, new_among, inserted}
use Rattle.prefix_tree.proofs.Rows.{second, none_after}
use Rattle.prefix_tree.proofs.PairLemmas.{in_rows-under, no_root}
use Rattle.prefix_tree.proofs.Edits.{put_sorted, from_sorted-put}

-- a row of any marks
abbrev any_marks : Marks → Bool
any_marks m = true

-- no path stands twice
abbrev pub AreDistinct : List (Path × Marks) → Type 0
AreDistinct [] = Unit {0}
AreDistinct (e ∷ es) = (in_rows any_marks es e.0 ≡ false) × AreDistinct es

-- rows in order are distinct
pub apart_from_order : (es : List (Path × Marks)) → T (finmap.is_sorted path_cmp es) → AreDistinct es
apart_from_order [] up = tt
apart_from_order (e ∷ es) up = (none_after any_marks e.0 e es (tied_itself path_cmp_total e.0) up, apart_from_order es (second _ _ up))

same_first : (f : List ℕ) → eq_by_cmp (slice_cmp Rattle.std.specs.Ordering.nat_cmp) f f ≡ true
same_first f = ap is_eq (tied_itself Rattle.std.specs.Cmp.Lexicographic.nat_list_cmp_total f)

apart_under : (f : List ℕ) (es : List (Path × Marks)) → AreDistinct es → AreDistinct (map (below_frame f) es)
apart_under f [] h = tt
apart_under f (e ∷ es) h = (in_rows-under any_marks f f e.0 es ∙ (λ i. same_first f i && h.0 i), apart_under f es h.1)

rootless : (C : Ranks) (p : Path) → in_rows any_marks (path_rows C p) [] ≡ false
rootless C [] = refl
rootless C (f ∷ p) = no_root any_marks f (path_rows C p)

-- the rows of a path are distinct
pub apart_path_rows : (C : Ranks) (p : Path) → AreDistinct (path_rows C p)
apart_path_rows C [] = tt
apart_path_rows C (f ∷ p) = (
  in_rows-under any_marks f f [] (path_rows C p) ∙ (λ i. same_first f i && rootless C p i),
  apart_under f (path_rows C p) (apart_path_rows C p),
)

-- what is at another path stays
module _ (b : Below) (q : Path) (w : Marks) where
  get_other : (p : Path) → is_path q p ≡ false → finmap.get (finmap.insert b q w) p ≡ finmap.get b p
  get_other p e = finmap.get-insert path_cmp_total b q w p ∙ ap (λ t. cond t (Some w) (finmap.get b p)) ((eq_by_cmp_equiv path_cmp_total).symm p q ∙ e)

  changed_later : (es : List (Path × Marks)) → in_rows any_marks es q ≡ false → map (changed (finmap.insert b q w)) es ≡ map (changed b) es
  changed_later [] none = refl
  changed_later (e ∷ es) none =
      let parts = or_parts (is_path q e.0 && true) (in_rows any_marks es q) none in
      (λ i. (e.0, both_marks (get_other e.0 (bare (is_path q e.0) parts.0) i) e.1) ∷ changed_later es parts.1 i)
    where
      bare : (a : Bool) → (a && true) ≡ false → a ≡ false
      bare true e = e
      bare false e = refl

  new_later : (es : List (Path × Marks)) → in_rows any_marks es q ≡ false → new_among (finmap.insert b q w) es ≡ new_among b es
  new_later [] none = refl
  new_later (e ∷ es) none =
      let parts = or_parts (is_path q e.0 && true) (in_rows any_marks es q) none in
      (λ i. cond (not (is_some (get_other e.0 (bare (is_path q e.0) parts.0) i))) 1 0 + new_later es parts.1 i)
    where
      bare : (a : Bool) → (a && true) ≡ false → a ≡ false
      bare true e = e
      bare false e = refl

-- rows that are distinct, put as they will stand, are united
abbrev put_all : Below → List (Path × Marks) → Below
put_all b [] = b
put_all b (c ∷ cs) = put_all (finmap.insert b c.0 c.1) cs

put_all_changed : (es : List (Path × Marks)) (b : Below) → AreDistinct es → put_all b (map (changed b) es) ≡ insert_rows b es
put_all_changed [] b h = refl
put_all_changed (e ∷ es) b h =
    ap (put_all (put_row b e.0 e.1)) (sym (changed_later b e.0 (both_marks (finmap.get b e.0) e.1) es h.0))
    ∙ put_all_changed es (put_row b e.0 e.1) h.1

-- inserted keep the order, and are those of the map
pub puts_sorted : (es cs : List (Path × Marks)) → T (finmap.is_sorted path_cmp es) → T (finmap.is_sorted path_cmp (inserted es cs))
puts_sorted es [] up = up
puts_sorted es (c ∷ cs) up = puts_sorted (finmap.put path_cmp c.0 c.1 es) cs (put_sorted c.0 c.1 es up)

puts_below : (es cs : List (Path × Marks)) → T (finmap.is_sorted path_cmp es) → finmap.from_sorted {R = path_cmp} (inserted es cs) ≡ put_all (finmap.from_sorted es) cs
puts_below es [] up = refl
puts_below es (c ∷ cs) up = puts_below (finmap.put path_cmp c.0 c.1 es) cs (put_sorted c.0 c.1 es up) ∙ ap (λ b. put_all b cs) (from_sorted-put c.0 c.1 es up)

-- rows put as they will stand are united into the rows
pub puts_united : (es others : List (Path × Marks)) → T (finmap.is_sorted path_cmp es) → AreDistinct others → finmap.from_sorted {R = path_cmp} (inserted es (map (changed (finmap.from_sorted es)) others)) ≡ insert_rows (finmap.from_sorted es) others
puts_united es others up distinct = puts_below es (map (changed (finmap.from_sorted es)) others) up ∙ put_all_changed others (finmap.from_sorted es) distinct

-- there are as many rows then as before, and the new ones
pub len-insert_rows : (others : List (Path × Marks)) (b : Below) → AreDistinct others → finmap.len (insert_rows b others) ≡ finmap.len b + new_among b others
len-insert_rows [] b distinct = omega arith
len-insert_rows (e ∷ es) b distinct =
    let w = both_marks (finmap.get b e.0) e.1 in
    let rest = len-insert_rows es (finmap.insert b e.0 w) distinct.1 in
    let later = new_later b e.0 w es distinct.0 in
    rest ∙ (λ i. finmap.len-insert path_cmp_total b e.0 w i + later i) ∙ counted (finmap.contains_key b e.0) (finmap.len b) (new_among b es)
  where
    counted : (t : Bool) (n m : ℕ) → cond t n (n + 1) + m ≡ n + (cond (not t) 1 0 + m)
    counted true n m = omega arith
    counted false n m = omega arith

-- a put takes no row away
put_longer : (p : Path) (w : Marks) (es : List (Path × Marks)) → length es ≤ length (finmap.put path_cmp p w es)
put_longer p w [] = omega arith
put_longer p w (e ∷ es) = by_place (path_cmp p e.0) (put_longer p w es)
  where
    by_place : (o : Ordering) → length es ≤ length (finmap.put path_cmp p w es) → suc (length es) ≤ length (by_order o ((p, w) ∷ e ∷ es) ((e.0, w) ∷ es) (e ∷ finmap.put path_cmp p w es))
    by_place Less h = omega arith
    by_place Equal h = omega arith
    by_place Greater h = omega arith

-- nor do inserted
pub puts_longer : (es cs : List (Path × Marks)) → length es ≤ length (inserted es cs)
puts_longer es [] = omega arith
puts_longer es (c ∷ cs) =
    let one = put_longer c.0 c.1 es in
    let more = puts_longer (finmap.put path_cmp c.0 c.1 es) cs in
    omega (arith, one, more)

-- new rows of two lists
pub new_among-append : (b : Below) (xs ys : List (Path × Marks)) → new_among b (xs ++ ys) ≡ new_among b xs + new_among b ys
new_among-append b [] ys = omega arith
new_among-append b (x ∷ xs) ys = let e = new_among-append b xs ys in omega (arith, e)

-- the entries of one more row
pub entries_more : (rows : List TreeRow) (i : ℕ) (row : TreeRow) → i < length rows → row ≡ get_or rows i row → entries_view (take (i + 1) rows) ≡ entries_view (take i rows) ++ entry_of row ∷ []
entries_more rows i row lt is = ap entries_view (take_more rows i row lt) ∙ map-append entry_of (take i rows) (get_or rows i row ∷ []) ∙ ap (λ r. entries_view (take i rows) ++ entry_of r ∷ []) (sym is)
