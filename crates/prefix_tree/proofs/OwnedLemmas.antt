-- An owned tree's rows, as a tree.
use Rattle.std.proofs.Common.{◌≡◌, ℕ, ◌≤◌, ◌<◌, ◌≢◌, ◌++◌, true, List, [], length, refl, sym, ap, ◌∙◌, subst, arith, suc, zero, ◌∷◌, Some, ◌+◌, ◌-◌, get_or, map, T}
use Rattle.std.specs.List.{slice_get}
use Rattle.std.proofs.lemmas.Option.{same_Some, slice_get-map, slice_get_read}
use Rattle.std.specs.Option.{option_map}
use Rattle.std.specs.Prelude.{All}
use Rattle.std.proofs.lemmas.List.Elements.{All-nil}
use Rattle.rank_set.proofs.SomeMember.{some_member}
use Rattle.call_path.specs.Good.{IsGoodPath}
use Rattle.prefix_tree.specs.Changes.{changed, new_among, inserted}
use Rattle.prefix_tree.proofs.ChangeLemmas.{AreDistinct, apart_from_order, apart_path_rows, puts_sorted, puts_united, len-insert_rows}
use Rattle.prefix_tree.proofs.GoodPaths.{put_rows_good, path_rows_good}
use Rattle.std.specs.FinMap as finmap
use Rattle.std.proofs.lemmas.List.{length-map}
use Rattle.rank_set.specs.Ranks.{Ranks, none, has, union, is_subset, subset_has, in_order}
use Rattle.call_path.specs.Path.{Path, path_cmp, path_cmp_total, path_cmp_exact}
use Rattle.prefix_tree.specs.declared.owned.TreeRow.{TreeRow}
use Rattle.call_path.specs.Pairs.{Pairs, pairs_at}
use Rattle.prefix_tree.specs.Tree.{Tree, Marks, IsTree, IsLawful, tree_of, merged, covered, added, count_below, pairs_of, rows_of, frame_of}
use Rattle.prefix_tree.specs.Joined.{Below, insert_rows, path_rows}
use Rattle.prefix_tree.specs.Owned.{entry_of, entries_view, HasIncreasingPaths, below_in, tree_in, AreTreeRows}
use Rattle.prefix_tree.proofs.TreeLemmas.{IsTree-tree_of, tree_merged, tree_covered, tree_added, get-tree_of, coverage-tree_of, no_row}

-- the rows are the entries of their map
pub entries_below : (rows : List TreeRow) → HasIncreasingPaths rows → finmap.entries (below_in rows) ≡ entries_view rows
entries_below rows up = finmap.entries-from_sorted path_cmp (entries_view rows) up

-- a tree has as many rows below the root as there are
pub count_rows : (C : Ranks) (rows : List TreeRow) → HasIncreasingPaths rows → count_below (tree_in C rows) ≡ length rows
count_rows C rows up = finmap.len-entries (below_in rows) ∙ ap length (entries_below rows up) ∙ length-map rows entry_of

-- rows that make a tree of any pairs are a tree's
pub tree_rows : (C : Ranks) (rows : List TreeRow) (P : Pairs) (D : Ranks) → HasIncreasingPaths rows → tree_in C rows ≡ tree_of P D → length rows ≤ 2048 → All (λ e. IsGoodPath e.0) (entries_view rows) → AreTreeRows C rows
tree_rows C rows P D up is few good = record { in_order = up; tree = subst IsTree (sym is) (IsTree-tree_of P D); within_limit = few; good = good }

-- rows united with those of another tree make the merged tree
pub merged_rows : (A B : Ranks) (rows others all : List TreeRow) → AreTreeRows A rows → AreTreeRows B others → below_in all ≡ insert_rows (below_in rows) (entries_view others) → tree_in (union A B) all ≡ merged (tree_in A rows) (tree_in B others)
merged_rows A B rows others all mine theirs is =
    (λ i. record { coverage = union A B; below = (is ∙ ap (insert_rows (below_in rows)) (sym (entries_below others theirs.in_order))) i })
    ∙ tree_merged (tree_in A rows) mine.tree (tree_in B others) theirs.tree

-- rows united with those of a path make the tree with that path
pub added_rows : (A C : Ranks) (p : Path) (rows all : List TreeRow) → AreTreeRows A rows → (r : ℕ) → has C r ≡ true → ((q : ℕ) → has C q ≡ true → has A q ≡ true) → below_in all ≡ insert_rows (below_in rows) (path_rows C p) → tree_in A all ≡ added (tree_in A rows) C p
added_rows A C p rows all mine r some lies is =
    (λ i. record { coverage = A; below = is i }) ∙ tree_added (tree_in A rows) mine.tree C p r some lies

-- the same rows over more ranks make the covered tree
pub covered_rows : (A C : Ranks) (rows : List TreeRow) → AreTreeRows A rows → tree_in (union A C) rows ≡ covered (tree_in A rows) C
covered_rows A C rows mine = tree_covered (tree_in A rows) mine.tree C

below_nothing : finmap.from_sorted {R = path_cmp} [] ≡ (tree_of [] none).below
below_nothing = finmap.same_map path_cmp_total path_cmp_exact _ _ (λ q. finmap.get-from_sorted path_cmp [] q tt ∙ sym (get-tree_of [] none q ∙ no_row [] none q (λ r. refl)))

-- no rows, over no ranks
pub tree_in-none : tree_in none [] ≡ tree_of [] none
tree_in-none = λ i. record { coverage = sym (coverage-tree_of [] none) i; below = below_nothing i }

-- no rows are a tree's
pub rows-none : AreTreeRows none []
rows-none = tree_rows none [] [] none tt tree_in-none (omega arith) (All-nil (λ e. IsGoodPath e.0))

-- the ranks of a set that lies in another
pub lies_in : (C A : Ranks) → is_subset C A ≡ true → (q : ℕ) → has C q ≡ true → has A q ≡ true
lies_in C A within q one = subset_has C A within q one

-- rows put to rows of good paths, of good paths themselves
pub good_rows : (rows all : List TreeRow) (es : List (Path × Marks)) → HasIncreasingPaths rows → HasIncreasingPaths all → All (λ e. IsGoodPath e.0) (entries_view rows) → All (λ e. IsGoodPath e.0) es → below_in all ≡ insert_rows (below_in rows) es → All (λ e. IsGoodPath e.0) (entries_view all)
good_rows rows all es up up_all good more is =
    let old = subst (All (λ e. IsGoodPath e.0)) (sym (entries_below rows up)) good in
    let new = put_rows_good (below_in rows) es old more in
    subst (All (λ e. IsGoodPath e.0)) (ap (λ (b : Below). finmap.entries b) (sym is) ∙ entries_below all up_all) new

-- what holds of the tree of rows that are a tree's
pub rows_lawful : (C : Ranks) (rows : List TreeRow) (t : Tree) → tree_in C rows ≡ t → AreTreeRows C rows → IsLawful t
rows_lawful C rows t is h =
    let few = h.within_limit in
    subst IsLawful is (record {
      tree = h.tree;
      within_limit = omega (arith, count_rows C rows h.in_order);
      good = subst (All (λ e. IsGoodPath e.0)) (sym (entries_below rows h.in_order)) h.good;
    })

-- new rows that make a tree of a stated kind
pub record MakesTree (C : Ranks) (rows : List TreeRow) (t : Tree) : Type 0 where
  pub is : tree_in C rows ≡ t
  pub size : count_below t ≡ length rows
  pub tree : length rows ≤ 2048 → AreTreeRows C rows

makes_tree : (C : Ranks) (rows : List TreeRow) (P : Pairs) (D : Ranks) → HasIncreasingPaths rows → All (λ e. IsGoodPath e.0) (entries_view rows) → tree_in C rows ≡ tree_of P D → MakesTree C rows (tree_of P D)
makes_tree C rows P D up good is = record {
  is = is;
  size = ap count_below (sym is) ∙ count_rows C rows up;
  tree = λ few. tree_rows C rows P D up is few good;
}

-- rows united with those of a path are rows of the tree with that path
pub makes_added : (A C : Ranks) (p : Path) (rows all : List TreeRow) (self : Tree) → tree_in A rows ≡ self → AreTreeRows A rows → C ≢ none → is_subset C self.coverage ≡ true → IsGoodPath p → HasIncreasingPaths all → below_in all ≡ insert_rows (below_in rows) (path_rows C p) → MakesTree A all (added self C p)
makes_added A C p rows all self seen mine other within good up is =
    let some = some_member C other in
    let new = added_rows A C p rows all mine some.0 some.1 (lies_in C A (ap (λ (t : Tree). is_subset C t.coverage) seen ∙ within)) is in
    makes_tree A all (pairs_of self ++ pairs_at (in_order C) p) self.coverage up (good_rows rows all (path_rows C p) mine.in_order up mine.good (path_rows_good C some.0 some.1 p good) is) (new ∙ ap (λ t. added t C p) seen)

-- rows united with those of another tree are rows of the merged tree
pub makes_merged : (A B : Ranks) (rows others all : List TreeRow) (self other : Tree) → tree_in A rows ≡ self → tree_in B others ≡ other → AreTreeRows A rows → AreTreeRows B others → HasIncreasingPaths all → below_in all ≡ insert_rows (below_in rows) (entries_view others) → MakesTree (union A B) all (merged self other)
makes_merged A B rows others all self other seen seen_other mine theirs up is =
    makes_tree (union A B) all (pairs_of self ++ pairs_of other) (union self.coverage other.coverage) up (good_rows rows all (entries_view others) mine.in_order up mine.good theirs.good is)
    (merged_rows A B rows others all mine theirs is ∙ (λ i. merged (seen i) (seen_other i)))

-- the same rows over more ranks are rows of the covered tree
pub makes_covered : (A C : Ranks) (rows : List TreeRow) (self : Tree) → tree_in A rows ≡ self → AreTreeRows A rows → MakesTree (union A C) rows (covered self C)
makes_covered A C rows self seen mine =
    makes_tree (union A C) rows (pairs_of self) (union self.coverage C) mine.in_order mine.good (covered_rows A C rows mine ∙ ap (λ t. covered t C) seen)

-- rows after changes that were made to them
module _ (rows all changes : List TreeRow) (others : List (Path × Marks)) (up : HasIncreasingPaths rows) (distinct : AreDistinct others) (are : entries_view changes ≡ map (changed (below_in rows)) others) where
  -- how many there are
  pub puts_count : length (inserted (entries_view rows) (entries_view changes)) ≡ length rows + new_among (below_in rows) others
  puts_count =
      let united = puts_united (entries_view rows) others up distinct in
      let sorted = puts_sorted (entries_view rows) (map (changed (below_in rows)) others) up in
      ap (λ cs. length (inserted (entries_view rows) cs)) are
      ∙ sym (ap length (finmap.entries-from_sorted path_cmp _ sorted))
      ∙ sym (finmap.len-entries _) ∙ ap (λ (b : Below). finmap.len b) united
      ∙ len-insert_rows others (below_in rows) distinct
      ∙ ap (λ n. n + new_among (below_in rows) others) (finmap.len-entries (below_in rows) ∙ ap length (entries_below rows up) ∙ length-map rows entry_of)

  module _ (is : entries_view all ≡ inserted (entries_view rows) (entries_view changes)) where
    -- they are in order
    pub puts_in_order : HasIncreasingPaths all
    puts_in_order = subst (λ es. T (finmap.is_sorted path_cmp es)) (sym (is ∙ ap (inserted (entries_view rows)) are)) (puts_sorted (entries_view rows) (map (changed (below_in rows)) others) up)

    -- and united with the others
    pub puts_are_united : below_in all ≡ insert_rows (below_in rows) others
    puts_are_united = ap (λ es. finmap.from_sorted {R = path_cmp} es) (is ∙ ap (inserted (entries_view rows)) are) ∙ puts_united (entries_view rows) others up distinct

count_united : (rows : List TreeRow) (others : List (Path × Marks)) (t : Tree) (C : Ranks) → HasIncreasingPaths rows → AreDistinct others → record { coverage = C; below = insert_rows (below_in rows) others } ≡ t → count_below t ≡ length rows + new_among (below_in rows) others
count_united rows others t C up distinct is =
    ap count_below (sym is) ∙ len-insert_rows others (below_in rows) distinct
    ∙ ap (λ n. n + new_among (below_in rows) others) (finmap.len-entries (below_in rows) ∙ ap length (entries_below rows up) ∙ length-map rows entry_of)

-- how many rows a tree has with a path
pub count_added : (A C : Ranks) (p : Path) (rows : List TreeRow) (self : Tree) → tree_in A rows ≡ self → AreTreeRows A rows → C ≢ none → is_subset C self.coverage ≡ true → count_below (added self C p) ≡ length rows + new_among (below_in rows) (path_rows C p)
count_added A C p rows self seen mine other within =
    let some = some_member C other in
    count_united rows (path_rows C p) (added self C p) A mine.in_order (apart_path_rows C p)
    (tree_added (tree_in A rows) mine.tree C p some.0 some.1 (lies_in C A (ap (λ (t : Tree). is_subset C t.coverage) seen ∙ within)) ∙ ap (λ t. added t C p) seen)

-- and with another tree
pub count_merged : (A B : Ranks) (rows others : List TreeRow) (self other : Tree) → tree_in A rows ≡ self → tree_in B others ≡ other → AreTreeRows A rows → AreTreeRows B others → count_below (merged self other) ≡ length rows + new_among (below_in rows) (entries_view others)
count_merged A B rows others self other seen seen_other mine theirs =
    count_united rows (entries_view others) (merged self other) (union A B) mine.in_order (apart_from_order (entries_view others) theirs.in_order)
    ((λ i. record { coverage = union A B; below = insert_rows (below_in rows) (sym (entries_below others theirs.in_order) i) })
    ∙ tree_merged (tree_in A rows) mine.tree (tree_in B others) theirs.tree ∙ (λ i. merged (seen i) (seen_other i)))

-- what two calls of a part of the tree say, put together
pub from_equal_ranks : (A B : Ranks) (rows : List TreeRow) (t : Tree) → B ≡ A → MakesTree A rows t → MakesTree B rows t
from_equal_ranks A B rows t e h = subst (λ C. MakesTree C rows t) (sym e) h

-- the rows that a reader sees: the root, and the rows in order
pub rows_of-owned : (C : Ranks) (rows : List TreeRow) → HasIncreasingPaths rows → rows_of (tree_in C rows) ≡ ([], (C, none)) ∷ entries_view rows
rows_of-owned C rows up = ap (λ es. ([], (C, none)) ∷ es) (entries_below rows up)

-- one more than there are below the root
pub length-rows_of : (C : Ranks) (rows : List TreeRow) → HasIncreasingPaths rows → length (rows_of (tree_in C rows)) ≡ suc (length rows)
length-rows_of C rows up = ap length (rows_of-owned C rows up) ∙ ap suc (length-map rows entry_of)

-- the last frame of a path
pub frame_of-last : (p : Path) (k : ℕ) (f : List ℕ) → suc k ≡ length p → slice_get p k ≡ Some f → frame_of p ≡ f
frame_of-last [] k f e is = absurd (omega arith)
frame_of-last (g ∷ []) zero f e is = same_Some g f is
frame_of-last (g ∷ []) (suc k) f e is = absurd (omega arith)
frame_of-last (g ∷ h ∷ p) zero f e is = absurd (omega arith)
frame_of-last (g ∷ h ∷ p) (suc k) f e is = frame_of-last (h ∷ p) k f (omega arith) is

slice_get_after : {A : Type 0} (x : A) (xs : List A) (i : ℕ) → (i ≡ 0 → ⊥) → slice_get (x ∷ xs) i ≡ slice_get xs (i - 1)
slice_get_after x xs zero some = absurd (some refl)
slice_get_after x xs (suc i) some = let e : i ≡ suc i - 1 = omega arith in ap (slice_get xs) e

-- a row past the root is one of the vector's
pub row_below : (C : Ranks) (rows : List TreeRow) (i : ℕ) → HasIncreasingPaths rows → (i ≡ 0 → ⊥) → slice_get (rows_of (tree_in C rows)) i ≡ slice_get (entries_view rows) (i - 1)
row_below C rows i up some = ap (λ es. slice_get es i) (rows_of-owned C rows up) ∙ slice_get_after ([], (C, none)) (entries_view rows) i some

-- a row that is read is that entry
pub entry_read : (rows : List TreeRow) (i : ℕ) (row : TreeRow) → i < length rows → row ≡ get_or rows i row → slice_get (entries_view rows) i ≡ Some (entry_of row)
entry_read rows i row lt is = slice_get-map entry_of rows i ∙ ap (option_map entry_of) (slice_get_read rows (length rows) i row refl lt is)
