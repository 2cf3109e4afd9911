-- The tree of a frame's rows, row by row.
use Rattle.std.proofs.Common.{◌≡◌, ℕ, suc, ◌-◌, ◌≤◌, ◌<◌, List, [], ◌∷◌, ◌++◌, length, take, get_or, Result, Ok, Err, OnOk, IsTrue, refl, sym, ap, subst, ◌∙◌, arith, length-append}
use Rattle.std.proofs.lemmas.Bool.{true≢false}
use Rattle.std.proofs.Math.Seq.{take-suc, take-length}
use Rattle.rank_set.specs.Ranks.{Ranks, none, is_subset, union-none}
use Rattle.call_path.specs.Path.{Path}
use Rattle.prefix_tree.specs.Tree.{Tree, tree_of, count_below, Covers}
use Rattle.prefix_tree.proofs.TreeLemmas.{coverage-tree_of}
use Rattle.packet_frame.specs.declared.scan.Scan.{Scan}
use Rattle.packet_frame.specs.Frame.{row_of}
use Rattle.packet_frame.specs.Sent.{pairs_of_rows}
use Rattle.packet_frame.specs.FrameRows.{grown, NamedRow, row_named, path_behind, rows_view, last_path, HasGrown}
use Rattle.packet_frame.specs.Scanning.{IsNamed}
use Rattle.packet_frame.proofs.FewRows.{few_views}
use Rattle.packet_frame.proofs.RowTrees.{grown_is}

last_path-push : (before : Path) (rs : List NamedRow) (r : NamedRow) → last_path before (rs ++ r ∷ []) ≡ path_behind (last_path before rs) r
last_path-push before [] r = refl
last_path-push before (q ∷ qs) r = last_path-push (path_behind before q) qs r

rows_view-push : (before : Path) (rs : List NamedRow) (r : NamedRow) → rows_view before (rs ++ r ∷ []) ≡ rows_view before rs ++ row_of (path_behind (last_path before rs) r) r.ends ∷ []
rows_view-push before [] r = refl
rows_view-push before (q ∷ qs) r = let path = path_behind before q in (λ i. row_of path q.ends ∷ rows_view-push path qs r i)

-- a row more
module _ (cover : Ranks) (t : Tree) (last : Path) (more : ℕ) (g : HasGrown cover t last more) (some : 0 < more) (r : NamedRow) where
  abbrev all : List NamedRow
  all = g.rows ++ r ∷ []

  path_next : path_behind (last_path [] g.rows) r ≡ path_behind last r
  path_next = ap (λ p. path_behind p r) g.path

  next_tree : grown t r.ends (path_behind last r) ≡ tree_of (pairs_of_rows (rows_view [] all)) cover
  next_tree =
      ap (grown t r.ends) (sym path_next)
      ∙ grown_is cover (rows_view [] g.rows) (row_of (path_behind (last_path [] g.rows) r) r.ends) t g.tree
      ∙ ap (λ rows. tree_of (pairs_of_rows rows) cover) (sym (rows_view-push [] g.rows r))

  pub row_more : HasGrown cover (grown t r.ends (path_behind last r)) (path_behind last r) (more - 1)
  row_more = record {
    rows = all;
    tree = next_tree;
    path = last_path-push [] g.rows r ∙ path_next;
    few = omega (arith, length-append g.rows (r ∷ []), g.few, some);
  }

  pub row_room : count_below (grown t r.ends (path_behind last r)) ≤ 2048
  row_room =
      let le = few_views cover all in
      let len = length-append g.rows (r ∷ []) in
      subst (λ u. count_below u ≤ 2048) (sym next_tree) (omega (arith, le, len, g.few, some))

-- a path is its first frames and its last one
last_frame : (p : Path) (d : ℕ) → length p ≡ d → 1 ≤ d → take (d - 1) p ++ get_or p (d - 1) [] ∷ [] ≡ p
last_frame p d len some =
    let lt : d - 1 < length p = omega (arith, len, some) in
    let all : suc (d - 1) ≡ length p = omega (arith, len, some) in
    sym (take-suc p (d - 1) [] lt) ∙ ap (λ (n : ℕ). take n p) all ∙ take-length p

-- a row that was named
module _ {X : Type 0} (s : Scan X) (is : IsNamed s) (ends : Ranks) where
  abbrev row : NamedRow
  row = row_named (s.row.depth - 1) (get_or s.row.path (s.row.depth - 1) []) ends

  -- its path follows that of the row before
  named_path : path_behind is.before row ≡ s.row.path
  named_path = ap (λ front. front ++ get_or s.row.path (s.row.depth - 1) [] ∷ []) (sym is.kept) ∙ last_frame s.row.path s.row.depth is.len is.depth

  pub named_more : HasGrown s.cover.ranks (grown s.tree ends s.row.path) s.row.path (s.row.left - 1)
  named_more = subst (λ p. HasGrown s.cover.ranks (grown s.tree ends p) p (s.row.left - 1)) named_path (row_more s.cover.ranks s.tree is.before s.row.left is.grown is.some row)

  pub named_room : count_below (grown s.tree ends s.row.path) ≤ 2048
  named_room = subst (λ p. count_below (grown s.tree ends p) ≤ 2048) named_path (row_room s.cover.ranks s.tree is.before s.row.left is.grown is.some row)

  pub named_covered : IsTrue (is_subset ends s.cover.ranks) → IsTrue (is_subset ends s.tree.coverage)
  named_covered = subst (λ cover. IsTrue (is_subset ends cover)) (sym (ap (λ t. t.coverage) is.grown.tree ∙ coverage-tree_of _ s.cover.ranks))

-- the tree of no rows
no_rows : (t u : Tree) (cover : Ranks) → t ≡ tree_of [] none → Covers t cover u → u ≡ tree_of [] cover
no_rows t u cover empty covers = covers [] none (λ r p h. absurd (true≢false (sym h))) empty ∙ ap (tree_of []) (union-none cover)

pub restarted : {E : Type 0} (r : Result (Unit {0}) E) (t u : Tree) (cover : Ranks) → t ≡ tree_of [] none → OnOk r (Covers t cover u) → OnOk r (u ≡ tree_of [] cover)
restarted (Ok x) t u cover empty covers = no_rows t u cover empty covers
restarted (Err e) t u cover empty covers = tt
