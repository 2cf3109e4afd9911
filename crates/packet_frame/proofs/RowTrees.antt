-- The tree of rows, and of one row more.
use Rattle.std.proofs.Common.{◌≡◌, cond, List, [], ◌∷◌, ◌++◌, refl, sym, ap, ◌∙◌, inl, inr, append_assoc}
use Rattle.std.proofs.lemmas.Grind.{flat_map-append}
use Rattle.std.proofs.lemmas.List.{append-nil}
use Rattle.rank_set.specs.Ranks.{Ranks, in_order, is_empty}
use Rattle.call_path.specs.Pairs.{pairs_at}
use Rattle.prefix_tree.specs.Tree.{Tree, tree_of, added}
use Rattle.prefix_tree.proofs.PairLemmas.{no_pairs}
use Rattle.prefix_tree.proofs.TreeLaws.{added-tree_of}
use Rattle.packet_frame.specs.Frame.{Row}
use Rattle.packet_frame.specs.Sent.{pairs_of_rows}
use Rattle.packet_frame.specs.FrameRows.{grown, rows_onto}
use Rattle.packet_frame.proofs.FormLaws.{bool_case}

one_more : (rows : List Row) (row : Row) → pairs_of_rows (rows ++ row ∷ []) ≡ pairs_of_rows rows ++ pairs_at (in_order row.ends) row.path
one_more rows row = flat_map-append (λ r. pairs_at (in_order r.ends) r.path) rows (row ∷ []) ∙ ap (λ Q. pairs_of_rows rows ++ Q) (append-nil (pairs_at (in_order row.ends) row.path))

-- a row more is the ends of a row more
pub grown_is : (cover : Ranks) (rows : List Row) (row : Row) (t : Tree) → t ≡ tree_of (pairs_of_rows rows) cover → grown t row.ends row.path ≡ tree_of (pairs_of_rows (rows ++ row ∷ [])) cover
grown_is cover rows row t is =
    elim (bool_case (is_empty row.ends)) [
      | inl nobody ↦
          ap (λ b. cond b t (added t row.ends row.path)) nobody ∙ is
          ∙ ap (λ P. tree_of P cover) (sym (one_more rows row ∙ ap (λ Q. pairs_of_rows rows ++ Q) (no_pairs row.ends row.path nobody) ∙ append-nil (pairs_of_rows rows)))
      | inr some ↦
          ap (λ b. cond b t (added t row.ends row.path)) some
          ∙ ap (λ u. added u row.ends row.path) is
          ∙ added-tree_of (pairs_of_rows rows) cover row.ends row.path
          ∙ ap (λ P. tree_of P cover) (sym (one_more rows row))
    ]

-- the tree of rows, with more rows, is the tree of all
rows_behind : (cover : Ranks) (front rows : List Row) (t : Tree) → t ≡ tree_of (pairs_of_rows front) cover → rows_onto t rows ≡ tree_of (pairs_of_rows (front ++ rows)) cover
rows_behind cover front [] t is = is ∙ ap (λ rs. tree_of (pairs_of_rows rs) cover) (sym (append-nil front))
rows_behind cover front (r ∷ rs) t is = rows_behind cover (front ++ r ∷ []) rs (grown t r.ends r.path) (grown_is cover front r t is) ∙ ap (λ all. tree_of (pairs_of_rows all) cover) (append_assoc front (r ∷ []) rs)

-- the tree of rows is made row by row
pub all_rows : (cover : Ranks) (rows : List Row) → tree_of (pairs_of_rows rows) cover ≡ rows_onto (tree_of [] cover) rows
all_rows cover rows = sym (rows_behind cover [] rows (tree_of [] cover) refl)
