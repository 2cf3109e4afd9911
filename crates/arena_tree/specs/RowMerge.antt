-- Two forests merged: the nodes of the first stay where they are, and new ones get the places from n on.
use Rattle.std.specs.Prelude.{ℕ, suc, ◌+◌}
use Rattle.rank_set.specs.Ranks.{union}
use Rattle.prefix_tree.specs.Tree.{Marks}
use Rattle.prefix_tree.specs.Owned.{by_order}
use Rattle.arena_tree.specs.RowForest.{RowForest, no_rows, row_node, frame_cmp, size}

-- marks of both
abbrev pub united_marks : Marks → Marks → Marks
united_marks m w = (union m.0 w.0, union m.1 w.1)

-- how many nodes of the second are new
abbrev pub count_new : RowForest → RowForest → ℕ
count_new no_rows no_rows = 0
count_new (row_node a f m b s) no_rows = 0
count_new no_rows (row_node x g w c t) = suc (size c + count_new no_rows t)
count_new (row_node a f m b s) (row_node x g w c t) = by_order (frame_cmp g f) (suc (size c + count_new (row_node a f m b s) t)) (count_new b c + count_new s t) (count_new s (row_node x g w c t))

-- both forests as one
abbrev pub merge_rows : ℕ → RowForest → RowForest → RowForest
merge_rows n no_rows no_rows = no_rows
merge_rows n (row_node a f m b s) no_rows = row_node a f m b s
merge_rows n no_rows (row_node x g w c t) = row_node n g w (merge_rows (suc n) no_rows c) (merge_rows (suc n + size c) no_rows t)
merge_rows n (row_node a f m b s) (row_node x g w c t) =
    by_order (frame_cmp g f)
    (row_node n g w (merge_rows (suc n) no_rows c) (merge_rows (suc n + size c) (row_node a f m b s) t))
    (row_node a f (united_marks m w) (merge_rows n b c) (merge_rows (n + count_new b c) s t))
    (row_node a f m b (merge_rows n s (row_node x g w c t)))
