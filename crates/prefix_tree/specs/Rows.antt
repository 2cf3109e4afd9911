-- The trees of two small sets of pairs, computed.
use Rattle.std.specs.Prelude.{◌≡◌, ℕ, refl, List, [], ◌∷◌, ◌++◌, length, codes}
use Rattle.std.proofs.Common.{sym, ap, ◌∙◌, arith}
use Rattle.std.specs.FinMap as finmap
use Rattle.rank_set.specs.Ranks.{Ranks, none, has, with_rank, those, set_of}
use Rattle.call_path.specs.Path.{Path, path_cmp, path_cmp_total}
use Rattle.call_path.specs.Pairs.{Pairs, pairs_at, prefixes_of}
use Rattle.prefix_tree.specs.Tree.{Marks, rows_at, rows_of, tree_of}

-- rows put in order, the last first
abbrev in_order_of : List (Path × Marks) → List (Path × Marks)
in_order_of [] = []
in_order_of (e ∷ es) = finmap.put path_cmp e.0 e.1 (in_order_of es)

-- a list of no length
no_rows : (es : List (Path × Marks)) → length es ≡ 0 → es ≡ []
no_rows [] e = refl
no_rows (x ∷ es) e = absurd (omega arith)

-- the entries of a map are the rows put in order
entries_in_order : (es : List (Path × Marks)) → finmap.entries (finmap.from_entries {R = path_cmp} es) ≡ in_order_of es
entries_in_order [] = no_rows _ (sym (finmap.len-entries (finmap.empty {X = Marks} {R = path_cmp})) ∙ finmap.len-empty path_cmp Marks)
entries_in_order (e ∷ es) = finmap.entries-insert path_cmp_total (finmap.from_entries es) e.0 e.1 ∙ ap (finmap.put path_cmp e.0 e.1) (entries_in_order es)

-- the rows of a tree, by a function that computes
computed : (P : Pairs) (C : Ranks) → rows_of (tree_of P C) ≡ ([], (C, none)) ∷ in_order_of (rows_at P C (prefixes_of P))
unfolding tree_of
computed P C = ap (λ es. ([], (C, none)) ∷ es) (entries_in_order (rows_at P C (prefixes_of P)))

-- frames of the samples
abbrev main : List ℕ
main = codes "main"

-- where three ranks wait
abbrev barrier : List ℕ
barrier = codes "MPI_Barrier"

-- where one goes on
abbrev compute : List ℕ
compute = codes "compute"

-- three ranks at a barrier, and one that computes
abbrev stuck : Pairs
stuck = pairs_at (0 ∷ 2 ∷ 3 ∷ []) (main ∷ barrier ∷ []) ++ pairs_at (1 ∷ []) (main ∷ compute ∷ [])

-- the ranks of the job
abbrev all_four : Ranks
all_four = set_of (0 ∷ 1 ∷ 2 ∷ 3 ∷ [])

-- those at the barrier
abbrev waiting : Ranks
waiting = set_of (0 ∷ 2 ∷ 3 ∷ [])

-- all pass `main`, and there each goes its own way
stuck_rows : rows_of (tree_of stuck all_four)
    ≡ ([], (all_four, none))
    ∷ (main ∷ [], (all_four, none))
    ∷ (main ∷ barrier ∷ [], (waiting, waiting))
    ∷ (main ∷ compute ∷ [], (set_of (1 ∷ []), set_of (1 ∷ [])))
    ∷ []
unfolding has with_rank those
stuck_rows = computed stuck all_four ∙ refl

-- one rank where another goes deeper
abbrev deeper : Pairs
deeper = pairs_at (0 ∷ []) (main ∷ codes "a" ∷ []) ++ pairs_at (1 ∷ []) (main ∷ codes "a" ∷ codes "b" ∷ [])

-- two ranks
abbrev both : Ranks
both = set_of (0 ∷ 1 ∷ [])

-- the one ends where the other passes
deeper_rows : rows_of (tree_of deeper both)
    ≡ ([], (both, none))
    ∷ (main ∷ [], (both, none))
    ∷ (main ∷ codes "a" ∷ [], (both, set_of (0 ∷ [])))
    ∷ (main ∷ codes "a" ∷ codes "b" ∷ [], (set_of (1 ∷ []), set_of (1 ∷ [])))
    ∷ []
unfolding has with_rank those
deeper_rows = computed deeper both ∙ refl

-- a rank outside the coverage is in no row
deeper_rows_of_one : rows_of (tree_of deeper (set_of (0 ∷ [])))
    ≡ ([], (set_of (0 ∷ []), none))
    ∷ (main ∷ [], (set_of (0 ∷ []), none))
    ∷ (main ∷ codes "a" ∷ [], (set_of (0 ∷ []), set_of (0 ∷ [])))
    ∷ []
unfolding has with_rank those
deeper_rows_of_one = computed deeper (set_of (0 ∷ [])) ∙ refl
