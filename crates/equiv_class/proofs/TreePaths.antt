-- What the rows of a tree say of its pairs: which ranks are equivalent, and the paths of each.
use Rattle.std.proofs.Common.{◌≡◌, ℕ, ◌==◌, Bool, true, false, cond, not, ◌&&◌, ◌||◌, List, [], ◌∷◌, Some, None, is_some, map, refl, sym, ap, ◌∙◌, T}
use Rattle.std.specs.List.{list_all, filter}
use Rattle.std.specs.Cmp.{both_ways}
use Rattle.std.specs.FinMap as finmap
use Rattle.std.specs.FinMap.Entries.{below_all}
use Rattle.std.specs.Ordering.{is_lt}
use Rattle.std.proofs.lemmas.Bool.{true≢false, and_parts, and_from, or_right, eqb-true}
use Rattle.call_path.proofs.PathLemmas.{is_path-exact, is_path-itself}
use Rattle.rank_set.specs.Ranks.{Ranks, has, size, has-none, none_from_size}
use Rattle.call_path.specs.Path.{Path, path_cmp, is_path, path_cmp_total, path_cmp_exact}
use Rattle.call_path.specs.Pairs.{is_pair}
use Rattle.prefix_tree.specs.Tree.{Tree, Marks, pairs_of}
use Rattle.prefix_tree.specs.Joined.{in_rows, ended}
use Rattle.prefix_tree.proofs.Rows.{both, first, in_rows-entries, less, none_from, own_row, second}
use Rattle.prefix_tree.proofs.PairLemmas.{is_pair-pairs_of}
use Rattle.equiv_class.specs.Classes.{equivalent, same_answer, paths_of}
use Rattle.equiv_class.specs.SeenPaths.{Lists, ends_at, has_ends, paths_to, same_paths, seen_in}
use Rattle.equiv_class.proofs.PathsInOrder.{find_paths, keys-marked_paths, marked_paths, tags}
use Rattle.equiv_class.proofs.Equivalent.{equivalent-from_paths, paths-from_equivalent, same_from_equal, equal_from_same}

-- each of the rows has both ranks in its ends, or neither
abbrev same_in_rows : ℕ → ℕ → List (Path × Marks) → Bool
same_in_rows r s es = list_all (λ e. same_answer (has e.1.1 r) (has e.1.1 s)) es

same_rows : (r s : ℕ) (es : List (Path × Marks)) (q : Path) → same_in_rows r s es ≡ true → in_rows (ended r) es q ≡ in_rows (ended s) es q
same_rows r s [] q each = refl
same_rows r s (e ∷ es) q each =
    let parts = and_parts (same_answer (has e.1.1 r) (has e.1.1 s)) (same_in_rows r s es) each in
    (λ i. (is_path q e.0 && equal_from_same (has e.1.1 r) (has e.1.1 s) parts.0 i) || same_rows r s es q parts.1 i)

pair_rows : (t : Tree) (r : ℕ) (q : Path) → is_pair (pairs_of t) r q ≡ in_rows (ended r) (finmap.entries t.below) q
pair_rows t r q = is_pair-pairs_of t r q ∙ sym (in_rows-entries (ended r) t.below q)

-- a later row has another path than an earlier one
skip_row : (test : Marks → Bool) (e f : Path × Marks) (es : List (Path × Marks)) → T (finmap.is_sorted path_cmp (e ∷ es)) → in_rows (λ m. true) es f.0 ≡ true → in_rows test (e ∷ es) f.0 ≡ in_rows test es f.0
skip_row test e f es up there = elim (is_path f.0 e.0) as (λ b. is_path f.0 e.0 ≡ b → ((b && test e.1) || in_rows test es f.0) ≡ in_rows test es f.0) [
  | true ↦ λ same. absurd (true≢false (sym there ∙ ap (in_rows (λ m. true) es) (is_path-exact f.0 e.0 same) ∙ after es up))
  | false ↦ λ other. refl
] refl
  where
    after : (fs : List (Path × Marks)) → T (finmap.is_sorted path_cmp (e ∷ fs)) → in_rows (λ m. true) fs e.0 ≡ false
    after [] u = refl
    after (g ∷ fs) u = none_from (λ m. true) e.0 g fs (less _ (first _ _ (first _ _ u))) (second _ _ u)

rows_same : (r s : ℕ) (es : List (Path × Marks)) → T (finmap.is_sorted path_cmp es) → ((q : Path) → in_rows (λ m. true) es q ≡ true → in_rows (ended r) es q ≡ in_rows (ended s) es q) → same_in_rows r s es ≡ true
rows_same r s [] up each = refl
rows_same r s (e ∷ es) up each =
    let here : (is_path e.0 e.0 && true || in_rows (λ m. true) es e.0) ≡ true = ap (λ b. b && true || in_rows (λ m. true) es e.0) (is_path-itself e.0) in
    and_from (same_answer (has e.1.1 r) (has e.1.1 s)) (same_in_rows r s es)
    (same_from_equal _ _ (sym (own_row (ended r) e es up) ∙ each e.0 here ∙ own_row (ended s) e es up))
    (rows_same r s es (second _ _ up) (λ q there.
    let f : Path × Marks = (q, e.1) in
    sym (skip_row (ended r) e f es up there) ∙ each q (or_right (is_path q e.0 && true) (in_rows (λ m. true) es q) there) ∙ skip_row (ended s) e f es up there))

-- ranks are equivalent exactly where each row has both or neither in its ends
equivalent_rows : (t : Tree) (r s : ℕ) → equivalent (pairs_of t) r s ≡ same_in_rows r s (finmap.entries t.below)
equivalent_rows t r s = both_ways _ _
    (λ one. rows_same r s (finmap.entries t.below) (finmap.entries_sorted t.below) (λ q there. sym (pair_rows t r q) ∙ paths-from_equivalent (pairs_of t) r s one q ∙ pair_rows t s q))
    (λ one. equivalent-from_paths (pairs_of t) r s (λ q. pair_rows t r q ∙ same_rows r s (finmap.entries t.below) q one ∙ sym (pair_rows t s q)))

-- the paths of the rows at which the rank ends
abbrev paths_in_rows : ℕ → List (Path × Marks) → List Path
paths_in_rows r es = map (λ e. e.0) (filter (λ e. has e.1.1 r) es)

-- the same, each with a mark
abbrev marked_rows : ℕ → List (Path × Marks) → List (Path × Unit {0})
marked_rows r es = map (λ e. let m : Path × Unit {0} = (e.0, tt) in m) (filter (λ e. has e.1.1 r) es)

find_marked : (r : ℕ) (es : List (Path × Marks)) (q : Path) → is_some (finmap.find path_cmp q (marked_rows r es)) ≡ in_rows (ended r) es q
find_marked r [] q = refl
find_marked r (e ∷ es) q = elim (has e.1.1 r) as (λ b. is_some (finmap.find path_cmp q (map (λ e. let m : Path × Unit {0} = (e.0, tt) in m) (cond b (e ∷ filter (λ e. has e.1.1 r) es) (filter (λ e. has e.1.1 r) es)))) ≡ (is_path q e.0 && b || in_rows (ended r) es q)) [
  | true ↦ elim (is_path q e.0) as (λ c. is_some (cond c (Some tt) (finmap.find path_cmp q (marked_rows r es))) ≡ (c && true || in_rows (ended r) es q)) [ true ↦ refl | false ↦ find_marked r es q ]
  | false ↦ find_marked r es q ∙ elim (is_path q e.0) as (λ c. in_rows (ended r) es q ≡ (c && false || in_rows (ended r) es q)) [ true ↦ refl | false ↦ refl ]
]

below_marked : (r : ℕ) (k : Path) (es : List (Path × Marks)) → T (below_all path_cmp k es) → T (below_all path_cmp k (marked_rows r es))
below_marked r k [] up = tt
below_marked r k (e ∷ es) up =
    let lt : T (is_lt (path_cmp k e.0)) = first (is_lt (path_cmp k e.0)) (below_all path_cmp k es) up in
    let rest : T (below_all path_cmp k (marked_rows r es)) = below_marked r k es (second (is_lt (path_cmp k e.0)) (below_all path_cmp k es) up) in
    elim (has e.1.1 r) as (λ b. T (below_all path_cmp k (map (λ e. let m : Path × Unit {0} = (e.0, tt) in m) (cond b (e ∷ filter (λ e. has e.1.1 r) es) (filter (λ e. has e.1.1 r) es))))) [
      | true ↦ both (is_lt (path_cmp k e.0)) (below_all path_cmp k (marked_rows r es)) lt rest
      | false ↦ rest
    ]

marked_sorted : (r : ℕ) (es : List (Path × Marks)) → T (finmap.is_sorted path_cmp es) → T (finmap.is_sorted path_cmp (marked_rows r es))
marked_sorted r [] up = tt
marked_sorted r (e ∷ es) up =
    let under : T (below_all path_cmp e.0 es) = first (below_all path_cmp e.0 es) (finmap.is_sorted path_cmp es) up in
    let rest : T (finmap.is_sorted path_cmp (marked_rows r es)) = marked_sorted r es (second (below_all path_cmp e.0 es) (finmap.is_sorted path_cmp es) up) in
    elim (has e.1.1 r) as (λ b. T (finmap.is_sorted path_cmp (map (λ e. let m : Path × Unit {0} = (e.0, tt) in m) (cond b (e ∷ filter (λ e. has e.1.1 r) es) (filter (λ e. has e.1.1 r) es))))) [
      | true ↦ both (below_all path_cmp e.0 (marked_rows r es)) (finmap.is_sorted path_cmp (marked_rows r es)) (below_marked r e.0 es under) rest
      | false ↦ rest
    ]

firsts : (r : ℕ) (es : List (Path × Marks)) → map (λ e. e.0) (map (λ e. let m : Path × Unit {0} = (e.0, tt) in m) es) ≡ map (λ e. e.0) es
firsts r [] = refl
firsts r (e ∷ es) = ap (λ ps. e.0 ∷ ps) (firsts r es)

-- the paths of a rank, by the rows
paths_of_rows : (t : Tree) (r : ℕ) → paths_of (pairs_of t) r ≡ paths_in_rows r (finmap.entries t.below)
paths_of_rows t r =
    let es : List (Path × Marks) = finmap.entries t.below in
    let up = marked_sorted r es (finmap.entries_sorted t.below) in
    let same : finmap.from_entries {R = path_cmp} (marked_paths (pairs_of t) r) ≡ finmap.from_sorted {R = path_cmp} (marked_rows r es) =
    finmap.same_map path_cmp_total path_cmp_exact _ _ (λ q.
    finmap.get-from_entries path_cmp_total (marked_paths (pairs_of t) r) q ∙ tags _ ∙ ap (λ b. cond b (Some tt) None) (find_paths (pairs_of t) r q ∙ pair_rows t r q ∙ sym (find_marked r es q))
    ∙ sym (tags _) ∙ sym (finmap.get-from_sorted path_cmp (marked_rows r es) q up)) in
    keys-marked_paths (pairs_of t) r ∙ ap finmap.keys same ∙ ap (λ (xs : List (Path × Unit {0})). map (λ e. e.0) xs) (finmap.entries-from_sorted path_cmp (marked_rows r es) up) ∙ firsts r (filter (λ e. has e.1.1 r) es)

-- rows at which no rank ends say nothing of a rank
no_end : (E : Ranks) → (size E == 0) ≡ true → (r : ℕ) → has E r ≡ false
no_end E e r = ap (λ (S : Ranks). has S r) (none_from_size E (eqb-true (size E) 0 e)) ∙ has-none r

same_paths-seen : (r s : ℕ) (es : List (Path × Marks)) → same_paths r s (map ends_at (filter has_ends es)) ≡ same_in_rows r s es
same_paths-seen r s [] = refl
same_paths-seen r s (e ∷ es) = elim (size e.1.1 == 0) as (λ b. (size e.1.1 == 0) ≡ b → same_paths r s (map ends_at (cond (not b) (e ∷ filter has_ends es) (filter has_ends es))) ≡ same_in_rows r s (e ∷ es)) [
  | true ↦ λ empty. same_paths-seen r s es ∙ sym (λ i. same_answer (no_end e.1.1 empty r i) (no_end e.1.1 empty s i) && same_in_rows r s es)
  | false ↦ λ some. ap (λ b. same_answer (has e.1.1 r) (has e.1.1 s) && b) (same_paths-seen r s es)
] refl

paths_to-seen : (r : ℕ) (es : List (Path × Marks)) → paths_to r (map ends_at (filter has_ends es)) ≡ paths_in_rows r es
paths_to-seen r [] = refl
paths_to-seen r (e ∷ es) = elim (size e.1.1 == 0) as (λ b. (size e.1.1 == 0) ≡ b → paths_to r (map ends_at (cond (not b) (e ∷ filter has_ends es) (filter has_ends es))) ≡ paths_in_rows r (e ∷ es)) [
  | true ↦ λ empty. paths_to-seen r es ∙ sym (λ i. map (λ x. x.0) (cond (no_end e.1.1 empty r i) (e ∷ filter (λ x. has x.1.1 r) es) (filter (λ x. has x.1.1 r) es)))
  | false ↦ λ some. elim (has e.1.1 r) as (λ b. map (λ x. x.0) (cond b (ends_at e ∷ filter (λ x. has x.1 r) (map ends_at (filter has_ends es))) (filter (λ x. has x.1 r) (map ends_at (filter has_ends es)))) ≡ map (λ x. x.0) (cond b (e ∷ filter (λ x. has x.1.1 r) es) (filter (λ x. has x.1.1 r) es))) [
    | true ↦ ap (λ ps. e.0 ∷ ps) (paths_to-seen r es)
    | false ↦ paths_to-seen r es
  ]
] refl

-- the paths of a tree in which ranks were seen say of each rank what the tree's pairs say
pub Lists-tree : (t : Tree) → Lists (pairs_of t) (seen_in t)
Lists-tree t = record {
  same_ranks = λ r s. equivalent_rows t r s ∙ sym (same_paths-seen r s (finmap.entries t.below));
  paths_agree = λ r. paths_of_rows t r ∙ sym (paths_to-seen r (finmap.entries t.below));
}
