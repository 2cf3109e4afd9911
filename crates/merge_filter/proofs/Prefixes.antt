-- How many rows a tree has.
use Rattle.std.proofs.Common.{◌≡◌, ℕ, ◌≤◌, Bool, true, false, cond, ◌&&◌, nat_eq, List, [], ◌∷◌, length, map, Some, None, refl, sym, ap, subst, ◌∙◌, arith, T, eq-eqb}
use Rattle.std.proofs.lemmas.Bool.{true≢false, and_parts, and_from, eqb-true}
use Rattle.std.proofs.lemmas.List.{length-map}
use Rattle.std.proofs.lemmas.Cmp.{eq_by_cmp_equiv}
use Rattle.std.proofs.lemmas.Map.Made.{length-from_keys, length-le_from_is_member}
use Rattle.std.specs.List.{list_any, IsDistinct, AllByRecursion}
use Rattle.std.specs.Option.{is_some}
use Rattle.std.specs.Ordering.{is_eq, is_lt}
use Rattle.std.specs.declared.cmp.Ordering.{Ordering}
use Rattle.std.specs.declared.cmp.Ordering.TheVariants.{Less, Equal, Greater}
use Rattle.std.specs.FinMap as finmap
use Rattle.std.specs.FinMap.Entries.{below_all}
use Rattle.rank_set.proofs.SomeMember.{some_member}
use Rattle.rank_set.specs.Ranks.{Ranks, has, size, has-those, none_from_size, has-none}
use Rattle.call_path.specs.Path.{Path, path_cmp, is_path, is_prefix, path_cmp_total}
use Rattle.call_path.specs.Pairs.{Pairs, passes, prefixes_of}
use Rattle.prefix_tree.specs.Pairs.{label, ends, IsWithin}
use Rattle.prefix_tree.specs.Tree.{Marks, Tree, tree_of, row_at, marks_of, count_below}
use Rattle.prefix_tree.proofs.PairLemmas.{passes_within}
use Rattle.prefix_tree.proofs.TreeLemmas.{get-tree_of}
use Rattle.prefix_tree.proofs.Rows.{first, second}
use Rattle.stat_plan.specs.Samples.{prefix_count}
use Rattle.stat_plan.proofs.Counting.{dedup}
use Rattle.stat_plan.proofs.InLists.{any_from_in, in_from_any, in_from_map, in_map}
use Rattle.stat_plan.proofs.WavePrefixes.{any-prefixes_of}
use Rattle.merge_filter.proofs.WaveSamples.{both_ways}

not_equal : (o : Ordering) → T (is_lt o) → is_eq o ≡ false
not_equal Less lt = refl
not_equal Equal lt = absurd lt
not_equal Greater lt = absurd lt

-- a key below all of some entries is at none of them
distinct : (x : Path) (es : List (Path × Marks)) → T (below_all path_cmp x es) → AllByRecursion (λ y. is_path x y ≡ false) (map (λ e. e.0) es)
distinct x [] below = tt
distinct x (e ∷ es) below =
    (not_equal (path_cmp x e.0) (first (is_lt (path_cmp x e.0)) (below_all path_cmp x es) below), distinct x es (second (is_lt (path_cmp x e.0)) (below_all path_cmp x es) below))

-- the keys of entries in order are all different
keys_differ : (es : List (Path × Marks)) → T (finmap.is_sorted path_cmp es) → IsDistinct is_path (map (λ e. e.0) es)
unfolding IsDistinct
keys_differ [] up = tt
keys_differ (e ∷ es) up = (distinct e.0 es (first (below_all path_cmp e.0 es) (finmap.is_sorted path_cmp es) up), keys_differ es (second (below_all path_cmp e.0 es) (finmap.is_sorted path_cmp es) up))

-- the prefixes of a tree, in order
abbrev pub prefixes_in : Tree → List Path
prefixes_in t = finmap.keys t.below

length-prefixes_in : (t : Tree) → length (prefixes_in t) ≡ count_below t
length-prefixes_in t = length-map (finmap.entries t.below) (λ (e : Path × Marks). e.0) ∙ sym (finmap.len-entries t.below)

-- a prefix of a tree is one at which ranks pass
pub any-prefixes_in : (P : Pairs) (C : Ranks) (p : Path) → list_any (is_path p) (prefixes_in (tree_of P C)) ≡ is_some (row_at P C p)
any-prefixes_in P C p = sym (finmap.contains_key-keys (tree_of P C).below p) ∙ ap is_some (get-tree_of P C p)

-- a row stands where some covered rank passes
row_from_member : (P : Pairs) (C : Ranks) (f : List ℕ) (p : Path) (r : ℕ) → has (label P C (f ∷ p)) r ≡ true → is_some (row_at P C (f ∷ p)) ≡ true
row_from_member P C f p r there = by (nat_eq (size (label P C (f ∷ p))) 0) refl
  where
    by : (b : Bool) → nat_eq (size (label P C (f ∷ p))) 0 ≡ b → is_some {T = Marks} (cond b None (Some (label P C (f ∷ p), ends P C (f ∷ p)))) ≡ true
    by false e = refl
    by true e = absurd (true≢false (sym there ∙ ap (λ s. has s r) (none_from_size (label P C (f ∷ p)) (eqb-true (size (label P C (f ∷ p))) 0 e)) ∙ has-none r))

-- a row has a rank that passes there
pub member_from_row : (P : Pairs) (C : Ranks) (f : List ℕ) (p : Path) → is_some (row_at P C (f ∷ p)) ≡ true → (r : ℕ) × (has (label P C (f ∷ p)) r ≡ true)
member_from_row P C f p there = some_member (label P C (f ∷ p)) (λ e. true≢false (sym there ∙ ap (λ s. is_some (marks_of s (ends P C (f ∷ p)))) e))

prefixes_differ : (t : Tree) → IsDistinct is_path (prefixes_in t)
prefixes_differ t = keys_differ (finmap.entries t.below) (finmap.entries_sorted t.below)

-- a tree whose every prefix stands in a list has at most as many as the list
pub count-within : (P : Pairs) (C : Ranks) (ps : List Path) → ((p : Path) → is_some (row_at P C p) ≡ true → list_any (is_path p) ps ≡ true) → count_below (tree_of P C) ≤ length ps
count-within P C ps each =
    let t : Tree = tree_of P C in
    let fewer : length (prefixes_in t) ≤ length ps =
    length-le_from_is_member (eq_by_cmp_equiv path_cmp_total) (prefixes_in t) ps (prefixes_differ t)
    (λ p there. each p (sym (any-prefixes_in P C p) ∙ there)) in
    subst (λ n. n ≤ length ps) (length-prefixes_in t) fewer

-- where each prefix that a rank of C passes in P is passed by a rank of D in Q, there are no more prefixes
pub count-passed : (P Q : Pairs) (C D : Ranks) → ((r : ℕ) (p : Path) → has C r ≡ true → passes P r p ≡ true → (q : ℕ) × ((has D q ≡ true) × (passes Q q p ≡ true))) → count_below (tree_of P C) ≤ count_below (tree_of Q D)
count-passed P Q C D passed =
    subst (λ n. count_below (tree_of P C) ≤ n) (length-prefixes_in (tree_of Q D))
    (count-within P C (prefixes_in (tree_of Q D)) (λ p there. any-prefixes_in Q D p ∙ row p there))
  where
    row : (p : Path) → is_some (row_at P C p) ≡ true → is_some (row_at Q D p) ≡ true
    row [] there = there
    row (f ∷ p) there =
        let m = member_from_row P C f p there in
        let parts = and_parts (has C m.0) (passes P m.0 (f ∷ p)) (sym (has-those (λ r. passes P r (f ∷ p)) C m.0) ∙ m.1) in
        let other = passed m.0 (f ∷ p) parts.0 parts.1 in
        row_from_member Q D f p other.0 (has-those (λ r. passes Q r (f ∷ p)) D other.0 ∙ and_from (has D other.0) (passes Q other.0 (f ∷ p)) other.1.0 other.1.1)

-- more pairs over more ranks have the prefixes of fewer, and maybe others
pub count-more : (P Q : Pairs) (C D : Ranks) → ((r : ℕ) (p : Path) → passes P r p ≡ true → passes Q r p ≡ true) → ((r : ℕ) → has C r ≡ true → has D r ≡ true) → count_below (tree_of P C) ≤ count_below (tree_of Q D)
count-more P Q C D pairs ranks = count-passed P Q C D (λ r p in_C passing. (r, (ranks r in_C, pairs r p passing)))

-- a prefix that a rank passes is one of a path
starts_from_passes : (P : Pairs) (r : ℕ) (p : Path) → passes P r p ≡ true → list_any (is_prefix p) (map (λ e. e.1) P) ≡ true
starts_from_passes P r p passing =
    let pair = in_from_any (λ (e : ℕ × Path). nat_eq e.0 r && is_prefix p e.1) P passing in
    any_from_in (is_prefix p) pair.0.1 (map (λ (e : ℕ × Path). e.1) P) (in_map (λ (e : ℕ × Path). e.1) pair.0 P pair.1.0) (and_parts (nat_eq pair.0.0 r) (is_prefix p pair.0.1) pair.1.1).1

passes_from_starts : (P : Pairs) (p : Path) → list_any (is_prefix p) (map (λ e. e.1) P) ≡ true → (r : ℕ) × (passes P r p ≡ true)
passes_from_starts P p there =
    let path = in_from_any (is_prefix p) (map (λ (e : ℕ × Path). e.1) P) there in
    let pair = in_from_map (λ (e : ℕ × Path). e.1) P path.0 path.1.0 in
    (pair.0.0, any_from_in (λ (e : ℕ × Path). nat_eq e.0 pair.0.0 && is_prefix p e.1) pair.0 P pair.1.0 (and_from (nat_eq pair.0.0 pair.0.0) (is_prefix p pair.0.1) (eq-eqb pair.0.0 pair.0.0 refl) (ap (is_prefix p) (sym pair.1.1) ∙ path.1.1)))

-- the prefixes of a tree are prefixes of the pairs
row_is_prefix : (P : Pairs) (C : Ranks) (p : Path) → is_some (row_at P C p) ≡ true → list_any (is_path p) (prefixes_of P) ≡ true
row_is_prefix P C [] there = absurd (true≢false (sym there))
row_is_prefix P C (f ∷ p) there =
    let member = member_from_row P C f p there in
    let parts = and_parts (has C member.0) (passes P member.0 (f ∷ p)) (sym (has-those (λ r. passes P r (f ∷ p)) C member.0) ∙ member.1) in
    any-prefixes_of P (f ∷ p) ∙ starts_from_passes P member.0 (f ∷ p) parts.1

-- and where all ranks are covered, the prefixes of the pairs are the tree's
prefix_is_row : (P : Pairs) (C : Ranks) (p : Path) → IsWithin P C → list_any (is_path p) (prefixes_of P) ≡ true → is_some (row_at P C p) ≡ true
prefix_is_row P C [] within there = absurd (true≢false (sym there ∙ any-prefixes_of P []))
prefix_is_row P C (f ∷ p) within there =
    let passing = passes_from_starts P (f ∷ p) (sym (any-prefixes_of P (f ∷ p)) ∙ there) in
    row_from_member P C f p passing.0 (has-those (λ r. passes P r (f ∷ p)) C passing.0 ∙ and_from (has C passing.0) (passes P passing.0 (f ∷ p)) (passes_within P C within passing.0 (f ∷ p) passing.1) passing.1)

-- a tree has at most as many rows as the pairs have distinct prefixes
pub rows_within : (P : Pairs) (C : Ranks) → count_below (tree_of P C) ≤ prefix_count P
rows_within P C =
    let t : Tree = tree_of P C in
    let all = dedup (prefixes_of P) in
    let fewer = length-le_from_is_member (eq_by_cmp_equiv path_cmp_total) (prefixes_in t) all.keys (prefixes_differ t) (λ p there. all.members p ∙ row_is_prefix P C p (sym (any-prefixes_in P C p) ∙ there)) in
    let number = all.number in
    let rows = length-prefixes_in t in
    omega (arith, fewer, number, rows)

-- and exactly as many where it covers all their ranks
pub rows_all : (P : Pairs) (C : Ranks) → IsWithin P C → count_below (tree_of P C) ≡ prefix_count P
rows_all P C within =
    let t : Tree = tree_of P C in
    sym (length-prefixes_in t)
    ∙ length-from_keys (eq_by_cmp_equiv path_cmp_total) (prefixes_in t) (prefixes_of P) (prefixes_differ t) (λ p. any-prefixes_in P C p ∙ both_ways (is_some (row_at P C p)) (list_any (is_path p) (prefixes_of P)) (row_is_prefix P C p) (prefix_is_row P C p within))
