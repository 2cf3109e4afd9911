-- The tree of edited ends has no more rows than the tree.
use Rattle.std.proofs.Common.{◌≡◌, ℕ, zero, suc, ◌-◌, ◌≤◌, Bool, true, ◌&&◌, List, [], ◌∷◌, length, map, take, sym, ◌∙◌, inl, inr, arith}
use Rattle.std.specs.List.{list_any}
use Rattle.std.specs.FinMap as finmap
use Rattle.std.proofs.lemmas.Bool.{true≢false, or_cases, and_parts, or_left, or_right}
use Rattle.std.proofs.lemmas.List.{length-map}
use Rattle.rank_set.specs.Ranks.{Ranks, has}
use Rattle.call_path.specs.Path.{Path, is_path, is_prefix}
use Rattle.call_path.specs.Pairs.{Pairs, passes, is_pair, is_below}
use Rattle.prefix_tree.specs.Tree.{Marks, Tree, IsTree, tree_of, count_below, pairs_of}
use Rattle.prefix_tree.specs.Joined.{in_rows, seen, IsTreeOf}
use Rattle.prefix_tree.proofs.Keys.{len_within, seen_key}
use Rattle.prefix_tree.proofs.PairLemmas.{pair_from_passes, passes-from_pair}
use Rattle.prefix_tree.proofs.Rows.{in_rows-entries}
use Rattle.prefix_tree.proofs.TreeLemmas.{IsTreeOf-tree_of, IsTreeOf-from_equal}
use Rattle.prefix_tree.proofs.Walking.{is_prefix-trans, some_there}
use Rattle.tree_view.specs.Selections.{edited}
use Rattle.tree_view.proofs.EditLemmas.{is_pair-edited}

abbrev each : Marks → Bool
each m = true

any_path : (p : Path) (es : List (Path × Marks)) → in_rows each es p ≡ true → list_any (is_path p) (map (λ (e : Path × Marks). e.0) es) ≡ true
any_path p [] h = h
any_path p (e ∷ es) h = elim (or_cases (is_path p e.0 && true) (in_rows each es p) h) [
  | inl here ↦ or_left (is_path p e.0) (list_any (is_path p) (map (λ (e : Path × Marks). e.0) es)) ((and_parts (is_path p e.0) true here).0)
  | inr later ↦ or_right (is_path p e.0) (list_any (is_path p) (map (λ (e : Path × Marks). e.0) es)) (any_path p es later)
]

-- a row of the first rows is a row
in_first : (test : Marks → Bool) (n : ℕ) (es : List (Path × Marks)) (q : Path) → in_rows test (take n es) q ≡ true → in_rows each es q ≡ true
in_first test zero es q h = absurd (true≢false (sym h))
in_first test (suc n) [] q h = absurd (true≢false (sym h))
in_first test (suc n) (e ∷ es) q h = elim (or_cases (is_path q e.0 && test e.1) (in_rows test (take n es) q) h) [
  | inl here ↦ or_left (is_path q e.0 && true) (in_rows each es q) ((λ i. (and_parts (is_path q e.0) (test e.1) here).0 i && true))
  | inr later ↦ or_right (is_path q e.0 && true) (in_rows each es q) (in_first test n es q later)
]

module _ (t : Tree) (is : IsTree t) (h : Path → Marks → Ranks) (C : Ranks) (n : ℕ) where
  own : IsTreeOf (pairs_of t) t.coverage t
  own = IsTreeOf-from_equal (pairs_of t) t.coverage t is

  -- with a row there stands one at each shorter path
  shorter : (p q : Path) → is_below p ≡ true → is_prefix p q ≡ true → seen each t.below q ≡ true → seen each t.below p ≡ true
  shorter p q below starts there =
      let some = own.used q there in
      let inner = and_parts (has t.coverage some.0) (passes (pairs_of t) some.0 q) ((and_parts (is_below q) (has t.coverage some.0 && passes (pairs_of t) some.0 q) (sym (own.labels q some.0) ∙ some.1)).1) in
      let pair = pair_from_passes (pairs_of t) some.0 q inner.1 in
      let passed = passes-from_pair (pairs_of t) some.0 p pair.path pair.seen_in (is_prefix-trans p q pair.path starts pair.starts) in
      some_there some.0 (finmap.get t.below p) (own.labels p some.0 ∙ (λ i. below i && (inner.0 i && passed i)))

  abbrev Q : Pairs
  Q = edited h (take n (finmap.entries t.below))

  row_there : (p : Path) → finmap.contains_key (tree_of Q C).below p ≡ true → list_any (is_path p) (map (λ (e : Path × Marks). e.0) (finmap.entries t.below)) ≡ true
  row_there p key =
      let made = IsTreeOf-tree_of Q C in
      let used = made.used p (seen_key (tree_of Q C).below p key) in
      let parts = and_parts (is_below p) (has C used.0 && passes Q used.0 p) (sym (made.labels p used.0) ∙ used.1) in
      let pair = pair_from_passes Q used.0 p (and_parts (has C used.0) (passes Q used.0 p) parts.1).1 in
      let there = in_first (λ m. has (h pair.path m) used.0) n (finmap.entries t.below) pair.path (sym (is_pair-edited h (take n (finmap.entries t.below)) used.0 pair.path) ∙ pair.seen_in) in
      any_path p (finmap.entries t.below) (in_rows-entries each t.below p ∙ shorter p pair.path parts.0 pair.starts (sym (in_rows-entries each t.below pair.path) ∙ there))

  -- whatever the ends, and however many of the rows
  pub few_edited : count_below (tree_of Q C) ≤ count_below t
  few_edited =
      let le : finmap.len (tree_of Q C).below ≤ length (map (λ (e : Path × Marks). e.0) (finmap.entries t.below)) = len_within (map (λ (e : Path × Marks). e.0) (finmap.entries t.below)) _ row_there in
      omega (arith, le, length-map (finmap.entries t.below) (λ (e : Path × Marks). e.0), finmap.len-entries t.below)
