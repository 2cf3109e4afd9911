-- Trees of pairs: the one tree, trees put together, and a tree read back.
use Rattle.std.proofs.Common.{◌≡◌, ℕ, Bool, true, false, cond, ◌&&◌, ◌||◌, List, [], ◌∷◌, ◌++◌, Option, Some, None, refl, sym, ap, ◌∙◌, subst, eqb}
use Rattle.std.proofs.Common.{append-nil}
use Rattle.std.specs.List.{list_any}
use Rattle.std.specs.Ordering.{is_eq}
use Rattle.std.specs.Cmp.{both_ways, tied_itself}
use Rattle.std.specs.Cmp.Lexicographic.{nat_list_cmp_total}
use Rattle.std.specs.FinMap as finmap
use Rattle.std.proofs.lemmas.Bool.{true≢false, eqb-true, or_left}
use Rattle.rank_set.proofs.SomeMember.{first_member}
use Rattle.call_path.proofs.PathLemmas.{is_path-exact, any-prefixes, and_false}
use Rattle.rank_set.specs.Ranks.{Ranks, none, has, in_order, size, union, has-union, has-those, has-none, same_ranks, none_from_size}
use Rattle.call_path.specs.Path.{Path, path_cmp, is_path, is_prefix, path_cmp_total, path_cmp_exact}
use Rattle.call_path.specs.Pairs.{Pairs, pairs_at, is_pair, passes, prefixes, prefixes_of, is_below}
use Rattle.prefix_tree.specs.Pairs.{label, ends, IsWithin}
use Rattle.prefix_tree.specs.Tree.{Marks, Tree, marks_of, row_at, with_row, rows_at, tree_of, pairs_of, IsTree, merged, covered, added, Unites, Covers}
use Rattle.prefix_tree.specs.Joined.{insert_rows, in_rows, if_some, seen, labelled, ended, path_rows, AreRowsOf, IsTreeOf, AreSamePairs}
use Rattle.prefix_tree.proofs.Rows.{labelled_spreads, ended_spreads, seen-insert_rows, in_rows-entries}
use Rattle.prefix_tree.proofs.PairLemmas.{passes-append, is_pair-append, pair_from_passes, passes-from_pair, passes_within, is_pair-pairs_of, any-flat_map, rows_of_path, pairs_within}

-- what both show, where each is within its own ranks
spread : (b a c x y : Bool) → (x ≡ true → a ≡ true) → (y ≡ true → c ≡ true) → ((b && (a && x)) || (b && (c && y))) ≡ (b && ((a || c) && (x || y)))
spread false a c x y hx hy = refl
spread true true true x y hx hy = refl
spread true true false true y hx hy = refl
spread true true false false true hx hy = absurd (true≢false (sym (hy refl)))
spread true true false false false hx hy = refl
spread true false c true y hx hy = absurd (true≢false (sym (hx refl)))
spread true false true false y hx hy = refl
spread true false false false true hx hy = absurd (true≢false (sym (hy refl)))
spread true false false false false hx hy = refl

or_true_cases : (a b : Bool) (P : Type 0) → (a ≡ true → P) → (b ≡ true → P) → (a || b) ≡ true → P
or_true_cases true b P f g e = f refl
or_true_cases false b P f g e = g e

every_spreads : (a b : Marks) → true ≡ (true || true)
every_spreads a b = refl

module _ (P Q : Pairs) (A B : Ranks) (in_A : IsWithin P A) (in_B : IsWithin Q B) (t : Tree) (of_P : IsTreeOf P A t) (es : List (Path × Marks)) (of_Q : AreRowsOf Q B es) where
  -- rows put into a tree make the tree of the pairs of both, over the ranks of both
  pub put_together : IsTreeOf (P ++ Q) (union A B) (record { coverage = union t.coverage B; below = insert_rows t.below es })
  put_together = record {
    coverage = ap (λ s. union s B) of_P.coverage;
    labels = λ p r.
        seen-insert_rows (labelled r) (labelled_spreads r) t.below es p
        ∙ (λ i. of_P.labels p r i || of_Q.labels p r i)
        ∙ spread (is_below p) (has A r) (has B r) (passes P r p) (passes Q r p) (passes_within P A in_A r p) (passes_within Q B in_B r p)
        ∙ sym (λ i. is_below p && (has-union A B r i && passes-append P Q r p i));
    ends = λ p r.
        seen-insert_rows (ended r) (ended_spreads r) t.below es p
        ∙ (λ i. of_P.ends p r i || of_Q.ends p r i)
        ∙ spread (is_below p) (has A r) (has B r) (is_pair P r p) (is_pair Q r p) (in_A r p) (in_B r p)
        ∙ sym (λ i. is_below p && (has-union A B r i && is_pair-append P Q r p i));
    used = λ p there.
        or_true_cases (seen (λ m. true) t.below p) (in_rows (λ m. true) es p) _
        (λ old. let some = of_P.used p old in (some.0, seen-insert_rows (labelled some.0) (labelled_spreads some.0) t.below es p ∙ ap (λ b. b || in_rows (labelled some.0) es p) some.1))
        (λ new. let some = of_Q.used p new in (some.0, seen-insert_rows (labelled some.0) (labelled_spreads some.0) t.below es p ∙ ap (λ b. seen (labelled some.0) t.below p || b) some.1 ∙ or_any_true (seen (labelled some.0) t.below p)))
        (sym (seen-insert_rows (λ m. true) every_spreads t.below es p) ∙ there);
  }
    where
      or_any_true : (a : Bool) → (a || true) ≡ true
      or_any_true true = refl
      or_any_true false = refl

-- a tree's rows are those of its pairs
pub rows_of_tree : (P : Pairs) (C : Ranks) (t : Tree) → IsTreeOf P C t → AreRowsOf P C (finmap.entries t.below)
rows_of_tree P C t h = record {
  labels = λ p r. in_rows-entries (labelled r) t.below p ∙ h.labels p r;
  ends = λ p r. in_rows-entries (ended r) t.below p ∙ h.ends p r;
  used = λ p there. let some = h.used p (sym (in_rows-entries (λ m. true) t.below p) ∙ there) in (some.0, in_rows-entries (labelled some.0) t.below p ∙ some.1);
}

-- no rows show nothing
pub no_rows : (C : Ranks) → AreRowsOf [] C []
no_rows C = record {
  labels = λ p r. sym (none_here (is_below p) (has C r));
  ends = λ p r. sym (none_here (is_below p) (has C r));
  used = λ p there. absurd (true≢false (sym there));
}
  where
    none_here : (a b : Bool) → (a && (b && false)) ≡ false
    none_here true b = and_false b
    none_here false b = refl

-- one tree has the rows
module _ (P : Pairs) (C : Ranks) (t u : Tree) (one : IsTreeOf P C t) (two : IsTreeOf P C u) where
  same_marks : (p : Path) (x y : Option Marks) → finmap.get t.below p ≡ x → finmap.get u.below p ≡ y → x ≡ y
  same_marks p None None e f = refl
  same_marks p None (Some m) e f =
      let some = two.used p (ap (if_some (λ m. true)) f) in
      absurd (true≢false (sym some.1 ∙ two.labels p some.0 ∙ sym (one.labels p some.0) ∙ ap (if_some (labelled some.0)) e))
  same_marks p (Some m) None e f =
      let some = one.used p (ap (if_some (λ m. true)) e) in
      absurd (true≢false (sym some.1 ∙ one.labels p some.0 ∙ sym (two.labels p some.0) ∙ ap (if_some (labelled some.0)) f))
  same_marks p (Some m) (Some n) e f =
      let labels = same_ranks m.0 n.0 (λ r. sym (ap (if_some (labelled r)) e) ∙ one.labels p r ∙ sym (two.labels p r) ∙ ap (if_some (labelled r)) f) in
      let ends = same_ranks m.1 n.1 (λ r. sym (ap (if_some (ended r)) e) ∙ one.ends p r ∙ sym (two.ends p r) ∙ ap (if_some (ended r)) f) in
      λ i. Some (labels i, ends i)

  -- two trees of the same pairs are equal
  pub same_tree : t ≡ u
  same_tree =
      let rows = finmap.same_map path_cmp_total path_cmp_exact t.below u.below (λ p. same_marks p _ _ refl refl) in
      let covers = one.coverage ∙ sym two.coverage in
      λ i. record { coverage = covers i; below = rows i }

-- the tree is one of its pairs
module _ (P : Pairs) (C : Ranks) (ps : List Path) (p q : Path) (rest : finmap.find path_cmp p (rows_at P C ps) ≡ cond (list_any (is_path p) ps) (row_at P C p) None) where
  at_none : row_at P C p ≡ None → cond (list_any (is_path p) ps) (row_at P C p) None ≡ None
  at_none e = elim (list_any (is_path p) ps) as (λ b. cond b (row_at P C p) None ≡ None) [ true ↦ e | false ↦ refl ]

  find_here : is_path p q ≡ true → (o : Option Marks) → o ≡ row_at P C p → finmap.find path_cmp p (with_row q o (rows_at P C ps)) ≡ row_at P C p
  find_here e None is = rest ∙ at_none (sym is) ∙ is
  find_here e (Some m) is = ap (λ b. cond b (Some m) (finmap.find path_cmp p (rows_at P C ps))) e ∙ is

  find_there : is_path p q ≡ false → (o : Option Marks) → finmap.find path_cmp p (with_row q o (rows_at P C ps)) ≡ cond (list_any (is_path p) ps) (row_at P C p) None
  find_there e None = rest
  find_there e (Some m) = ap (λ b. cond b (Some m) (finmap.find path_cmp p (rows_at P C ps))) e ∙ rest

find_row : (P : Pairs) (C : Ranks) (ps : List Path) (p : Path) → finmap.find path_cmp p (rows_at P C ps) ≡ cond (list_any (is_path p) ps) (row_at P C p) None
find_row P C [] p = refl
find_row P C (q ∷ ps) p =
    elim (is_path p q) as (λ b. is_path p q ≡ b → finmap.find path_cmp p (with_row q (row_at P C q) (rows_at P C ps)) ≡ cond (b || list_any (is_path p) ps) (row_at P C p) None) [
      | true ↦ λ e. find_here P C ps p q (find_row P C ps p) e (row_at P C q) (sym (ap (row_at P C) (is_path-exact p q e)))
      | false ↦ λ e. find_there P C ps p q (find_row P C ps p) e (row_at P C q)
    ] refl

-- a path that a rank passes is among the prefixes
prefix_there : (P : Pairs) (r : ℕ) (p : Path) → is_below p ≡ true → passes P r p ≡ true → list_any (is_path p) (prefixes_of P) ≡ true
prefix_there P r p below one =
    let pair = pair_from_passes P r p one in
    any-flat_map (is_path p) (λ e. prefixes e.1) P
    ∙ among P pair.path pair.seen_in (any-prefixes pair.path p ∙ (λ i. below i && pair.starts i))
  where
    among : (Q : Pairs) (s : Path) → is_pair Q r s ≡ true → list_any (is_path p) (prefixes s) ≡ true → list_any (λ e. list_any (is_path p) (prefixes e.1)) Q ≡ true
    among [] s in_Q one = in_Q
    among (e ∷ Q) s in_Q one =
        or_true_cases (eqb e.0 r && is_path s e.1) (is_pair Q r s) _
        (λ here. or_left (list_any (is_path p) (prefixes e.1)) _ (ap (λ x. list_any (is_path p) (prefixes x)) (sym (is_path-exact s e.1 ((Rattle.std.proofs.lemmas.Bool.and_parts (eqb e.0 r) (is_path s e.1) here).1))) ∙ one))
        (λ there. Rattle.std.proofs.lemmas.Bool.or_right (list_any (is_path p) (prefixes e.1)) _ (among Q s there one)) in_Q

empty_set : (s : Ranks) → ((r : ℕ) → has s r ≡ false) → s ≡ none
empty_set s absent = same_ranks s none (λ r. absent r ∙ sym (has-none r))

size-none : size none ≡ 0
size-none = refl

-- no row where no rank passes
pub no_row : (P : Pairs) (C : Ranks) (p : Path) → ((r : ℕ) → passes P r p ≡ false) → row_at P C p ≡ None
no_row P C [] absent = refl
no_row P C (f ∷ p) absent =
    let bare = empty_set (label P C (f ∷ p)) (λ r. has-those _ C r ∙ ap (λ b. has C r && b) (absent r) ∙ and_false (has C r)) in
    ap (λ s. marks_of s (ends P C (f ∷ p))) bare ∙ ap (λ n. cond (eqb n 0) None (Some (none, ends P C (f ∷ p)))) size-none

no_row_at : (P : Pairs) (C : Ranks) (p : Path) → list_any (is_path p) (prefixes_of P) ≡ false → row_at P C p ≡ None
no_row_at P C [] absent = refl
no_row_at P C (f ∷ p) absent = no_row P C (f ∷ p) (λ r. Rattle.std.proofs.lemmas.Bool.false_from_ne_true _ (λ one. true≢false (sym (prefix_there P r (f ∷ p) refl one) ∙ absent)))

-- what the tree has at a prefix
pub get-tree_of : (P : Pairs) (C : Ranks) (p : Path) → finmap.get (tree_of P C).below p ≡ row_at P C p
unfolding tree_of
get-tree_of P C p =
    finmap.get-from_entries path_cmp_total (rows_at P C (prefixes_of P)) p ∙ find_row P C (prefixes_of P) p
    ∙ elim (list_any (is_path p) (prefixes_of P)) as (λ b. list_any (is_path p) (prefixes_of P) ≡ b → cond b (row_at P C p) None ≡ row_at P C p) [ true ↦ λ e. refl | false ↦ λ e. sym (no_row_at P C p e) ] refl

-- its coverage is what it was made with
pub coverage-tree_of : (P : Pairs) (C : Ranks) → (tree_of P C).coverage ≡ C
unfolding tree_of
coverage-tree_of P C = refl

empty_no_member : (s : Ranks) (r : ℕ) → eqb (size s) 0 ≡ true → has s r ≡ false
empty_no_member s r e = ap (λ x. has x r) (none_from_size s (eqb-true (size s) 0 e)) ∙ has-none r

pub is_prefix-itself : (p : Path) → is_prefix p p ≡ true
is_prefix-itself [] = refl
is_prefix-itself (f ∷ p) = λ i. ap is_eq (tied_itself nat_list_cmp_total f) i && is_prefix-itself p i

-- a rank passes its own path
pub passes-from_here : (P : Pairs) (r : ℕ) (p : Path) → is_pair P r p ≡ true → passes P r p ≡ true
passes-from_here P r p one = passes-from_pair P r p p one (is_prefix-itself p)

module _ (P : Pairs) (C : Ranks) where
  row_labels : (p : Path) (r : ℕ) → if_some (labelled r) (row_at P C p) ≡ (is_below p && (has C r && passes P r p))
  row_labels [] r = refl
  row_labels (f ∷ p) r =
      elim (eqb (size (label P C (f ∷ p))) 0) as (λ b. eqb (size (label P C (f ∷ p))) 0 ≡ b → if_some (labelled r) (cond b None (Some (label P C (f ∷ p), ends P C (f ∷ p)))) ≡ (has C r && passes P r (f ∷ p))) [
        | true ↦ λ e. sym (empty_no_member (label P C (f ∷ p)) r e) ∙ has-those _ C r
        | false ↦ λ e. has-those _ C r
      ] refl

  row_ends : (p : Path) (r : ℕ) → if_some (ended r) (row_at P C p) ≡ (is_below p && (has C r && is_pair P r p))
  row_ends [] r = refl
  row_ends (f ∷ p) r =
      elim (eqb (size (label P C (f ∷ p))) 0) as (λ b. eqb (size (label P C (f ∷ p))) 0 ≡ b → if_some (ended r) (cond b None (Some (label P C (f ∷ p), ends P C (f ∷ p)))) ≡ (has C r && is_pair P r (f ∷ p))) [
        | true ↦ λ e. sym (neither (has C r) (passes P r (f ∷ p)) (is_pair P r (f ∷ p)) (passes-from_here P r (f ∷ p)) (sym (has-those _ C r) ∙ empty_no_member (label P C (f ∷ p)) r e))
        | false ↦ λ e. has-those _ C r
      ] refl
    where
      neither : (a x y : Bool) → (y ≡ true → x ≡ true) → (a && x) ≡ false → (a && y) ≡ false
      neither true x true up e = absurd (true≢false (sym (up refl) ∙ e))
      neither true x false up e = refl
      neither false x y up e = refl

  row_used : (p : Path) → if_some (λ m. true) (row_at P C p) ≡ true → (r : ℕ) × (if_some (labelled r) (row_at P C p) ≡ true)
  row_used [] there = absurd (true≢false (sym there))
  row_used (f ∷ p) there =
      elim (eqb (size (label P C (f ∷ p))) 0) as (λ b. eqb (size (label P C (f ∷ p))) 0 ≡ b → if_some (λ m. true) (cond b None (Some (label P C (f ∷ p), ends P C (f ∷ p)))) ≡ true → (r : ℕ) × (if_some (labelled r) (cond b None (Some (label P C (f ∷ p), ends P C (f ∷ p)))) ≡ true)) [
        | true ↦ λ e here. absurd (true≢false (sym here))
        | false ↦ λ e here. first_member (label P C (f ∷ p)) e
      ] refl there

  -- the tree of the pairs is a tree of them
  pub IsTreeOf-tree_of : IsTreeOf P C (tree_of P C)
  IsTreeOf-tree_of = record {
    coverage = coverage-tree_of P C;
    labels = λ p r. ap (if_some (labelled r)) (get-tree_of P C p) ∙ row_labels p r;
    ends = λ p r. ap (if_some (ended r)) (get-tree_of P C p) ∙ row_ends p r;
    used = λ p there.
        let some = row_used p (sym (ap (if_some (λ m. true)) (get-tree_of P C p)) ∙ there) in
        (some.0, ap (if_some (labelled some.0)) (get-tree_of P C p) ∙ some.1);
  }

  -- and the only one
  pub tree_of-is : (t : Tree) → IsTreeOf P C t → t ≡ tree_of P C
  tree_of-is t h = same_tree P C t (tree_of P C) h IsTreeOf-tree_of

  -- a tree that equals it is one of the pairs
  pub IsTreeOf-from_equal : (t : Tree) → t ≡ tree_of P C → IsTreeOf P C t
  IsTreeOf-from_equal t e = subst (IsTreeOf P C) (sym e) IsTreeOf-tree_of

-- a tree depends on which pairs there are, and not on their order or repeats
pub below_from_prefix : (p q : Path) → is_below p ≡ true → is_prefix p q ≡ true → is_below q ≡ true
below_from_prefix [] q e pre = absurd (true≢false (sym e))
below_from_prefix (f ∷ p) [] e pre = absurd (true≢false (sym pre))
below_from_prefix (f ∷ p) (g ∷ q) e pre = refl

passes_too : (P Q : Pairs) (C : Ranks) → AreSamePairs P Q C → (p : Path) (r : ℕ) → is_below p ≡ true → has C r ≡ true → passes P r p ≡ true → passes Q r p ≡ true
passes_too P Q C same p r below covered one =
    let pair = pair_from_passes P r p one in
    let under = below_from_prefix p pair.path below pair.starts in
    let in_both : (is_below pair.path && (has C r && is_pair Q r pair.path)) ≡ true = sym (same pair.path r) ∙ (λ i. under i && (covered i && pair.seen_in i)) in
    passes-from_pair Q r p pair.path (third (is_below pair.path) (has C r) (is_pair Q r pair.path) in_both) pair.starts
  where
    third : (a b c : Bool) → (a && (b && c)) ≡ true → c ≡ true
    third true true c e = e
    third true false c e = absurd (true≢false (sym e))
    third false b c e = absurd (true≢false (sym e))

under_tests : (a b x y : Bool) → (a ≡ true → b ≡ true → x ≡ y) → (a && (b && x)) ≡ (a && (b && y))
under_tests true true x y e = e refl refl
under_tests true false x y e = refl
under_tests false b x y e = refl

swapped_pairs : (P Q : Pairs) (C : Ranks) → AreSamePairs P Q C → AreSamePairs Q P C
swapped_pairs P Q C same p r = sym (same p r)

-- a tree of pairs is one of the same pairs
pub IsTreeOf-same_pairs : (P Q : Pairs) (C : Ranks) (t : Tree) → AreSamePairs P Q C → IsTreeOf P C t → IsTreeOf Q C t
IsTreeOf-same_pairs P Q C t same h = record {
  coverage = h.coverage;
  labels = λ p r. h.labels p r ∙ under_tests (is_below p) (has C r) (passes P r p) (passes Q r p) (λ below covered. both_ways _ _ (passes_too P Q C same p r below covered) (passes_too Q P C (swapped_pairs P Q C same) p r below covered));
  ends = λ p r. h.ends p r ∙ same p r;
  used = h.used;
}

-- a tree gives its pairs back
pub pairs_of-same : (P : Pairs) (C : Ranks) (t : Tree) → IsTreeOf P C t → AreSamePairs P (pairs_of t) C
pairs_of-same P C t h p r = twice (is_below p) (has C r) (is_pair P r p) ∙ ap (λ b. is_below p && (has C r && b)) (sym (is_pair-pairs_of t r p ∙ h.ends p r))
  where
    twice : (a b c : Bool) → (a && (b && c)) ≡ (a && (b && (a && (b && c))))
    twice true true c = refl
    twice true false c = refl
    twice false b c = refl

-- a tree is one of the pairs that it gives back
pub read_back : (P : Pairs) (C : Ranks) (t : Tree) → IsTreeOf P C t → IsTreeOf (pairs_of t) C t
read_back P C t h = IsTreeOf-same_pairs P (pairs_of t) C t (pairs_of-same P C t h) h

-- these are pairs of covered ranks
pub pairs_of_within : (P : Pairs) (C : Ranks) (t : Tree) → IsTreeOf P C t → IsWithin (pairs_of t) C
pairs_of_within P C t h r p one = middle (is_below p) (has C r) (is_pair P r p) (sym (is_pair-pairs_of t r p ∙ h.ends p r) ∙ one)
  where
    middle : (a b c : Bool) → (a && (b && c)) ≡ true → b ≡ true
    middle true true c e = refl
    middle true false c e = e
    middle false b c e = absurd (true≢false (sym e))

-- the tree of any pairs gives its pairs back
pub IsTree-tree_of : (P : Pairs) (C : Ranks) → IsTree (tree_of P C)
IsTree-tree_of P C =
    tree_of-is (pairs_of (tree_of P C)) C (tree_of P C) (read_back P C (tree_of P C) (IsTreeOf-tree_of P C))
    ∙ ap (tree_of (pairs_of (tree_of P C))) (sym (coverage-tree_of P C))

module _ (t : Tree) (is : IsTree t) where
  own : IsTreeOf (pairs_of t) t.coverage t
  own = IsTreeOf-from_equal (pairs_of t) t.coverage t is

  own_within : IsWithin (pairs_of t) t.coverage
  own_within = pairs_of_within (pairs_of t) t.coverage t own

  -- rows put into a tree
  module _ (Q : Pairs) (B : Ranks) (within : IsWithin Q B) (es : List (Path × Marks)) (of_Q : AreRowsOf Q B es) where
    -- they make the tree of the pairs of both
    pub tree_with_rows : record { coverage = union t.coverage B; below = insert_rows t.below es } ≡ tree_of (pairs_of t ++ Q) (union t.coverage B)
    tree_with_rows = tree_of-is (pairs_of t ++ Q) (union t.coverage B) _ (put_together (pairs_of t) Q t.coverage B own_within within t own es of_Q)

  -- the rows of another tree make the merged tree
  pub tree_merged : (u : Tree) → IsTree u → record { coverage = union t.coverage u.coverage; below = insert_rows t.below (finmap.entries u.below) } ≡ merged t u
  tree_merged u is_u =
      let of_u = IsTreeOf-from_equal (pairs_of u) u.coverage u is_u in
      tree_with_rows (pairs_of u) u.coverage (pairs_of_within (pairs_of u) u.coverage u of_u) (finmap.entries u.below) (rows_of_tree (pairs_of u) u.coverage u of_u)

  -- no rows over more ranks make the covered tree
  pub tree_covered : (C : Ranks) → record { coverage = union t.coverage C; below = t.below } ≡ covered t C
  tree_covered C = tree_with_rows [] C (λ r p one. absurd (true≢false (sym one))) [] (no_rows C) ∙ ap (λ P. tree_of P (union t.coverage C)) (append-nil (pairs_of t))

  -- the rows of a path make the tree with it
  pub tree_added : (C : Ranks) (p : Path) (r : ℕ) → has C r ≡ true → ((q : ℕ) → has C q ≡ true → has t.coverage q ≡ true) → record { coverage = t.coverage; below = insert_rows t.below (path_rows C p) } ≡ added t C p
  tree_added C p r some lies =
      let same : union t.coverage C ≡ t.coverage = same_ranks _ _ (λ q. has-union t.coverage C q ∙ swallow (has t.coverage q) (has C q) (lies q)) in
      (λ i. record { coverage = sym same i; below = insert_rows t.below (path_rows C p) })
      ∙ tree_with_rows (pairs_at (in_order C) p) C (pairs_within C C p (λ q h. h)) (path_rows C p) (rows_of_path C r some p)
      ∙ ap (tree_of (pairs_of t ++ pairs_at (in_order C) p)) same
    where
      swallow : (a b : Bool) → (b ≡ true → a ≡ true) → (a || b) ≡ a
      swallow true b h = refl
      swallow false true h = absurd (true≢false (sym (h refl)))
      swallow false false h = refl

-- united pairs over united ranks
pub merged_unites : (t u : Tree) → Unites t u (merged t u)
merged_unites t u P Q A B in_A in_B is_t is_u =
    let tree_t : IsTree t = subst IsTree (sym is_t) (IsTree-tree_of P A) in
    let tree_u : IsTree u = subst IsTree (sym is_u) (IsTree-tree_of Q B) in
    let of_t = IsTreeOf-from_equal P A t is_t in
    let of_u = IsTreeOf-from_equal Q B u is_u in
    sym (tree_merged t tree_t u tree_u)
    ∙ (λ i. record { coverage = union t.coverage (of_u.coverage i); below = insert_rows t.below (finmap.entries u.below) })
    ∙ tree_of-is (P ++ Q) (union A B) _ (put_together P Q A B in_A in_B t of_t (finmap.entries u.below) (rows_of_tree Q B u of_u))

-- the same pairs over more ranks
pub covered_covers : (t : Tree) (C : Ranks) → Covers t C (covered t C)
covered_covers t C P A within is =
    let tree : IsTree t = subst IsTree (sym is) (IsTree-tree_of P A) in
    let whole = IsTreeOf-from_equal P A t is in
    sym (tree_covered t tree C)
    ∙ tree_of-is (P ++ []) (union A C) (record { coverage = union t.coverage C; below = t.below }) (put_together P [] A C within (λ r p one. absurd (true≢false (sym one))) t whole [] (no_rows C))
    ∙ ap (λ Q. tree_of Q (union A C)) (append-nil P)
