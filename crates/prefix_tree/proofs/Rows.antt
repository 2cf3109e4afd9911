-- What is seen in rows that are put together.
use Rattle.std.proofs.Common.{◌≡◌, ℕ, Bool, true, false, cond, ◌&&◌, ◌||◌, List, [], ◌∷◌, Some, None, refl, sym, ap, ◌∙◌, T}
use Rattle.std.specs.Ordering.{is_eq, is_lt, ordering_reverse}
use Rattle.std.specs.declared.cmp.Ordering.{Ordering}
use Rattle.std.specs.declared.cmp.Ordering.TheVariants.{Less, Equal, Greater}
use Rattle.std.specs.Cmp.{tied_itself}
use Rattle.std.specs.FinMap as finmap
use Rattle.rank_set.specs.Ranks.{has-union}
use Rattle.call_path.specs.Path.{Path, path_cmp, is_path, path_cmp_total}
use Rattle.call_path.proofs.PathLemmas.{is_path-exact, is_path-itself}
use Rattle.prefix_tree.specs.Tree.{Marks}
use Rattle.prefix_tree.specs.Joined.{Below, both_marks, put_row, insert_rows, in_rows, if_some, seen, labelled, ended}

-- a test that holds of marks put together where it holds of either
abbrev pub Spreads : (Marks → Bool) → Type 0
Spreads test = (a b : Marks) → test (both_marks (Some a) b) ≡ (test a || test b)

-- whether a rank is in the label is such a test
pub labelled_spreads : (r : ℕ) → Spreads (labelled r)
labelled_spreads r a b = has-union a.0 b.0 r

-- whether a rank is in the ends is one
pub ended_spreads : (r : ℕ) → Spreads (ended r)
ended_spreads r a b = has-union a.1 b.1 r

or_false : (a : Bool) → (a || false) ≡ a
or_false true = refl
or_false false = refl

or_assoc : (a b c : Bool) → ((a || b) || c) ≡ (a || (b || c))
or_assoc true b c = refl
or_assoc false b c = refl

module _ (test : Marks → Bool) (spreads : Spreads test) where
  at_put : (b : Below) (p : Path) (m : Marks) → if_some test (Some (both_marks (finmap.get b p) m)) ≡ (if_some test (finmap.get b p) || test m)
  at_put b p m = elim (finmap.get b p) as (λ o. if_some test (Some (both_marks o m)) ≡ (if_some test o || test m)) [ None ↦ refl | Some a ↦ spreads a m ]

  -- what is seen after marks are united into a row
  pub seen-put_row : (b : Below) (p : Path) (m : Marks) (q : Path) → seen test (put_row b p m) q ≡ (seen test b q || (is_path q p && test m))
  seen-put_row b p m q =
      ap (if_some test) (finmap.get-insert path_cmp_total b p (both_marks (finmap.get b p) m) q)
      ∙ elim (is_path q p) as (λ t. is_path q p ≡ t → if_some test (cond t (Some (both_marks (finmap.get b p) m)) (finmap.get b q)) ≡ (seen test b q || (t && test m))) [
        | true ↦ λ e. at_put b p m ∙ ap (λ k. if_some test (finmap.get b k) || test m) (sym (is_path-exact q p e))
        | false ↦ λ e. sym (or_false (seen test b q))
      ] refl

  -- what is seen after rows are united
  pub seen-insert_rows : (b : Below) (es : List (Path × Marks)) (q : Path) → seen test (insert_rows b es) q ≡ (seen test b q || in_rows test es q)
  seen-insert_rows b [] q = sym (or_false (seen test b q))
  seen-insert_rows b (e ∷ es) q = seen-insert_rows (put_row b e.0 e.1) es q ∙ ap (λ x. x || in_rows test es q) (seen-put_row b e.0 e.1 q) ∙ or_assoc (seen test b q) (is_path q e.0 && test e.1) (in_rows test es q)

-- two tests at once
pub both : (a b : Bool) → T a → T b → T (a && b)
both true b p q = q
both false b p q = p

-- the first of two tests
pub first : (a b : Bool) → T (a && b) → T a
first true b p = tt
first false b p = absurd p

-- the second of two tests
pub second : (a b : Bool) → T (a && b) → T b
second true b p = p
second false b p = absurd p

-- a test of less
pub less : (o : Ordering) → T (is_lt o) → o ≡ Less
less Less p = refl
less Equal p = absurd p
less Greater p = absurd p

-- the other way round, two paths compare the other way round
pub turned : (p q : Path) (o : Ordering) → path_cmp p q ≡ o → path_cmp q p ≡ ordering_reverse o
turned p q o e = path_cmp_total.antisymm q p ∙ ap ordering_reverse e

-- a key below the first of a list in order is at no entry
pub none_from : (test : Marks → Bool) (q : Path) (e : Path × Marks) (es : List (Path × Marks)) → path_cmp q e.0 ≡ Less → T (finmap.is_sorted path_cmp (e ∷ es)) → in_rows test (e ∷ es) q ≡ false
none_from test q e [] below up = ap (λ o. is_eq o && test e.1 || false) below
none_from test q e (f ∷ es) below up =
    ap (λ o. is_eq o && test e.1 || in_rows test (f ∷ es) q) below
    ∙ none_from test q f es (path_cmp_total.trans q e.0 f.0 below (less _ (first _ _ (first _ _ up)))) (second _ _ up)

-- nor is the first key at any later entry
pub none_after : (test : Marks → Bool) (q : Path) (e : Path × Marks) (es : List (Path × Marks)) → path_cmp q e.0 ≡ Equal → T (finmap.is_sorted path_cmp (e ∷ es)) → in_rows test es q ≡ false
none_after test q e [] same up = refl
none_after test q e (f ∷ es) same up = none_from test q f es (path_cmp_total.congr q e.0 f.0 same ∙ less _ (first _ _ (first _ _ up))) (second _ _ up)

-- so the first row alone has its path
pub own_row : (test : Marks → Bool) (e : Path × Marks) (es : List (Path × Marks)) → T (finmap.is_sorted path_cmp (e ∷ es)) → in_rows test (e ∷ es) e.0 ≡ test e.1
own_row test e es up = (λ i. (is_path-itself e.0 i && test e.1) || none_after test e.0 e es (tied_itself path_cmp_total e.0) up i) ∙ or_false (test e.1)

-- in a list in order, the one entry of a prefix is what is found there
in_rows-find : (test : Marks → Bool) (es : List (Path × Marks)) (q : Path) → T (finmap.is_sorted path_cmp es) → in_rows test es q ≡ if_some test (finmap.find path_cmp q es)
in_rows-find test [] q up = refl
in_rows-find test (e ∷ es) q up =
    elim (path_cmp q e.0) as (λ o. path_cmp q e.0 ≡ o → (is_eq o && test e.1 || in_rows test es q) ≡ if_some test (cond (is_eq o) (Some e.1) (finmap.find path_cmp q es))) [
      | Less ↦ λ k. in_rows-find test es q (second _ _ up)
      | Equal ↦ λ k. ap (λ x. test e.1 || x) (none_after test q e es k up) ∙ or_false (test e.1)
      | Greater ↦ λ k. in_rows-find test es q (second _ _ up)
    ] refl

-- what is in the entries is what is seen
pub in_rows-entries : (test : Marks → Bool) (b : Below) (q : Path) → in_rows test (finmap.entries b) q ≡ seen test b q
in_rows-entries test b q = in_rows-find test (finmap.entries b) q (finmap.entries_sorted b) ∙ ap (if_some test) (sym (finmap.get-entries b q))
