-- The tree of rows that go on from one another has no more rows than they.
use Rattle.std.proofs.Common.{◌≡◌, ℕ, suc, ◌+◌, ◌≤◌, Bool, true, ◌&&◌, not, List, [], ◌∷◌, ◌++◌, length, map, take, refl, sym, ap, ◌∙◌, ◌⊎◌, inl, inr, arith}
use Rattle.std.specs.List.{list_any}
use Rattle.std.specs.FinMap as finmap
use Rattle.std.proofs.lemmas.Bool.{true≢false, or_cases, and_parts, or_left, or_right}
use Rattle.std.proofs.lemmas.List.{length-map}
use Rattle.rank_set.specs.Ranks.{Ranks, has, is_empty}
use Rattle.call_path.specs.Path.{Path, is_path, is_prefix}
use Rattle.call_path.specs.Pairs.{passes, is_below}
use Rattle.call_path.proofs.PathLemmas.{is_path-exact}
use Rattle.prefix_tree.specs.Tree.{tree_of, count_below}
use Rattle.prefix_tree.proofs.Keys.{len_within, seen_key}
use Rattle.prefix_tree.proofs.PairLemmas.{pair_from_passes}
use Rattle.prefix_tree.proofs.TreeLemmas.{IsTreeOf-tree_of}
use Rattle.packet_frame.specs.Frame.{Row}
use Rattle.packet_frame.specs.FrameRows.{NamedRow, path_behind, rows_view}
use Rattle.packet_frame.specs.Sent.{pairs_of_rows}
use Rattle.packet_frame.specs.Sending.{MayBeRows}
use Rattle.packet_frame.proofs.ReadTrees.{prefix_kept, has_path, ends_have_path, pair_of_rows}

-- ---- rows that go on from one another

-- a path is some of the first frames of the path before, and one more
pub record GoesOn (before p : Path) : Type 0 where
  pub keep : ℕ
  pub name : List ℕ
  pub path : p ≡ take keep before ++ name ∷ []

abbrev pub GoOn : Path → List Row → Type 0
GoOn before [] = Unit {0}
GoOn before (r ∷ rs) = GoesOn before r.path × GoOn r.path rs

prefix_next : (before q : Path) (r : Row) (rs : List Row) → GoesOn before r.path → is_prefix q r.path ≡ true → (has_path q (r ∷ rs) ≡ true) ⊎ (is_prefix q before ≡ true)
prefix_next before q r rs on h =
    elim (prefix_kept q before on.keep on.name (ap (is_prefix q) (sym on.path) ∙ h)) [
      | inl shorter ↦ inr shorter
      | inr whole ↦ inl (or_left (is_path q r.path) (has_path q rs) (ap (is_path q) on.path ∙ whole))
    ]

closed : (before : Path) (rows : List Row) → GoOn before rows → (p q : Path) → has_path p rows ≡ true → is_prefix q p ≡ true → (has_path q rows ≡ true) ⊎ (is_prefix q before ≡ true)
closed before [] on p q there h = absurd (true≢false (sym there))
closed before (r ∷ rs) on p q there h = elim (or_cases (is_path p r.path) (has_path p rs) there) [
  | inl here ↦ prefix_next before q r rs on.0 (ap (is_prefix q) (sym (is_path-exact p r.path here)) ∙ h)
  | inr later ↦ elim (closed r.path rs on.1 p q later h) [
    | inl found ↦ inl (or_right (is_path q r.path) (has_path q rs) found)
    | inr above ↦ prefix_next before q r rs on.0 above
  ]
]

not_root : (q : Path) → is_below q ≡ true → is_prefix q [] ≡ true → ⊥
not_root [] b h = true≢false (sym b)
not_root (f ∷ q) b h = true≢false (sym h)

any_path : (p : Path) (rows : List Row) → has_path p rows ≡ true → list_any (is_path p) (map (λ (row : Row). row.path) rows) ≡ true
any_path p [] h = h
any_path p (r ∷ rs) h = elim (or_cases (is_path p r.path) (has_path p rs) h) [
  | inl here ↦ or_left (is_path p r.path) (list_any (is_path p) (map (λ (row : Row). row.path) rs)) here
  | inr later ↦ or_right (is_path p r.path) (list_any (is_path p) (map (λ (row : Row). row.path) rs)) (any_path p rs later)
]

module _ (C : Ranks) (rows : List Row) (on : GoOn [] rows) where
  key_has_path : (p : Path) → finmap.contains_key (tree_of (pairs_of_rows rows) C).below p ≡ true → list_any (is_path p) (map (λ (row : Row). row.path) rows) ≡ true
  key_has_path p h =
      let P = pairs_of_rows rows in
      let is = IsTreeOf-tree_of P C in
      let used = is.used p (seen_key (tree_of P C).below p h) in
      let parts = and_parts (is_below p) (has C used.0 && passes P used.0 p) (sym (is.labels p used.0) ∙ used.1) in
      let some = pair_from_passes P used.0 p (and_parts (has C used.0) (passes P used.0 p) parts.1).1 in
      let there = ends_have_path used.0 some.path rows (sym (pair_of_rows rows used.0 some.path) ∙ some.seen_in) in
      elim (closed [] rows on some.path p there some.starts) [
        | inl found ↦ any_path p rows found
        | inr above ↦ absurd (not_root p parts.0 above)
      ]

  -- a tree of rows that go on from one another has no more rows than they
  pub few_rows : count_below (tree_of (pairs_of_rows rows) C) ≤ length rows
  few_rows =
      let le : finmap.len (tree_of (pairs_of_rows rows) C).below ≤ length (map (λ (row : Row). row.path) rows) = len_within (map (λ (row : Row). row.path) rows) _ key_has_path in
      omega (arith, le, length-map rows (λ (row : Row). row.path))

-- the first of rows that may be sent go on from one another
pub go_on : (C : Ranks) (before : Path) (ended : Bool) (rows more : List Row) → MayBeRows C before ended (rows ++ more) → GoOn before rows
go_on C before ended [] more may = tt
go_on C before ended (r ∷ rs) more may = (record { keep = may.0.keep; name = may.0.name; path = may.0.path }, go_on C r.path (not (is_empty r.ends)) rs more may.1)

views_go_on : (before : Path) (rs : List NamedRow) → GoOn before (rows_view before rs)
views_go_on before [] = tt
views_go_on before (r ∷ rs) = (record { keep = r.keep; name = r.name; path = refl }, views_go_on (path_behind before r) rs)

length_views : (before : Path) (rs : List NamedRow) → length (rows_view before rs) ≡ length rs
length_views before [] = refl
length_views before (r ∷ rs) = ap suc (length_views (path_behind before r) rs)

-- so has the tree of rows that a scan has read
pub few_views : (C : Ranks) (rs : List NamedRow) → count_below (tree_of (pairs_of_rows (rows_view [] rs)) C) ≤ length rs
few_views C rs = omega (arith, few_rows C (rows_view [] rs) (views_go_on [] rs), length_views [] rs)
