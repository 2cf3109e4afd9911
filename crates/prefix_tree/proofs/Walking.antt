-- A tree's rows follow one another.
use Rattle.std.proofs.Common.{◌≡◌, ℕ, ◌-◌, ◌<◌, Bool, true, false, Option, None, Some, ◌&&◌, ◌||◌, List, [], ◌∷◌, ◌++◌, ◌⊎◌, inl, inr, length, take, drop, refl, sym, ap, ◌∙◌, T, arith, zero, suc}
use Rattle.std.specs.Ordering.{is_eq, is_gt, nat_cmp, eq_by_cmp, ordering_then}
use Rattle.std.specs.declared.cmp.Ordering.{Ordering}
use Rattle.std.specs.declared.cmp.Ordering.TheVariants.{Less, Equal, Greater}
use Rattle.std.specs.Cmp.{upto, tied_back, Equal-is, tied_itself}
use Rattle.std.specs.Cmp.Lexicographic.{slice_cmp, nat_list_cmp_total}
use Rattle.std.specs.FinMap as finmap
use Rattle.std.specs.Ordering.{ordering_reverse}
use Rattle.std.proofs.lemmas.Bool.{true≢false, and_parts, or_cases, or_right}
use Rattle.std.proofs.lemmas.List.{take-append-drop, length-take-le}
use Rattle.call_path.specs.Path.{Path, path_cmp, is_path, is_prefix, path_cmp_total}
use Rattle.rank_set.specs.Ranks.{Ranks, has}
use Rattle.call_path.specs.Pairs.{Pairs, passes, is_below}
use Rattle.prefix_tree.specs.Tree.{Tree, Marks, IsTree, pairs_of}
use Rattle.prefix_tree.specs.Joined.{in_rows, seen, if_some, labelled, IsTreeOf}
use Rattle.prefix_tree.specs.Walk.{Follows}
use Rattle.prefix_tree.proofs.Rows.{in_rows-entries, none_from, first, second, less}
use Rattle.prefix_tree.proofs.PairLemmas.{pair_from_passes, passes-from_pair}
use Rattle.prefix_tree.proofs.TreeLemmas.{IsTreeOf-from_equal}

abbrev frame_cmp : List ℕ → List ℕ → Ordering
frame_cmp = slice_cmp nat_cmp

-- what is from q on and before a path that starts with q starts with q
pub between : (q s x : Path) → is_gt (path_cmp q x) ≡ false → path_cmp x (q ++ s) ≡ Less → is_prefix q x ≡ true
between [] s x from before = refl
between (f ∷ q) s [] from before = absurd (true≢false from)
between (f ∷ q) s (g ∷ x) from before =
    elim (frame_cmp f g) as (λ o. frame_cmp f g ≡ o → (is_eq o && is_prefix q x) ≡ true) [
      | Less ↦ λ e. absurd (not_less (path_cmp x (q ++ s)) (sym (ap (λ o. ordering_then o (path_cmp x (q ++ s))) (nat_list_cmp_total.antisymm g f ∙ ap ordering_reverse e)) ∙ before))
      | Equal ↦ λ e. between q s x (sym (ap (λ o. is_gt (ordering_then o (path_cmp q x))) e) ∙ from) (sym (ap (λ o. ordering_then o (path_cmp x (q ++ s))) (tied_back nat_list_cmp_total f g e)) ∙ before)
      | Greater ↦ λ e. absurd (true≢false (sym (ap (λ o. is_gt (ordering_then o (path_cmp q x))) e) ∙ from))
    ] refl
  where
    not_less : (o : Ordering) → Greater ≡ Less → ⊥
    not_less o e = true≢false (ap is_gt e)

-- a path that starts another is its first frames
pub prefix_is_take : (q x : Path) → is_prefix q x ≡ true → q ≡ take (length q) x
prefix_is_take [] x e = refl
prefix_is_take (f ∷ q) [] e = absurd (true≢false (sym e))
prefix_is_take (f ∷ q) (g ∷ x) e =
    let parts = and_parts (eq_by_cmp frame_cmp f g) (is_prefix q x) e in
    λ i. (finmap.slice_cmp-IsAntisymmetric finmap.nat_cmp-IsAntisymmetric f g ((Equal-is (frame_cmp f g)).0 parts.0) i) ∷ prefix_is_take q x parts.1 i

-- fewer frames come before
fewer_less : (n : ℕ) (p : Path) → n < length p → path_cmp (take n p) p ≡ Less
fewer_less n [] lt = absurd (omega arith)
fewer_less zero (f ∷ p) lt = refl
fewer_less (suc n) (f ∷ p) lt = ap (λ o. ordering_then o (path_cmp (take n p) p)) (tied_itself nat_list_cmp_total f) ∙ fewer_less n p (omega arith)

is_prefix-take : (n : ℕ) (p : Path) → is_prefix (take n p) p ≡ true
is_prefix-take zero p = refl
is_prefix-take (suc n) [] = refl
is_prefix-take (suc n) (f ∷ p) = λ i. ap is_eq (tied_itself nat_list_cmp_total f) i && is_prefix-take n p i

-- what starts the start of a path starts the path
pub is_prefix-trans : (p q s : Path) → is_prefix p q ≡ true → is_prefix q s ≡ true → is_prefix p s ≡ true
is_prefix-trans [] q s a b = refl
is_prefix-trans (f ∷ p) [] s a b = absurd (true≢false (sym a))
is_prefix-trans (f ∷ p) (g ∷ q) [] a b = absurd (true≢false (sym b))
is_prefix-trans (f ∷ p) (g ∷ q) (h ∷ s) a b =
    let one = and_parts (eq_by_cmp frame_cmp f g) (is_prefix p q) a in
    let two = and_parts (eq_by_cmp frame_cmp g h) (is_prefix q s) b in
    λ i. (ap is_eq (nat_list_cmp_total.congr f g h ((Equal-is (frame_cmp f g)).0 one.0)) ∙ two.0) i && is_prefix-trans p q s one.1 two.1 i

abbrev each : Marks → Bool
each m = true

-- where a rank is seen a row is
pub some_there : (r : ℕ) (o : Option Marks) → if_some (labelled r) o ≡ true → if_some each o ≡ true
some_there r None e = e
some_there r (Some m) e = refl

abbrev Before : Path → List (Path × Marks) → Type 0
Before p [] = Unit {0}
Before p (e ∷ es) = path_cmp p e.0 ≡ Less

head_before : (e : Path × Marks) (es : List (Path × Marks)) → T (finmap.is_sorted path_cmp (e ∷ es)) → Before e.0 es
head_before e [] up = tt
head_before e (f ∷ es) up = less _ (first _ _ (first _ _ up))

head_there : (e : Path × Marks) (es : List (Path × Marks)) → in_rows each (e ∷ es) e.0 ≡ true
head_there e es = ap (λ o. (is_eq o && true) || in_rows each es e.0) (tied_itself path_cmp_total e.0)

not_greater : (o : Ordering) → o ≡ Less → is_gt o ≡ false
not_greater o e = ap is_gt e

module _ (P : Pairs) (C : Ranks) (t : Tree) (h : IsTreeOf P C t) where
  below_there : (p : Path) → seen each t.below p ≡ true → is_below p ≡ true
  below_there p there = let some = h.used p there in (and_parts (is_below p) (has C some.0 && passes P some.0 p) (sym (h.labels p some.0) ∙ some.1)).0

  -- with a path there stands each shorter one
  shorter_there : (n : ℕ) (p : Path) → seen each t.below p ≡ true → is_below (take n p) ≡ true → seen each t.below (take n p) ≡ true
  shorter_there n p there below =
      let some = h.used p there in
      let parts = and_parts (is_below p) (has C some.0 && passes P some.0 p) (sym (h.labels p some.0) ∙ some.1) in
      let inner = and_parts (has C some.0) (passes P some.0 p) parts.1 in
      let pair = pair_from_passes P some.0 p inner.1 in
      let passed = passes-from_pair P some.0 (take n p) pair.path pair.seen_in (is_prefix-trans (take n p) p pair.path (is_prefix-take n p) pair.starts) in
      some_there some.0 (finmap.get t.below (take n p)) (h.labels (take n p) some.0 ∙ (λ i. below i && (inner.0 i && passed i)))

  abbrev Known : Path → List (Path × Marks) → Type 0
  Known before rest = (q : Path) → seen each t.below q ≡ true → (in_rows each rest q ≡ true) ⊎ (is_gt (path_cmp q before) ≡ false)

  known_later : (before : Path) (e : Path × Marks) (rest : List (Path × Marks)) → path_cmp before e.0 ≡ Less → Known before (e ∷ rest) → Known e.0 rest
  known_later before e rest step known q there = elim (known q there) [
    | inl ahead ↦ elim (or_cases (is_path q e.0 && true) (in_rows each rest q) ahead) [
      | inl here ↦ inr (ap is_gt ((Equal-is (path_cmp q e.0)).0 ((and_parts (is_path q e.0) true here).0)))
      | inr later ↦ inl later
    ]
    | inr tail ↦ inr (upto path_cmp_total q before e.0 tail (not_greater _ step))
  ]

  parent_follows : (before : Path) (e : Path × Marks) (rest : List (Path × Marks)) (n : ℕ) → n < length e.0 → is_below (take n e.0) ≡ true → T (finmap.is_sorted path_cmp (e ∷ rest)) → path_cmp before e.0 ≡ Less → Known before (e ∷ rest) → seen each t.below e.0 ≡ true → take n e.0 ≡ take n before
  parent_follows before e rest n lt below up step known there =
      let q = take n e.0 in
      let long : length q ≡ n = length-take-le n e.0 (omega arith) in
      elim (known q (shorter_there n e.0 there below)) [
        | inl ahead ↦ absurd (true≢false (sym ahead ∙ none_from each q e rest (fewer_less n e.0 lt) up))
        | inr tail ↦
            prefix_is_take q before (between q (drop n e.0) before tail (ap (path_cmp before) (take-append-drop n e.0) ∙ step))
            ∙ ap (λ k. take k before) long
      ]

  step_follows : (before : Path) (e : Path × Marks) (rest : List (Path × Marks)) (n : ℕ) → n < length e.0 → T (finmap.is_sorted path_cmp (e ∷ rest)) → path_cmp before e.0 ≡ Less → Known before (e ∷ rest) → seen each t.below e.0 ≡ true → take n e.0 ≡ take n before
  step_follows before e rest zero lt up step known there = refl
  step_follows before e rest (suc n) lt up step known there = parent_follows before e rest (suc n) lt (starts e.0 lt) up step known there
    where
      starts : (p : Path) → suc n < length p → is_below (take (suc n) p) ≡ true
      starts [] lt = absurd (omega arith)
      starts (f ∷ p) lt = refl

  some_length : (p : Path) → is_below p ≡ true → length p - 1 < length p
  some_length [] e = absurd (true≢false (sym e))
  some_length (f ∷ p) e = omega arith

  walk : (before : Path) (rest : List (Path × Marks)) → T (finmap.is_sorted path_cmp rest) → Before before rest → Known before rest → ((q : Path) → in_rows each rest q ≡ true → seen each t.below q ≡ true) → Follows before rest
  walk before [] up step known among = tt
  walk before (e ∷ rest) up step known among =
      let there = among e.0 (head_there e rest) in (
        step_follows before e rest (length e.0 - 1) (some_length e.0 (below_there e.0 there)) up step known there,
        walk e.0 rest (second _ _ up) (head_before e rest up) (known_later before e rest step known) (λ q later. among q (or_right (is_path q e.0 && true) (in_rows each rest q) later)),
      )

  start : (es : List (Path × Marks)) → ((q : Path) → in_rows each es q ≡ true → seen each t.below q ≡ true) → Before [] es
  start [] among = tt
  start (e ∷ es) among = root_first e.0 (below_there e.0 (among e.0 (head_there e es)))
    where
      root_first : (p : Path) → is_below p ≡ true → path_cmp [] p ≡ Less
      root_first [] e = absurd (true≢false (sym e))
      root_first (f ∷ p) e = refl

  -- each row goes on from the one before
  pub tree_follows : Follows [] (finmap.entries t.below)
  tree_follows =
      let among = λ (q : Path) (e : in_rows each (finmap.entries t.below) q ≡ true). sym (in_rows-entries each t.below q) ∙ e in
      walk [] (finmap.entries t.below) (finmap.entries_sorted t.below) (start (finmap.entries t.below) among) (λ q there. inl (in_rows-entries each t.below q ∙ there)) among

-- the same of every tree of its own pairs
pub IsTree-follows : (t : Tree) → IsTree t → Follows [] (finmap.entries t.below)
IsTree-follows t is = tree_follows (pairs_of t) t.coverage t (IsTreeOf-from_equal (pairs_of t) t.coverage t is)
