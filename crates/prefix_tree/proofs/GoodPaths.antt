-- Rows whose paths are good.
use Rattle.std.proofs.Common.{◌≡◌, ℕ, ◌<◌, ◌≤◌, Bool, true, ◌&&◌, ◌||◌, List, [], ◌∷◌, length, refl, sym, ◌∙◌, subst, arith, inl, inr}
use Rattle.std.specs.Prelude.{All, IsTrue}
use Rattle.std.specs.Ordering.{eq_by_cmp, nat_cmp}
use Rattle.std.specs.Cmp.Lexicographic.{slice_cmp}
use Rattle.std.specs.Cmp.{Equal-is}
use Rattle.std.specs.FinMap as finmap
use Rattle.std.proofs.lemmas.Bool.{true≢false, and_parts, or_cases, or_left, or_right, and_from}
use Rattle.std.proofs.lemmas.List.Elements.{All-nil, All-cons, All-head, All-tail}
use Rattle.call_path.proofs.PathLemmas.{is_path-exact, is_path-itself}
use Rattle.call_path.specs.Pairs.{is_below}
use Rattle.rank_set.specs.Ranks.{Ranks, has}
use Rattle.call_path.specs.Path.{Path, is_path, is_prefix}
use Rattle.call_path.specs.Good.{is_good_frame, IsGoodPath}
use Rattle.prefix_tree.specs.Tree.{Marks}
use Rattle.prefix_tree.specs.Joined.{Below, insert_rows, path_rows, in_rows, seen}
use Rattle.prefix_tree.proofs.Rows.{seen-insert_rows, in_rows-entries}
use Rattle.prefix_tree.proofs.PairLemmas.{label-path_rows, used-path_rows}

-- a row of any marks
abbrev any_marks : Marks → Bool
any_marks m = true

-- the path of a row is good
abbrev IsGood : Path × Marks → Type 0
IsGood e = IsGoodPath e.0

-- each row of such a list has a good path
pub good_in : (es : List (Path × Marks)) → All IsGood es → (q : Path) → in_rows any_marks es q ≡ true → IsGoodPath q
good_in [] h q there = absurd (true≢false (sym there))
good_in (e ∷ es) h q there = elim (or_cases (is_path q e.0 && true) (in_rows any_marks es q) there) [
  | inl here ↦ subst IsGoodPath (sym (is_path-exact q e.0 (and_parts (is_path q e.0) true here).0)) (All-head IsGood e es h)
  | inr rest ↦ good_in es (All-tail IsGood e es h) q rest
]

all_good : (es : List (Path × Marks)) → ((q : Path) → in_rows any_marks es q ≡ true → IsGoodPath q) → All IsGood es
all_good [] h = All-nil IsGood
all_good (e ∷ es) h =
    All-cons IsGood e es
    (h e.0 (or_left (is_path e.0 e.0 && true) (in_rows any_marks es e.0) (and_from (is_path e.0 e.0) true (is_path-itself e.0) refl)))
    (all_good es (λ q there. h q (or_right (is_path q e.0 && true) (in_rows any_marks es q) there)))

every_spreads : (a b : Marks) → true ≡ (true || true)
every_spreads a b = refl

-- rows of good paths put together
pub put_rows_good : (b : Below) (es : List (Path × Marks)) → All IsGood (finmap.entries b) → All IsGood es → All IsGood (finmap.entries (insert_rows b es))
put_rows_good b es old new = all_good _ (λ q there. elim (or_cases (seen any_marks b q) (in_rows any_marks es q) (sym (seen-insert_rows any_marks every_spreads b es q) ∙ sym (in_rows-entries any_marks (insert_rows b es) q) ∙ there)) [
  | inl mine ↦ good_in (finmap.entries b) old q (in_rows-entries any_marks b q ∙ mine)
  | inr theirs ↦ good_in es new q theirs
])

pub same_frame : (f g : List ℕ) → eq_by_cmp (slice_cmp nat_cmp) f g ≡ true → f ≡ g
same_frame f g e = finmap.slice_cmp-IsAntisymmetric finmap.nat_cmp-IsAntisymmetric f g ((Equal-is (slice_cmp nat_cmp f g)).0 e)

prefix_frames : (q p : Path) → is_prefix q p ≡ true → All (λ f. IsTrue (is_good_frame f)) p → (length q ≤ length p) × All (λ f. IsTrue (is_good_frame f)) q
prefix_frames [] p pre h = (omega arith, All-nil (λ f. IsTrue (is_good_frame f)))
prefix_frames (g ∷ q) [] pre h = absurd (true≢false (sym pre))
prefix_frames (g ∷ q) (f ∷ p) pre h =
    let parts = and_parts (eq_by_cmp (slice_cmp nat_cmp) g f) (is_prefix q p) pre in
    let rest = prefix_frames q p parts.1 (All-tail (λ f. IsTrue (is_good_frame f)) f p h) in
    let first = subst (λ f. IsTrue (is_good_frame f)) (sym (same_frame g f parts.0)) (All-head (λ f. IsTrue (is_good_frame f)) f p h) in
    (omega (arith, rest.0), All-cons (λ f. IsTrue (is_good_frame f)) g q first rest.1)

below_some : (q : Path) → is_below q ≡ true → 0 < length q
below_some [] e = absurd (true≢false (sym e))
below_some (f ∷ q) e = omega arith

-- the prefixes of a good path are good
pub path_rows_good : (C : Ranks) (r : ℕ) → has C r ≡ true → (p : Path) → IsGoodPath p → All IsGood (path_rows C p)
path_rows_good C r some p good = all_good (path_rows C p) (λ q there.
    let tests = and_parts (is_below q) (has C r && is_prefix q p) (sym (label-path_rows C r p q) ∙ sym (used-path_rows C r some p q) ∙ there) in
    let frames = prefix_frames q p (and_parts (has C r) (is_prefix q p) tests.1).1 good.good.good in
    let few = good.good.within_limit in
    record { some = below_some q tests.0; good = record { within_limit = omega (arith, frames.0); good = frames.1 } })
