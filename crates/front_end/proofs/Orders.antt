-- Releases have one order, and a sort finds it.
use Rattle.std.proofs.Common.{◌≡◌, ℕ, zero, suc, ◌+◌, ◌<◌, inl, inr, false, List, [], ◌∷◌, ◌++◌, map, length, get_or, sym, subst, ◌∙◌, ap, arith}
use Rattle.std.specs.Cmp.{IsTotalOrder}
use Rattle.std.specs.List.{All, IsDistinct}
use Rattle.std.specs.List.Sorted.{IsPermutation, IsSortedBy, IsStrictlySortedBy}
use Rattle.std.specs.Ordering.{eq_by_cmp, is_eq, is_lt, ordering_reverse}
use Rattle.std.specs.declared.cmp.Ordering.{Ordering}
use Rattle.std.specs.declared.cmp.Ordering.TheVariants.{Less, Equal, Greater}
use Rattle.std.proofs.lemmas.Bool.{true≢false}
use Rattle.std.proofs.lemmas.Cmp.{eq_by_cmp_equiv, nat_cmp_total, on_total, then_total}
use Rattle.std.proofs.lemmas.List.Sorted.{All-permutation, IsPermutation-map, IsPermutation-sym, IsPermutation-trans}
use Rattle.std.proofs.lemmas.Map.Keys.{IsDistinct-IsPermutation, apart_from_distinct, sorted_from_all_adjacent}
use Rattle.std.proofs.lemmas.Simd.{map-map}
use Rattle.std.specs.Borrow.{Bor}
use Rattle.serde_json.specs.Written.{compact_text}
use Rattle.prefix_tree.specs.Tree.{Tree}
use Rattle.overlay_setup.specs.NodeSets.{In}
use Rattle.overlay_setup.specs.declared.script.Fault.{Fault}
use Rattle.stat_plan.specs.Plans.{Plan}
use Rattle.stat_plan.proofs.FirstOver.{all_in}
use Rattle.stat_plan.proofs.InOrder.{sorted_map}
use Rattle.overlay_core.specs.TreeReleases.{TreeRelease, release_view, releases_view}
use Rattle.overlay_core.specs.declared.release.Release.{Release}
use Rattle.front_end.specs.Report.{AreDistinct, IsSortedCopy, IsReport, release_cmp, report_text}
use Rattle.front_end.specs.JsonReport.{IsJsonReport, report_data}
use Rattle.front_end.specs.Shown.{shown_releases}

in_at : {X : Type 0} (xs : List X) (k : ℕ) (d : X) → k < length xs → In (get_or xs k d) xs
in_at [] k d lt = absurd (omega arith)
in_at (x ∷ xs) zero d lt = inl (λ i. x)
in_at (x ∷ xs) (suc k) d lt = inr (in_at xs k d (omega arith))

all_from : {X : Type 0} (P : X → Type 0) (xs : List X) → All P xs → (x : X) → In x xs → P x
all_from P [] all x there = absurd there
all_from P (y ∷ ys) all x (inl e) = subst P (sym e) (all 0 y (omega arith))
all_from P (y ∷ ys) all x (inr there) = all_from P ys (λ k d lt. all (suc k) d (omega arith)) x there

-- what one list has, a list of the same elements has
pub in_permutation : {X : Type 0} (xs ys : List X) → IsPermutation xs ys → (x : X) → In x ys → In x xs
in_permutation xs ys same = all_from (λ x. In x xs) ys (All-permutation (λ x. In x xs) xs ys same (in_at xs))

module _ {X : Type 0} (R : X → X → Ordering) (total : IsTotalOrder R) where
  not_both : (x y : X) → R x y ≡ Less → R y x ≡ Less → ⊥
  not_both x y below above = let e : Less ≡ Greater = sym below ∙ total.antisymm x y ∙ ap ordering_reverse above in cc

  -- two increasing lists of the same elements are the same list
  pub one_order : (xs ys : List X) → IsStrictlySortedBy R xs → IsStrictlySortedBy R ys → ((x : X) → In x xs → In x ys) → ((x : X) → In x ys → In x xs) → xs ≡ ys
  unfolding IsStrictlySortedBy
  one_order [] [] up up' there back = λ i. []
  one_order [] (y ∷ ys) up up' there back = absurd (back y (inl (λ i. y)))
  one_order (x ∷ xs) [] up up' there back = absurd (there x (inl (λ i. x)))
  one_order (x ∷ xs) (y ∷ ys) up up' there back =
      let first : x ≡ y = elim (there x (inl (λ i. x))) [
        | inl e ↦ e
        | inr later ↦ elim (back y (inl (λ i. y))) [
          | inl e ↦ sym e
          | inr behind ↦ absurd (not_both x y (all_in (λ z. R x z ≡ Less) xs y up.0 behind) (all_in (λ z. R y z ≡ Less) ys x up'.0 later))
        ]
      ] in
      let rest : xs ≡ ys = one_order xs ys up.1 up'.1
      (λ z i. elim (there z (inr i)) [
        | inl e ↦ let less : R x x ≡ Less = subst (λ w. R x w ≡ Less) (e ∙ sym first) (all_in (λ w. R x w ≡ Less) xs z up.0 i) in absurd (not_both x x less less)
        | inr j ↦ j
      ])
      (λ z i. elim (back z (inr i)) [
        | inl e ↦ let less : R y y ≡ Less = subst (λ w. R y w ≡ Less) (e ∙ first) (all_in (λ w. R y w ≡ Less) ys z up'.0 i) in absurd (not_both y y less less)
        | inr j ↦ j
      ]) in
      λ i. first i ∷ rest i

  less_from : (o : Ordering) → is_lt (ordering_reverse o) ≡ false → is_eq o ≡ false → o ≡ Less
  less_from Less not_less distinct = λ i. Less
  less_from Equal not_less distinct = absurd (true≢false distinct)
  less_from Greater not_less distinct = absurd (true≢false not_less)

  -- a list that does not fall and has no ties increases
  pub increasing_where_distinct : (xs : List X) → IsSortedBy (λ x y. is_lt (R x y)) xs → IsDistinct (eq_by_cmp R) xs → IsStrictlySortedBy R xs
  unfolding IsStrictlySortedBy
  increasing_where_distinct [] up distinct = tt
  increasing_where_distinct (x ∷ xs) up distinct = sorted_from_all_adjacent total (x ∷ xs) x (λ k lt.
      less_from (R (get_or (x ∷ xs) k x) (get_or (x ∷ xs) (k + 1) x)) (ap is_lt (sym (total.antisymm (get_or (x ∷ xs) (k + 1) x) (get_or (x ∷ xs) k x))) ∙ up k x (omega arith) lt)
      (apart_from_distinct (eq_by_cmp R) (x ∷ xs) k (k + 1) x distinct (omega arith) lt))

pub release_cmp_total : IsTotalOrder release_cmp
release_cmp_total =
    then_total (then_total (on_total (λ (r : TreeRelease). r.stream) nat_cmp_total) (on_total (λ (r : TreeRelease). r.wave) nat_cmp_total)) (on_total (λ (r : TreeRelease). r.number) nat_cmp_total)

-- two sorted copies of the same releases are one list
same_order : (given one two : List TreeRelease) → IsSortedCopy given one → IsSortedCopy given two → one ≡ two
same_order given one two copy other =
    let same : IsPermutation one two = IsPermutation-trans one given two (IsPermutation-sym given one copy.same) other.same in
    one_order release_cmp release_cmp_total one two copy.increasing other.increasing (in_permutation two one (IsPermutation-sym one two same)) (in_permutation one two same)

pub reports_same : (p : Plan) (faults : List Fault) (given : List TreeRelease) (lost text other : List ℕ) → IsReport p faults given lost text → IsReport p faults given lost other → text ≡ other
reports_same p faults given lost text other one two =
    one.is ∙ ap (report_text p faults lost) (same_order given one.ordered two.ordered one.in_order two.in_order) ∙ sym two.is

pub json_reports_same : (p : Plan) (faults : List Fault) (given : List TreeRelease) (lost text other : List ℕ) → IsJsonReport p faults given lost text → IsJsonReport p faults given lost other → text ≡ other
json_reports_same p faults given lost text other one two =
    one.is ∙ ap (λ rs. compact_text (report_data p faults lost rs) ++ 10 ∷ []) (same_order given one.ordered two.ordered one.in_order two.in_order) ∙ sym two.is

-- what references show is in order where what they refer to is distinct, and a sort by stream, wave and number moved them
pub in_order_from_sort : {X : Type 0} (tree : X → Tree) (given : List (Release X)) (all sorted : List (Bor (Release X))) → AreDistinct (releases_view tree given) → map (λ r. r.now) all ≡ given → IsPermutation all sorted
    → IsSortedBy (λ (a b : Bor (Release X)). is_lt (release_cmp (release_view tree a.now) (release_view tree b.now))) sorted → IsSortedCopy (releases_view tree given) (shown_releases tree sorted)
in_order_from_sort {X} tree given all sorted distinct shows moved up =
    let view : Bor (Release X) → TreeRelease = λ r. release_view tree r.now in
    let viewed : shown_releases tree all ≡ releases_view tree given = sym (map-map (release_view tree) (λ (r : Bor (Release X)). r.now) all) ∙ ap (releases_view tree) shows in
    let same : IsPermutation (releases_view tree given) (shown_releases tree sorted) = subst (λ rs. IsPermutation rs (shown_releases tree sorted)) viewed (IsPermutation-map view all sorted moved) in
    record {
      same = same;
      increasing = increasing_where_distinct release_cmp release_cmp_total (shown_releases tree sorted) (sorted_map view (λ a b. is_lt (release_cmp a b)) sorted up)
          (IsDistinct-IsPermutation (eq_by_cmp release_cmp) (eq_by_cmp_equiv release_cmp_total).symm (releases_view tree given) (shown_releases tree sorted) same distinct);
    }
