-- Releases that are numbered in order are distinct.
use Rattle.std.proofs.Common.{◌≡◌, ℕ, suc, ◌+◌, ◌≤◌, ◌==◌, inl, inr, true, false, ◌&&◌, List, [], ◌∷◌, ◌++◌, map, length, refl, sym, ap, ◌∙◌, arith, length-append, eq-eqb, eqb-true}
use Rattle.std.specs.List.{AllByRecursion, IsDistinct}
use Rattle.std.specs.Cmp.{unsigned_tied}
use Rattle.std.specs.Ordering.{eq_by_cmp, is_eq, nat_cmp, ordering_then}
use Rattle.std.specs.declared.cmp.Ordering.{Ordering}
use Rattle.std.specs.declared.cmp.Ordering.TheVariants.{Less, Equal, Greater}
use Rattle.std.proofs.lemmas.Bool.{and_from, cases_Bool, cond-true}
use Rattle.std.proofs.lemmas.List.Elements.{filter-append}
use Rattle.overlay_core.specs.Nodes.{Release}
use Rattle.overlay_core.specs.History.{of_wave}
use Rattle.overlay_core.specs.TreeReleases.{TreeRelease, AreNumberedInOrder, bare_release, bare_releases, numbers_after}
use Rattle.front_end.specs.Report.{AreDistinct, release_cmp}

-- the head and the tail of one list that is another
first_same : (x y : ℕ) (xs ys : List ℕ) → x ∷ xs ≡ y ∷ ys → x ≡ y
first_same x y xs ys e = cc

rest_same : (x y : ℕ) (xs ys : List ℕ) → x ∷ xs ≡ y ∷ ys → xs ≡ ys
rest_same x y xs ys e = cc

pub rest_numbered : (earlier : List Release) (r : TreeRelease) (rs : List TreeRelease) → AreNumberedInOrder earlier (r ∷ rs) → AreNumberedInOrder (earlier ++ bare_release r ∷ []) rs
rest_numbered earlier r rs e =
    rest_same r.number (suc (length (of_wave r.stream r.wave earlier))) (map (λ (r : TreeRelease). r.number) rs) (numbers_after (earlier ++ bare_release r ∷ []) (bare_releases rs)) e

pub first_number : (earlier : List Release) (r : TreeRelease) (rs : List TreeRelease) → AreNumberedInOrder earlier (r ∷ rs) → r.number ≡ suc (length (of_wave r.stream r.wave earlier))
first_number earlier r rs e =
    first_same r.number (suc (length (of_wave r.stream r.wave earlier))) (map (λ (r : TreeRelease). r.number) rs) (numbers_after (earlier ++ bare_release r ∷ []) (bare_releases rs)) e

-- there are more releases of a wave with one more
length_more : (s w : ℕ) (earlier : List Release) (r : Release) → length (of_wave s w (earlier ++ r ∷ [])) ≡ length (of_wave s w earlier) + length (of_wave s w (r ∷ []))
length_more s w earlier r =
    ap (λ (rs : List Release). length rs) (filter-append (λ (r : Release). (r.stream == s) && (r.wave == w)) earlier (r ∷ [])) ∙ length-append (of_wave s w earlier) (of_wave s w (r ∷ []))

one_of_own_wave : (r : Release) → of_wave r.stream r.wave (r ∷ []) ≡ r ∷ []
one_of_own_wave r = cond-true ((r.stream == r.stream) && (r.wave == r.wave)) (r ∷ []) [] (and_from (r.stream == r.stream) (r.wave == r.wave) (eq-eqb r.stream r.stream refl) (eq-eqb r.wave r.wave refl))

-- two orders one after the other tie where both do
both_tie : (o s : Ordering) → is_eq (ordering_then o s) ≡ true → (is_eq o ≡ true) × (is_eq s ≡ true)
both_tie Less s e = absurd (cc)
both_tie Equal s e = (refl, e)
both_tie Greater s e = absurd (cc)

same_number : (x y : ℕ) → is_eq (nat_cmp x y) ≡ true → x ≡ y
same_number x y e = eqb-true x y (sym (unsigned_tied x y) ∙ e)

-- a release whose number isn't greater than how many of its wave came before some others is none of these
none_is_it : (a : TreeRelease) (earlier : List Release) (rs : List TreeRelease) → AreNumberedInOrder earlier rs → a.number ≤ length (of_wave a.stream a.wave earlier) → AllByRecursion (λ y. eq_by_cmp release_cmp a y ≡ false) rs
none_is_it a earlier [] numbered few = tt
none_is_it a earlier (r ∷ rs) numbered few = (
  elim (cases_Bool (eq_by_cmp release_cmp a r)) [
    | inl same ↦
        let both = both_tie (ordering_then (nat_cmp a.stream r.stream) (nat_cmp a.wave r.wave)) (nat_cmp a.number r.number) same in
        let places = both_tie (nat_cmp a.stream r.stream) (nat_cmp a.wave r.wave) both.0 in
        let stream : a.stream ≡ r.stream = same_number a.stream r.stream places.0 in
        let wave : a.wave ≡ r.wave = same_number a.wave r.wave places.1 in
        let number : a.number ≡ r.number = same_number a.number r.number both.1 in
        let next : r.number ≡ suc (length (of_wave r.stream r.wave earlier)) = first_number earlier r rs numbered in
        let counts : length (of_wave a.stream a.wave earlier) ≡ length (of_wave r.stream r.wave earlier) = λ i. length (of_wave (stream i) (wave i) earlier) in
        absurd (omega arith)
    | inr other ↦ other
  ],
  let more : length (of_wave a.stream a.wave (earlier ++ bare_release r ∷ [])) ≡ length (of_wave a.stream a.wave earlier) + length (of_wave a.stream a.wave (bare_release r ∷ [])) = length_more a.stream a.wave earlier (bare_release r) in
      none_is_it a (earlier ++ bare_release r ∷ []) rs (rest_numbered earlier r rs numbered) (omega arith),
)

numbered_distinct : (earlier : List Release) (rs : List TreeRelease) → AreNumberedInOrder earlier rs → AreDistinct rs
unfolding IsDistinct
numbered_distinct earlier [] numbered = tt
numbered_distinct earlier (r ∷ rs) numbered =
    let next : r.number ≡ suc (length (of_wave r.stream r.wave earlier)) = first_number earlier r rs numbered in
    let more : length (of_wave r.stream r.wave (earlier ++ bare_release r ∷ [])) ≡ length (of_wave r.stream r.wave earlier) + length (of_wave r.stream r.wave (bare_release r ∷ [])) = length_more r.stream r.wave earlier (bare_release r) in
    let own : length (of_wave r.stream r.wave (bare_release r ∷ [])) ≡ 1 = ap (λ (rs : List Release). length rs) (one_of_own_wave (bare_release r)) in
    let later : AreNumberedInOrder (earlier ++ bare_release r ∷ []) rs = rest_numbered earlier r rs numbered in
    (none_is_it r (earlier ++ bare_release r ∷ []) rs later (omega arith), numbered_distinct (earlier ++ bare_release r ∷ []) rs later)

-- releases that are numbered in order are distinct
pub distinct_where_numbered : (releases : List TreeRelease) → AreNumberedInOrder [] releases → AreDistinct releases
distinct_where_numbered releases numbered = numbered_distinct [] releases numbered
