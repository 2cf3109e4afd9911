-- What a tree that carries parts counts for.
use Rattle.std.proofs.Common.{◌≡◌, inl, inr, ℕ, ◌<◌, ◌^◌, Bool, true, false, ◌&&◌, ◌==◌, List, [], ◌∷◌, ap, refl, sym, ◌∙◌, Option, Some, None, subst, eq-eqb, eqb-true}
use Rattle.std.proofs.Math.IntN.{ℤ}
use lib.Signed.{mag}
use Rattle.std.specs.Prelude.{slice_get}
use Rattle.std.specs.FinMap as finmap
use Rattle.std.specs.Fmt.{signed_decimal}
use Rattle.std.proofs.lemmas.Bool.{true≢false, and_parts, and_from, cases_Bool}
use Rattle.rank_set.specs.Ranks.{Ranks, has, Has, IsSubset, in_order, is_subset, subset_has, subset_from}
use Rattle.call_path.specs.Path.{Path, is_path, is_prefix}
use Rattle.call_path.specs.Pairs.{Pairs, is_pair, is_below, passes}
use Rattle.call_path.proofs.PathLemmas.{is_path-exact, is_path-itself}
use Rattle.prefix_tree.specs.Tree.{Marks, tree_of}
use Rattle.prefix_tree.specs.Joined.{ended, AreRowsOf}
use Rattle.prefix_tree.proofs.TreeLemmas.{rows_of_tree, IsTreeOf-tree_of}
use Rattle.prefix_tree.proofs.PairLemmas.{pair_from_passes}
use Rattle.std.specs.Ordering.{nat_cmp, eq_by_cmp}
use Rattle.std.specs.Cmp.{Equal-is}
use Rattle.std.specs.Cmp.Lexicographic.{slice_cmp}
use Rattle.prefix_tree.proofs.ChangeLemmas.{AreDistinct, apart_from_order}
use Rattle.overlay_setup.specs.NodeSets.{In}
use Rattle.stat_plan.specs.Plans.{Plan, daemons, ranks}
use Rattle.stat_plan.specs.Invariants.{IsPlan}
use Rattle.stat_plan.proofs.InLists.{in_filter, in_from_filter, any_from_in, in_from_any}
use Rattle.overlay_core.specs.LinkInvariant.{IsUnion}
use Rattle.rank_sums.specs.declared.fold.Fold.{Fold}
use Rattle.value_text.specs.Numbers.{Numbers, number_of}
use Rattle.rank_sums.specs.Folds.{total, part_of, counted_at}
use Rattle.rank_sums.specs.Parts.{PartsFit, covered_daemons, part_at}
use Rattle.rank_sums.specs.PartTrees.{leader, number_path, number_at, row_total, tree_total, IsNumberRow, SaysPart, CarriesParts}
use Rattle.rank_sums.proofs.Totals.{IsOnce, where_so, total-same, total-none, total-one, total-exchange}
use Rattle.rank_sums.proofs.Wholes.{has_in, in_has, ranks_once, covered_once, sole, whole_parts}
use Rattle.rank_sums.proofs.NumberTexts.{text_value}

pub none_some : {X : Type 0} {x : X} → None ≡ Some x → ⊥
none_some e = absurd (cc)

pub some_same : {X : Type 0} {x y : X} → Some x ≡ Some y → x ≡ y
some_same e = cc

-- the first of a list is in it
first_in : (xs : List ℕ) (x : ℕ) → slice_get xs 0 ≡ Some x → In x xs
first_in [] x e = absurd (cc)
first_in (y ∷ ys) x e = inl (cc)

pub leads_has : (p : Plan) (d r : ℕ) → leader p d ≡ Some r → Has r (ranks p d)
leads_has p d r e = in_has (ranks p d) r (first_in (in_order (ranks p d)) r e)

-- two daemons of one leader are one
one_leader : (p : Plan) (a b r : ℕ) → IsPlan p → leader p a ≡ Some r → leader p b ≡ Some r → a ≡ b
one_leader p a b r plan ha hb = sole p a b r plan (leads_has p a r ha) (leads_has p b r hb)

-- ---- rows

rows_once : (es : List (Path × Marks)) → AreDistinct es → IsOnce es
rows_once [] h = tt
rows_once (e ∷ es) h = ((λ i. true≢false (sym (any_from_in (λ x. is_path e.0 x.0 && true) e es i (and_from (is_path e.0 e.0) true (is_path-itself e.0) refl)) ∙ h.0)), rows_once es h.1)

-- where there is no first there is nothing to count
pub no_leader : (h : ℕ → Option ℤ) (f : Fold) (xs : List ℕ) → slice_get xs 0 ≡ None → total f h xs ≡ None
no_leader h f [] e = refl
no_leader h f (x ∷ xs) e = absurd (cc)

-- rows of one path are one
one_path : (es : List (Path × Marks)) → AreDistinct es → (a b : Path × Marks) → In a es → In b es → a.0 ≡ b.0 → a ≡ b
one_path [] h a b i j e = absurd i
one_path (x ∷ xs) h a b (inl i) (inl j) e = i ∙ sym j
one_path (x ∷ xs) h a b (inl i) (inr j) e = absurd (true≢false (sym (any_from_in (λ y. is_path x.0 y.0 && true) b xs j (and_from (is_path x.0 b.0) true (subst (λ q. is_path x.0 q ≡ true) (ap (λ y. y.0) (sym i) ∙ e) (is_path-itself x.0)) refl)) ∙ h.0))
one_path (x ∷ xs) h a b (inr i) (inl j) e = absurd (true≢false (sym (any_from_in (λ y. is_path x.0 y.0 && true) a xs i (and_from (is_path x.0 a.0) true (subst (λ q. is_path x.0 q ≡ true) (ap (λ y. y.0) (sym j) ∙ sym e) (is_path-itself x.0)) refl)) ∙ h.0))
one_path (x ∷ xs) h a b (inr i) (inr j) e = one_path xs h.1 a b i j e

module _ (p : Plan) (v : Numbers) (f : Fold) (s n : ℕ) (P : Pairs) (C : Ranks) (plan : IsPlan p) (carries : CarriesParts p v f s P) (whole : IsUnion p s n C) (small : (d : ℕ) (z : ℤ) → part_at p v f d ≡ Some z → mag z < 2 ^ 63) where
  rows : List (Path × Marks)
  rows = finmap.entries (tree_of P C).below

  ds : List ℕ
  ds = covered_daemons p s C

  of_rows : AreRowsOf P C rows
  unfolding rows
  of_rows = rows_of_tree P C (tree_of P C) (IsTreeOf-tree_of P C)

  distinct : AreDistinct rows
  unfolding rows
  distinct = apart_from_order (finmap.entries (tree_of P C).below) (finmap.entries_sorted (tree_of P C).below)

  -- who ends in a row has its path
  row_pair : (e : Path × Marks) (r : ℕ) → In e rows → Has r e.1.1 → Has r C × (is_pair P r e.0 ≡ true)
  row_pair e r i h =
      let t : (is_below e.0 && (has C r && is_pair P r e.0)) ≡ true = sym (of_rows.ends e.0 r) ∙ any_from_in (λ x. is_path e.0 x.0 && ended r x.1) e rows i (and_from (is_path e.0 e.0) (has e.1.1 r) (is_path-itself e.0) h) in
      and_parts (has C r) (is_pair P r e.0) (and_parts (is_below e.0) (has C r && is_pair P r e.0) t).1

  -- and who has a path ends in its row
  pair_row : (r : ℕ) (q : Path) → is_below q ≡ true → Has r C → is_pair P r q ≡ true → (e : Path × Marks) × (In e rows × (q ≡ e.0) × Has r e.1.1)
  pair_row r q below h pair =
      let found = in_from_any (λ x. is_path q x.0 && ended r x.1) rows (of_rows.ends q r ∙ and_from (is_below q) (has C r && is_pair P r q) below (and_from (has C r) (is_pair P r q) h pair)) in
      let both = and_parts (is_path q found.0.0) (ended r found.0.1) found.1.1 in
      (found.0, (found.1.0, is_path-exact q found.0.0 both.0, both.1))

  -- whether the least rank of a daemon is in a set
  led : Option ℕ → Ranks → Bool
  led None ends = false
  led (Some r) ends = has ends r

  -- the only frame of a part's path is its text
  part_number : (d : ℕ) (z : ℤ) → part_at p v f d ≡ Some z → number_at (number_path z) ≡ Some z
  part_number d z e = ap Some (text_value z (small d z e))

  -- who ends in a row is the leader of a daemon that is covered
  row_says : (e : Path × Marks) (r : ℕ) → In e rows → Has r e.1.1 → SaysPart p v f s r e.0
  row_says e r i h = carries.says r e.0 (row_pair e r i h).1

  leader_covered : (d r : ℕ) → In d (daemons p s) → leader p d ≡ Some r → Has r C → In d (covered_daemons p s C)
  leader_covered d r listed leads h =
      let w = whole r h in
      let same : w.daemon ≡ d = sole p w.daemon d r plan w.holds (leads_has p d r leads) in
      in_filter (λ x. is_subset (ranks p x) C) d (daemons p s) listed (subset_from (ranks p d) C (subst (λ x. IsSubset (ranks p x) C) same w.all))

  -- each row by the leaders that end there
  of_row : (e : Path × Marks) → In e rows → total f (λ r. number_at e.0) (in_order e.1.1) ≡ total f (λ d. where_so (led (leader p d) e.1.1) (number_at e.0)) ds
  unfolding led ds
  of_row e i =
      total-same f (λ r. number_at e.0) (λ r. total f (λ d. where_so (leads r (leader p d)) (number_at e.0)) (covered_daemons p s C)) (in_order e.1.1) (λ r j. sym (one_for r (in_has e.1.1 r j)))
      ∙ total-exchange f (λ r d. where_so (leads r (leader p d)) (number_at e.0)) (in_order e.1.1) (covered_daemons p s C)
      ∙ total-same f (λ d. total f (λ r. where_so (leads r (leader p d)) (number_at e.0)) (in_order e.1.1)) (λ d. where_so (led (leader p d) e.1.1) (number_at e.0)) (covered_daemons p s C) (λ d j. one_in (leader p d))
    where
      leads : ℕ → Option ℕ → Bool
      leads r None = false
      leads r (Some l) = l == r

      leads_is : (r : ℕ) (o : Option ℕ) → leads r o ≡ true → o ≡ Some r
      leads_is r None h = absurd (true≢false (sym h))
      leads_is r (Some l) h = ap Some (eqb-true l r h)

      leads_from : (r : ℕ) (o : Option ℕ) → o ≡ Some r → leads r o ≡ true
      leads_from r o h = subst (λ x. leads r x ≡ true) (sym h) (eq-eqb r r refl)

      one_for : (r : ℕ) → Has r e.1.1 → total f (λ d. where_so (leads r (leader p d)) (number_at e.0)) (covered_daemons p s C) ≡ number_at e.0
      one_for r h =
          let says = row_says e r i h in
          total-one f (λ d. leads r (leader p d)) (λ d. number_at e.0) (covered_daemons p s C) says.daemon (covered_once p s C plan)
          (leader_covered says.daemon r says.of.listed says.of.leads (row_pair e r i h).0)
          (leads_from r (leader p says.daemon) says.of.leads)
          (λ d j k. one_leader p d says.daemon r plan (leads_is r (leader p d) k) says.of.leads)

      one_in : (o : Option ℕ) → total f (λ r. where_so (leads r o) (number_at e.0)) (in_order e.1.1) ≡ where_so (led o e.1.1) (number_at e.0)
      one_in None = total-none f (λ r. None) (in_order e.1.1) (λ r j. refl)
      one_in (Some l) = elim (cases_Bool (has e.1.1 l)) [
        | inl t ↦
            total-one f (λ r. l == r) (λ r. number_at e.0) (in_order e.1.1) l (ranks_once e.1.1) (has_in e.1.1 l t) (eq-eqb l l refl) (λ r j k. sym (eqb-true l r k))
            ∙ ap (λ b. where_so b (number_at e.0)) (sym t)
        | inr out ↦
            total-none f (λ r. where_so (l == r) (number_at e.0)) (in_order e.1.1) (λ r j. other r (l == r) refl (λ k. true≢false (sym (subst (λ x. has e.1.1 x ≡ true) (sym k) (in_has e.1.1 r j)) ∙ out)))
            ∙ ap (λ b. where_so b (number_at e.0)) (sym out)
      ]
        where
          other : (r : ℕ) (b : Bool) → (l == r) ≡ b → (l ≡ r → ⊥) → where_so b (number_at e.0) ≡ None
          other r true k ne = absurd (ne (eqb-true l r k))
          other r false k ne = refl

  -- each covered daemon by the rows where its leader ends
  of_daemon : (d : ℕ) → In d ds → part_at p v f d ≡ total f (λ e. where_so (led (leader p d) e.1.1) (number_at e.0)) rows
  unfolding led ds
  of_daemon d i = go (part_at p v f d) refl (leader p d) refl
    where
      within : In d (daemons p s) × (is_subset (ranks p d) C ≡ true)
      within = in_from_filter (λ x. is_subset (ranks p x) C) d (daemons p s) i

      -- a row where the leader ends says the daemon's part
      says_own : (r : ℕ) (e : Path × Marks) → leader p d ≡ Some r → In e rows → Has r e.1.1 → (z : ℤ) × ((part_at p v f d ≡ Some z) × (e.0 ≡ number_path z))
      says_own r e leads j h =
          let says = row_says e r j h in
          (says.number, (subst (λ x. part_at p v f x ≡ Some says.number) (one_leader p says.daemon d r plan says.of.leads leads) says.of.part, says.path))

      go : (o : Option ℤ) → part_at p v f d ≡ o → (l : Option ℕ) → leader p d ≡ l → o ≡ total f (λ e. where_so (led l e.1.1) (number_at e.0)) rows
      go None part None leads = sym (total-none f (λ e. None) rows (λ e j. refl))
      go (Some z) part None leads = absurd (none_some (sym (no_leader (λ r. counted_at f (number_of v r)) f (in_order (ranks p d)) leads) ∙ part))
      go None part (Some r) leads = sym (total-none f (λ e. where_so (has e.1.1 r) (number_at e.0)) rows (λ e j. out e j (has e.1.1 r) refl))
        where
          out : (e : Path × Marks) → In e rows → (b : Bool) → has e.1.1 r ≡ b → where_so b (number_at e.0) ≡ None
          out e j true h = let says = says_own r e leads j h in absurd (none_some (sym part ∙ says.1.0))
          out e j false h = refl
      go (Some z) part (Some r) leads =
          let there = pair_row r (number_path z) refl (subset_has (ranks p d) C within.1 r (leads_has p d r leads)) (carries.complete d r z (record { listed = within.0; part = part; leads = leads })) in
          sym (total-one f (λ e. has e.1.1 r) (λ e. number_at e.0) rows there.0 (rows_once rows distinct) there.1.0 there.1.2 (λ e j h. same e j h there.0 there.1.0 there.1.1)
          ∙ ap number_at (sym there.1.1) ∙ part_number d z part)
        where
          same : (e : Path × Marks) → In e rows → Has r e.1.1 → (e0 : Path × Marks) → In e0 rows → number_path z ≡ e0.0 → e ≡ e0
          same e j h e0 j0 is =
              let says = says_own r e leads j h in
              one_path rows distinct e e0 j j0 (says.1.1 ∙ ap number_path (some_same (sym says.1.0 ∙ part)) ∙ is)

  -- the tree counts for the parts of the daemons that it covers
  pub tree_parts : tree_total f (tree_of P C) ≡ total f (part_at p v f) (covered_daemons p s C)
  unfolding rows ds
  tree_parts =
      total-same f (row_total f) (λ e. total f (λ d. where_so (led (leader p d) e.1.1) (number_at e.0)) (covered_daemons p s C)) (finmap.entries (tree_of P C).below) of_row
      ∙ total-exchange f (λ e d. where_so (led (leader p d) e.1.1) (number_at e.0)) (finmap.entries (tree_of P C).below) (covered_daemons p s C)
      ∙ total-same f (λ d. total f (λ e. where_so (led (leader p d) e.1.1) (number_at e.0)) (finmap.entries (tree_of P C).below)) (part_at p v f) (covered_daemons p s C) (λ d i. sym (of_daemon d i))

-- the tree of parts over whole daemons counts for the fold over their ranks
pub tree_is_fold : (p : Plan) (v : Numbers) (f : Fold) (s n : ℕ) (P : Pairs) (C : Ranks) → IsPlan p → CarriesParts p v f s P → IsUnion p s n C → PartsFit p v f → tree_total f (tree_of P C) ≡ part_of f v C
tree_is_fold p v f s n P C plan carries whole small = tree_parts p v f s n P C plan carries whole small ∙ sym (whole_parts p v f s n C plan whole)

-- the only prefix of a one-frame path below the root is the path
whole_prefix : (q : Path) (f : List ℕ) → is_below q ≡ true → is_prefix q (f ∷ []) ≡ true → q ≡ f ∷ []
whole_prefix [] f below h = absurd (true≢false (sym below))
whole_prefix (g ∷ []) f below h = ap (λ x. x ∷ []) (finmap.slice_cmp-IsAntisymmetric finmap.nat_cmp-IsAntisymmetric g f ((Equal-is (slice_cmp nat_cmp g f)).0 (and_parts (eq_by_cmp (slice_cmp nat_cmp) g f) true h).0))
whole_prefix (g ∷ k ∷ q) f below h = absurd (true≢false (sym (and_parts (eq_by_cmp (slice_cmp nat_cmp) g f) false h).1))

prefix_is : (e q : Path) (z : ℤ) → q ≡ number_path z → is_below e ≡ true → is_prefix e q ≡ true → e ≡ number_path z
prefix_is e q z is below h = whole_prefix e (signed_decimal z) below (subst (λ x. is_prefix e x ≡ true) is h)

-- each row of a tree of parts is of a number
pub part_rows : (p : Plan) (v : Numbers) (f : Fold) (s : ℕ) (P : Pairs) (C : Ranks) → CarriesParts p v f s P → PartsFit p v f → (e : Path × Marks) → In e (finmap.entries (tree_of P C).below) → IsNumberRow e
part_rows p v f s P C carries small e i =
    let of_rows : AreRowsOf P C (finmap.entries (tree_of P C).below) = rows_of_tree P C (tree_of P C) (IsTreeOf-tree_of P C) in
    let some = of_rows.used e.0 (any_from_in (λ x. is_path e.0 x.0 && true) e (finmap.entries (tree_of P C).below) i (and_from (is_path e.0 e.0) true (is_path-itself e.0) refl)) in
    let parts = and_parts (is_below e.0) (has C some.0 && passes P some.0 e.0) (sym (of_rows.labels e.0 some.0) ∙ some.1) in
    let pair = pair_from_passes P some.0 e.0 (and_parts (has C some.0) (passes P some.0 e.0) parts.1).1 in
    let says = carries.says some.0 pair.path pair.seen_in in
    record {
      number = says.number;
      fits = small says.daemon says.number says.of.part;
      path = prefix_is e.0 pair.path says.number says.path parts.0 pair.starts;
    }
