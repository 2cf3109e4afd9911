-- How many distinct prefixes paths in order have.
use Rattle.std.proofs.Common.{◌≡◌, ℕ, zero, suc, ◌+◌, ◌-◌, ◌≤◌, ◌<◌, Bool, true, false, not, cond, nat_le, ◌&&◌, ◌||◌, List, [], ◌∷◌, ◌++◌, filter, get_or, length, map, take, refl, sym, ap, subst, ◌∙◌, arith, inl, inr}
use Rattle.std.specs.List.{list_any, flat_map, IsDistinct, AllByRecursion}
use Rattle.std.specs.Set.{distinct_count}
use Rattle.std.specs.Ordering.{eq_by_cmp, is_eq, is_lt, nat_cmp, ordering_then, ordering_reverse}
use Rattle.std.specs.declared.cmp.Ordering.{Ordering}
use Rattle.std.specs.declared.cmp.Ordering.TheVariants.{Less, Equal, Greater}
use Rattle.std.specs.Cmp.{Equal-is, tied_itself}
use Rattle.std.specs.Cmp.Lexicographic.{slice_cmp, nat_list_cmp_total}
use Rattle.std.specs.FinMap as finmap
use Rattle.std.proofs.lemmas.Bool.{true≢false, and_parts, and_from, or_cases, or_left, or_right, false_from_ne_true, le-leb, leb-true}
use Rattle.std.proofs.lemmas.Cmp.{eq_by_cmp_equiv}
use Rattle.std.proofs.lemmas.List.{append-nil, get_or-map, length-map, take_all, take_more}
use Rattle.std.proofs.lemmas.List.MinMax.{ranks_by}
use Rattle.std.proofs.lemmas.List.Sorted.{sorted_far}
use Rattle.std.proofs.lemmas.List.Folds.{list_any-append}
use Rattle.std.proofs.lemmas.Map.Made.{length-from_keys, length-le_from_is_member}
use Rattle.call_path.specs.Path.{Path, path_cmp, path_cmp_total, is_path, is_prefix, shared_len}
use Rattle.call_path.specs.Pairs.{is_below, prefixes}
use Rattle.call_path.proofs.PathLemmas.{and_false, any-prefixes, any-under, is_path-exact, none-under}
use Rattle.stat_plan.specs.PathOrder.{IsOrderOf, IsPathOrder, numbered, seen_paths}
use Rattle.overlay_setup.specs.NodeSets.{In}
use Rattle.stat_plan.proofs.InLists.{in_at}

-- the order of frames
abbrev frame_cmp : List ℕ → List ℕ → Ordering
frame_cmp = slice_cmp nat_cmp

abbrev is_frame : List ℕ → List ℕ → Bool
is_frame f g = eq_by_cmp frame_cmp f g

pub same_frame : (f g : List ℕ) → is_frame f g ≡ true → f ≡ g
same_frame f g e = finmap.slice_cmp-IsAntisymmetric finmap.nat_cmp-IsAntisymmetric f g ((Equal-is (frame_cmp f g)).0 e)

pub frame_itself : (f : List ℕ) → is_frame f f ≡ true
frame_itself f = ap is_eq (tied_itself nat_list_cmp_total f)

-- the first path does not come after the second
abbrev pub IsNotAfter : Path → Path → Type 0
IsNotAfter p q = is_lt (path_cmp q p) ≡ false

-- a prefix of two paths is one of each path between them
pub between : (x r q p : Path) → IsNotAfter r q → IsNotAfter q p → is_prefix x r ≡ true → is_prefix x p ≡ true → is_prefix x q ≡ true
between [] r q p low high in_r in_p = refl
between (h ∷ x) [] q p low high in_r in_p = absurd (true≢false (sym in_r))
between (h ∷ x) (a ∷ r) q [] low high in_r in_p = absurd (true≢false (sym in_p))
between (h ∷ x) (a ∷ r) [] (c ∷ p) low high in_r in_p = absurd (true≢false low)
between (h ∷ x) (a ∷ r) (b ∷ q) (c ∷ p) low high in_r in_p =
    let first = and_parts (is_frame h a) (is_prefix x r) in_r in
    let last = and_parts (is_frame h c) (is_prefix x p) in_p in
    let one : a ≡ h = sym (same_frame h a first.0) in
    let other : c ≡ h = sym (same_frame h c last.0) in
    by (frame_cmp b h) refl
    (subst (λ g. is_lt (ordering_then (frame_cmp b g) (path_cmp q r)) ≡ false) one low)
    (subst (λ g. is_lt (ordering_then (frame_cmp g b) (path_cmp p q)) ≡ false) other high)
    (λ l m. between x r q p l m first.1 last.1)
  where
    by : (o : Ordering) → frame_cmp b h ≡ o → is_lt (ordering_then (frame_cmp b h) (path_cmp q r)) ≡ false → is_lt (ordering_then (frame_cmp h b) (path_cmp p q)) ≡ false
        → (IsNotAfter r q → IsNotAfter q p → is_prefix x q ≡ true) → (is_frame h b && is_prefix x q) ≡ true
    by Less e l m rest = absurd (true≢false (subst (λ o. is_lt (ordering_then o (path_cmp q r)) ≡ false) e l))
    by Equal e l m rest =
        let same : frame_cmp h b ≡ Equal = nat_list_cmp_total.antisymm h b ∙ ap ordering_reverse e in
        and_from (is_frame h b) (is_prefix x q) (ap is_eq same)
        (rest (subst (λ o. is_lt (ordering_then o (path_cmp q r)) ≡ false) e l) (subst (λ o. is_lt (ordering_then o (path_cmp p q)) ≡ false) same m))
    by Greater e l m rest =
        let less : frame_cmp h b ≡ Less = nat_list_cmp_total.antisymm h b ∙ ap ordering_reverse e in
        absurd (true≢false (subst (λ o. is_lt (ordering_then o (path_cmp p q)) ≡ false) less m))

-- the prefixes of a path that another one has not
abbrev pub fresh : Path → Path → List Path
fresh [] q = []
fresh (f ∷ p) [] = prefixes (f ∷ p)
fresh (f ∷ p) (g ∷ q) = cond (is_frame f g) (map (λ s. f ∷ s) (fresh p q)) (prefixes (f ∷ p))

pub length-prefixes : (p : Path) → length (prefixes p) ≡ length p
length-prefixes [] = refl
length-prefixes (f ∷ p) = ap suc (length-map (prefixes p) (λ s. f ∷ s) ∙ length-prefixes p)

-- they are as many as the frames that are not shared
pub length-fresh : (p q : Path) → length (fresh p q) + shared_len p q ≡ length p
length-fresh [] q = refl
length-fresh (f ∷ p) [] = let n = length-prefixes (f ∷ p) in omega (arith, n)
length-fresh (f ∷ p) (g ∷ q) = by (is_frame f g) (length-fresh p q)
  where
    by : (b : Bool) → length (fresh p q) + shared_len p q ≡ length p
        → length (cond b (map (λ s. f ∷ s) (fresh p q)) (prefixes (f ∷ p))) + cond b (suc (shared_len p q)) 0 ≡ suc (length p)
    by true rest = let n = length-map (fresh p q) (λ s. f ∷ s) in omega (arith, n, rest)
    by false rest = let n = length-prefixes (f ∷ p) in omega (arith, n)

-- at most all frames are shared
pub shared_within : (p q : Path) → shared_len p q ≤ length p
shared_within p q = let long = length-fresh p q in omega (arith, long)

and_true : (a : Bool) → a ≡ (a && true)
and_true true = refl
and_true false = refl

-- a path is among them where it is a prefix of the one and not of the other
pub any-fresh : (p q x : Path) → list_any (is_path x) (fresh p q) ≡ (is_below x && (is_prefix x p && not (is_prefix x q)))
any-fresh [] q [] = refl
any-fresh [] q (h ∷ x) = refl
any-fresh (f ∷ p) [] [] = none-under f (prefixes p)
any-fresh (f ∷ p) [] (h ∷ x) = any-prefixes (f ∷ p) (h ∷ x) ∙ and_true (is_prefix (h ∷ x) (f ∷ p))
any-fresh (f ∷ p) (g ∷ q) [] = by (is_frame f g)
  where
    by : (b : Bool) → list_any (is_path []) (cond b (map (λ s. f ∷ s) (fresh p q)) (prefixes (f ∷ p))) ≡ false
    by true = none-under f (fresh p q)
    by false = none-under f (prefixes p)
any-fresh (f ∷ p) (g ∷ q) (h ∷ x) = by (is_frame f g) refl (any-fresh p q x)
  where
    below : (a : Bool) (y : Path) → (a && (is_below y && (is_prefix y p && not (is_prefix y q)))) ≡ ((a && is_prefix y p) && not (a && is_prefix y q))
    below true [] = refl
    below true (k ∷ y) = refl
    below false y = refl

    other : (a b c d : Bool) → (a ≡ true → b ≡ false) → (a && c) ≡ ((a && c) && not (b && d))
    other true b c d differs = and_true c ∙ ap (λ k. c && not (k && d)) (sym (differs refl))
    other false b c d differs = refl

    by : (b : Bool) → is_frame f g ≡ b → list_any (is_path x) (fresh p q) ≡ (is_below x && (is_prefix x p && not (is_prefix x q)))
        → list_any (is_path (h ∷ x)) (cond b (map (λ s. f ∷ s) (fresh p q)) (prefixes (f ∷ p))) ≡ ((is_frame h f && is_prefix x p) && not (is_frame h g && is_prefix x q))
    by true e rest =
        any-under f h x (fresh p q)
        ∙ ap (λ b. is_frame h f && b) rest
        ∙ below (is_frame h f) x
        ∙ ap (λ k. (is_frame h f && is_prefix x p) && not (is_frame h k && is_prefix x q)) (same_frame f g e)
    by false e rest =
        any-prefixes (f ∷ p) (h ∷ x)
        ∙ other (is_frame h f) (is_frame h g) (is_prefix x p) (is_prefix x q) (λ same. ap (λ k. is_frame k g) (same_frame h f same) ∙ e)

-- ---- lists of paths of which no two are the same

none_equal : (x : Path) (ps : List Path) → list_any (is_path x) ps ≡ false → AllByRecursion (λ y. is_path x y ≡ false) ps
none_equal x [] e = tt
none_equal x (p ∷ ps) e = by (is_path x p) refl e (none_equal x ps)
  where
    by : (b : Bool) → is_path x p ≡ b → (b || list_any (is_path x) ps) ≡ false → (list_any (is_path x) ps ≡ false → AllByRecursion (λ y. is_path x y ≡ false) ps)
        → (is_path x p ≡ false) × AllByRecursion (λ y. is_path x y ≡ false) ps
    by true is none rest = absurd (true≢false none)
    by false is none rest = (is, rest none)

one_of : (x : Path) (ps : List Path) → AllByRecursion (λ y. is_path x y ≡ false) ps → list_any (is_path x) ps ≡ false
one_of x [] others = refl
one_of x (p ∷ ps) others = (λ i. others.0 i || one_of x ps others.1 i)

-- two such lists without a common path
pub distinct-append : (xs ys : List Path) → IsDistinct is_path xs → IsDistinct is_path ys → ((x : Path) → list_any (is_path x) xs ≡ true → list_any (is_path x) ys ≡ false) → IsDistinct is_path (xs ++ ys)
unfolding IsDistinct
distinct-append [] ys one two other = two
distinct-append (x ∷ xs) ys one two other = (
  none_equal x (xs ++ ys) (list_any-append (is_path x) xs ys ∙ (λ i. one_of x xs one.0 i || other x (or_left (is_path x x) (list_any (is_path x) xs) (ap is_eq (tied_itself path_cmp_total x))) i)),
  distinct-append xs ys one.1 two (λ y there. other y (or_right (is_path y x) (list_any (is_path y) xs) there)),
)

-- they stay distinct below a frame
distinct-under : (f : List ℕ) (ps : List Path) → IsDistinct is_path ps → IsDistinct is_path (map (λ s. f ∷ s) ps)
unfolding IsDistinct
distinct-under f [] one = tt
distinct-under f (p ∷ ps) one = (
  none_equal (f ∷ p) (map (λ s. f ∷ s) ps) (any-under f f p ps ∙ (λ i. frame_itself f i && one_of p ps one.0 i)),
  distinct-under f ps one.1,
)

distinct-prefixes : (p : Path) → IsDistinct is_path (prefixes p)
unfolding IsDistinct
distinct-prefixes [] = tt
distinct-prefixes (f ∷ p) = (
  none_equal (f ∷ []) (map (λ s. f ∷ s) (prefixes p)) (any-under f f [] (prefixes p) ∙ (λ i. frame_itself f i && any-prefixes p [] i)),
  distinct-under f (prefixes p) (distinct-prefixes p),
)

distinct-fresh : (p q : Path) → IsDistinct is_path (fresh p q)
unfolding IsDistinct
distinct-fresh [] q = tt
distinct-fresh (f ∷ p) [] = distinct-prefixes (f ∷ p)
distinct-fresh (f ∷ p) (g ∷ q) = by (is_frame f g) (distinct-fresh p q)
  where
    by : (b : Bool) → IsDistinct is_path (fresh p q) → IsDistinct is_path (cond b (map (λ s. f ∷ s) (fresh p q)) (prefixes (f ∷ p)))
    by true rest = distinct-under f (fresh p q) rest
    by false rest = distinct-prefixes (f ∷ p)

-- ---- counting

-- a path is among the prefixes of some paths
pub any-all_prefixes : (ps : List Path) (x : Path) → list_any (is_path x) (flat_map prefixes ps) ≡ (is_below x && list_any (is_prefix x) ps)
any-all_prefixes [] x = sym (and_false (is_below x))
any-all_prefixes (p ∷ ps) x =
    list_any-append (is_path x) (prefixes p) (flat_map prefixes ps)
    ∙ (λ i. any-prefixes p x i || any-all_prefixes ps x i)
    ∙ factor (is_below x) (is_prefix x p) (list_any (is_prefix x) ps)
  where
    factor : (a b c : Bool) → ((a && b) || (a && c)) ≡ (a && (b || c))
    factor true b c = refl
    factor false b c = refl

-- paths in order up to a last one have so many distinct prefixes
pub record Counted (ps : List Path) (last : Path) (count : ℕ) : Type 0 where
  pub keys : List Path
  pub distinct : IsDistinct is_path keys
  pub members : (x : Path) → list_any (is_path x) keys ≡ (is_below x && list_any (is_prefix x) ps)
  pub number : length keys ≡ count
  pub not_after : (x : Path) → list_any (is_prefix x) ps ≡ true → (r : Path) × ((is_prefix x r ≡ true) × IsNotAfter r last)
  pub last_one : (x : Path) → is_below x ≡ true → is_prefix x last ≡ true → list_any (is_prefix x) ps ≡ true

-- no paths have no prefixes
pub counted_none : Counted [] [] 0
unfolding IsDistinct
counted_none = record {
  keys = [];
  distinct = tt;
  members = λ x. sym (and_false (is_below x));
  number = refl;
  not_after = λ x there. absurd (true≢false (sym there));
  last_one = λ x below there. absurd (nothing x below there);
}
  where
    nothing : (x : Path) → is_below x ≡ true → is_prefix x [] ≡ true → ⊥
    nothing [] below there = true≢false (sym below)
    nothing (h ∷ x) below there = true≢false (sym there)

not_after-trans : (p q r : Path) → IsNotAfter p q → IsNotAfter q r → IsNotAfter p r
not_after-trans p q r one two = false_from_ne_true (is_lt (path_cmp r p)) (λ e. by (path_cmp r p) refl e)
  where
    by : (o : Ordering) → path_cmp r p ≡ o → is_lt o ≡ true → ⊥
    by Less is lt = step (path_cmp q p) refl
      where
        step : (o : Ordering) → path_cmp q p ≡ o → ⊥
        step Less e = true≢false (ap is_lt (sym e) ∙ one)
        step Equal e = true≢false (ap is_lt (sym (ap (path_cmp r) (Rattle.call_path.specs.Path.path_cmp_exact q p e) ∙ is)) ∙ two)
        step Greater e =
            let back : path_cmp p q ≡ Less = path_cmp_total.antisymm p q ∙ ap ordering_reverse e in
            true≢false (ap is_lt (sym (path_cmp_total.trans r p q is back)) ∙ two)
    by Equal is lt = true≢false (sym lt)
    by Greater is lt = true≢false (sym lt)

itself : (p : Path) → IsNotAfter p p
itself p = ap is_lt (tied_itself path_cmp_total p)

-- one path more has the prefixes that it does not share with the last one
module _ (ps : List Path) (last p : Path) (count : ℕ) (so_far : Counted ps last count) (after : IsNotAfter last p) where
  new_prefix : (x : Path) → is_below x ≡ true → is_prefix x p ≡ true → is_prefix x last ≡ false → list_any (is_prefix x) ps ≡ false
  new_prefix x below in_p none = false_from_ne_true (list_any (is_prefix x) ps) (λ there.
      let r = so_far.not_after x there in
      true≢false (sym (between x r.0 last p r.1.1 after r.1.0 in_p) ∙ none))

  more_members : (x : Path) → ((is_below x && list_any (is_prefix x) ps) || (is_below x && (is_prefix x p && not (is_prefix x last)))) ≡ (is_below x && (list_any (is_prefix x) ps || (is_prefix x p || false)))
  more_members x = by (is_below x) (is_prefix x p) (is_prefix x last) refl refl
    where
      by : (b c d : Bool) → is_below x ≡ b → is_prefix x last ≡ d → ((b && list_any (is_prefix x) ps) || (b && (c && not d))) ≡ (b && (list_any (is_prefix x) ps || (c || false)))
      by false c d below is = refl
      by true false d below is = refl
      by true true false below is = refl
      by true true true below is = seen (list_any (is_prefix x) ps) (so_far.last_one x below is)
        where
          seen : (a : Bool) → a ≡ true → (a || false) ≡ (a || true)
          seen true e = refl
          seen false e = absurd (true≢false (sym e))

  pub counted_more : Counted (ps ++ p ∷ []) p (count + (length p - shared_len p last))
  counted_more = record {
    keys = so_far.keys ++ fresh p last;
    distinct = distinct-append so_far.keys (fresh p last) so_far.distinct (distinct-fresh p last) (λ x there.
        let known = and_parts (is_below x) (list_any (is_prefix x) ps) (sym (so_far.members x) ∙ there) in
        false_from_ne_true (list_any (is_path x) (fresh p last)) (λ now.
        let parts = and_parts (is_below x) (is_prefix x p && not (is_prefix x last)) (sym (any-fresh p last x) ∙ now) in
        let more = and_parts (is_prefix x p) (not (is_prefix x last)) parts.1 in
        true≢false (sym known.1 ∙ new_prefix x known.0 more.0 (not_true (is_prefix x last) more.1))));
    members = λ x.
        list_any-append (is_path x) so_far.keys (fresh p last)
        ∙ (λ i. so_far.members x i || any-fresh p last x i)
        ∙ more_members x
        ∙ ap (λ b. is_below x && b) (sym (list_any-append (is_prefix x) ps (p ∷ [])));
    number =
        let long = Rattle.std.proofs.lemmas.List.length-append so_far.keys (fresh p last) in
        let number = so_far.number in
        let new = length-fresh p last in
        omega (arith, long, number, new);
    not_after = λ x there. elim (or_cases (list_any (is_prefix x) ps) (is_prefix x p || false) (sym (list_any-append (is_prefix x) ps (p ∷ [])) ∙ there)) [
      | (inl before) ↦ let r = so_far.not_after x before in (r.0, (r.1.0, not_after-trans r.0 last p r.1.1 after))
      | (inr now) ↦ (p, (or_false (is_prefix x p) now, itself p))
    ];
    last_one = λ x below there. list_any-append (is_prefix x) ps (p ∷ []) ∙ or_right (list_any (is_prefix x) ps) (is_prefix x p || false) (or_left (is_prefix x p) false there);
  }
    where
      not_true : (b : Bool) → not b ≡ true → b ≡ false
      not_true true e = absurd (true≢false (sym e))
      not_true false e = refl

      or_false : (b : Bool) → (b || false) ≡ true → b ≡ true
      or_false true e = refl
      or_false false e = e

-- that is how many distinct prefixes they have
pub counted_all : (ps : List Path) (last : Path) (count : ℕ) → Counted ps last count → count ≡ distinct_count is_path (flat_map prefixes ps)
counted_all ps last count counted =
    sym counted.number
    ∙ length-from_keys (eq_by_cmp_equiv path_cmp_total) counted.keys (flat_map prefixes ps) counted.distinct (λ x. counted.members x ∙ sym (any-all_prefixes ps x))

-- the paths of a list, each once
pub record Distinct (ps : List Path) : Type 0 where
  pub keys : List Path
  pub distinct : IsDistinct is_path keys
  pub members : (x : Path) → list_any (is_path x) keys ≡ list_any (is_path x) ps
  pub number : length keys ≡ distinct_count is_path ps

pub dedup : (ps : List Path) → Distinct ps
unfolding IsDistinct
dedup ps = let d = go ps in record { keys = d.0; distinct = d.1.0; members = d.1.1; number = length-from_keys (eq_by_cmp_equiv path_cmp_total) d.0 ps d.1.0 d.1.1 }
  where
    go : (ps : List Path) → (keys : List Path) × (IsDistinct is_path keys × ((x : Path) → list_any (is_path x) keys ≡ list_any (is_path x) ps))
    go [] = ([], (tt, λ x. refl))
    go (p ∷ ps) = let d = go ps in by d.0 d.1.0 d.1.1 (list_any (is_path p) d.0) refl
      where
        by : (keys : List Path) → IsDistinct is_path keys → ((x : Path) → list_any (is_path x) keys ≡ list_any (is_path x) ps) → (b : Bool) → list_any (is_path p) keys ≡ b
            → (more : List Path) × (IsDistinct is_path more × ((x : Path) → list_any (is_path x) more ≡ (is_path x p || list_any (is_path x) ps)))
        by keys one same true is = (keys, (one, λ x. same x ∙ known x (is_path x p) refl))
          where
            known : (x : Path) (c : Bool) → is_path x p ≡ c → list_any (is_path x) ps ≡ (c || list_any (is_path x) ps)
            known x true e = ap (λ y. list_any (is_path y) ps) (is_path-exact x p e) ∙ sym (same p) ∙ is
            known x false e = refl
        by keys one same false is = (p ∷ keys, ((none_equal p keys is, one), λ x. ap (λ b. is_path x p || b) (same x)))

-- so far, those of the first i of some paths in order that are seen are counted, and the paths that follow come no earlier
pub record IsCounting (ordered : List (Path × ℕ)) (seen : List Bool) (i : ℕ) (last : Path) (count : ℕ) : Type 0 where
  pub counted : Counted (seen_paths (take i ordered) seen) last count
  pub within : count ≤ 2048
  pub later : (k : ℕ) (d : Path × ℕ) → i ≤ k → k < length ordered → IsNotAfter last (get_or ordered k d).0

pub starts : (ordered : List (Path × ℕ)) (seen : List Bool) → IsCounting ordered seen 0 [] 0
starts ordered seen = record { counted = counted_none; within = omega arith; later = λ k d low high. first (get_or ordered k d).0 }
  where
    first : (p : Path) → IsNotAfter [] p
    first [] = refl
    first (f ∷ p) = refl

-- whether one more is seen
seen-append : (seen : List Bool) (ds : List (Path × ℕ)) (e : Path × ℕ) → seen_paths (ds ++ e ∷ []) seen ≡ seen_paths ds seen ++ seen_paths (e ∷ []) seen
seen-append seen [] e = refl
seen-append seen (d ∷ ds) e = by (get_or seen d.1 false) (seen-append seen ds e)
  where
    by : (c : Bool) → seen_paths (ds ++ e ∷ []) seen ≡ seen_paths ds seen ++ seen_paths (e ∷ []) seen
        → map (λ x. x.0) (cond c (d ∷ filter (λ x. get_or seen x.1 false) (ds ++ e ∷ [])) (filter (λ x. get_or seen x.1 false) (ds ++ e ∷ [])))
        ≡ map (λ x. x.0) (cond c (d ∷ filter (λ x. get_or seen x.1 false) ds) (filter (λ x. get_or seen x.1 false) ds)) ++ seen_paths (e ∷ []) seen
    by true rest = ap (λ ps. d.0 ∷ ps) rest
    by false rest = rest

-- what the first of them have, all have
grows : (seen : List Bool) (n : ℕ) (x : Path) (es : List (Path × ℕ)) → list_any (is_prefix x) (seen_paths (take n es) seen) ≡ true → list_any (is_prefix x) (seen_paths es seen) ≡ true
grows seen zero x es there = absurd (true≢false (sym there))
grows seen (suc n) x [] there = there
grows seen (suc n) x (d ∷ es) there = by (get_or seen d.1 false) there (grows seen n x es)
  where
    by : (c : Bool) → list_any (is_prefix x) (map (λ y. y.0) (cond c (d ∷ filter (λ y. get_or seen y.1 false) (take n es)) (filter (λ y. get_or seen y.1 false) (take n es)))) ≡ true
        → (list_any (is_prefix x) (seen_paths (take n es) seen) ≡ true → list_any (is_prefix x) (seen_paths es seen) ≡ true)
        → list_any (is_prefix x) (map (λ y. y.0) (cond c (d ∷ filter (λ y. get_or seen y.1 false) es) (filter (λ y. get_or seen y.1 false) es))) ≡ true
    by true t rest = elim (or_cases (is_prefix x d.0) (list_any (is_prefix x) (seen_paths (take n es) seen)) t) [
      | (inl here) ↦ or_left (is_prefix x d.0) (list_any (is_prefix x) (seen_paths es seen)) here
      | (inr later) ↦ or_right (is_prefix x d.0) (list_any (is_prefix x) (seen_paths es seen)) (rest later)
    ]
    by false t rest = rest t

module _ (ordered : List (Path × ℕ)) (seen : List Bool) (i : ℕ) (last : Path) (count : ℕ) (e : Path × ℕ) (so_far : IsCounting ordered seen i last count) (lt : i < length ordered) (at : e ≡ get_or ordered i e) where
  single : (b : Bool) → get_or seen e.1 false ≡ b → seen_paths (e ∷ []) seen ≡ cond b (e.0 ∷ []) []
  single b is = ap (λ c. map (λ x. x.0) (cond c (e ∷ []) [])) is ∙ same b
    where
      same : (c : Bool) → map (λ (x : Path × ℕ). x.0) (cond c (e ∷ []) []) ≡ cond c (e.0 ∷ []) []
      same true = refl
      same false = refl

  one_more : (b : Bool) → get_or seen e.1 false ≡ b → seen_paths (take (i + 1) ordered) seen ≡ seen_paths (take i ordered) seen ++ cond b (e.0 ∷ []) []
  one_more b is =
      ap (λ es. seen_paths es seen) (take_more ordered i e lt ∙ ap (λ x. take i ordered ++ x ∷ []) (sym at))
      ∙ seen-append seen (take i ordered) e
      ∙ ap (λ ps. seen_paths (take i ordered) seen ++ ps) (single b is)

  -- a path that isn't seen counts nothing
  pub passes_over : get_or seen e.1 false ≡ false → IsCounting ordered seen (i + 1) last count
  passes_over unseen = record {
    counted = subst (λ ps. Counted ps last count) (sym (one_more false unseen ∙ append-nil (seen_paths (take i ordered) seen))) so_far.counted;
    within = so_far.within;
    later = λ k d low high. so_far.later k d (omega arith) high;
  }

  counted_next : get_or seen e.1 false ≡ true → Counted (seen_paths (take (i + 1) ordered) seen) e.0 (count + (length e.0 - shared_len e.0 last))
  counted_next there =
      let after = so_far.later i e (omega arith) lt in
      subst (λ ps. Counted ps e.0 (count + (length e.0 - shared_len e.0 last))) (sym (one_more true there))
      (counted_more (seen_paths (take i ordered) seen) last e.0 count so_far.counted (subst (λ (x : Path × ℕ). IsNotAfter last x.0) (sym at) after))

  module _ (up : IsPathOrder ordered) where
    -- one that is seen counts with what it doesn't share with the one before
    pub takes : get_or seen e.1 false ≡ true → count + (length e.0 - shared_len e.0 last) ≤ 2048 → IsCounting ordered seen (i + 1) e.0 (count + (length e.0 - shared_len e.0 last))
    takes there few = record {
      counted = counted_next there;
      within = few;
      later = λ k d low high. subst (λ (x : Path × ℕ). IsNotAfter x.0 (get_or ordered k d).0) (sym (at ∙ Rattle.std.proofs.lemmas.List.get_or_default ordered i e d lt))
          (sorted_far (λ (x y : Path × ℕ). is_lt (path_cmp x.0 y.0)) (ranks_by path_cmp_total (λ (x : Path × ℕ). x.0)) ordered up i k d (omega arith) high);
    }

  -- where they are too many already, all together are
  pub exceeds : get_or seen e.1 false ≡ true → 2048 < count + (length e.0 - shared_len e.0 last) → nat_le (distinct_count is_path (flat_map prefixes (seen_paths ordered seen))) 2048 ≡ false
  exceeds there many =
      let next = counted_next there in
      let all = dedup (flat_map prefixes (seen_paths ordered seen)) in
      let more : length next.keys ≤ length all.keys =
      length-le_from_is_member (eq_by_cmp_equiv path_cmp_total) next.keys all.keys next.distinct (λ x listed.
      let known = and_parts (is_below x) (list_any (is_prefix x) (seen_paths (take (i + 1) ordered) seen)) (sym (next.members x) ∙ listed) in
      all.members x ∙ any-all_prefixes (seen_paths ordered seen) x
      ∙ and_from (is_below x) (list_any (is_prefix x) (seen_paths ordered seen)) known.0 (grows seen (i + 1) x ordered known.1)) in
      let number = next.number in
      let total = sym all.number in
      false_from_ne_true (nat_le (distinct_count is_path (flat_map prefixes (seen_paths ordered seen))) 2048) (λ e. let le = leb-true _ 2048 e in omega (arith, more, number, total, many, le))

-- at the end all are counted
pub counts : (ordered : List (Path × ℕ)) (seen : List Bool) (i : ℕ) (last : Path) (count : ℕ) → IsCounting ordered seen i last count → take i ordered ≡ ordered → nat_le (distinct_count is_path (flat_map prefixes (seen_paths ordered seen))) 2048 ≡ true
counts ordered seen i last count so_far all =
    let total : count ≡ distinct_count is_path (flat_map prefixes (seen_paths ordered seen)) =
    counted_all (seen_paths (take i ordered) seen) last count so_far.counted ∙ ap (λ es. distinct_count is_path (flat_map prefixes (seen_paths es seen))) all in
    le-leb _ 2048 (subst (λ n. n ≤ 2048) total so_far.within)

-- ---- the same, where the paths are given by numbers

numbered-at : (paths : List Path) (order : List ℕ) (i : ℕ) (d : Path × ℕ) → i < length order → get_or (numbered paths order) i d ≡ (get_or paths (get_or order i 0) [], get_or order i 0)
numbered-at paths order i d lt = get_or-map (λ (k : ℕ). let e : Path × ℕ = (get_or paths k [], k) in e) order i 0 d lt

module _ (paths : List Path) (order : List ℕ) (i : ℕ) (is : IsOrderOf paths order) (lt : i < length order) where
  abbrev number : ℕ
  number = get_or order i 0

  abbrev entry : Path × ℕ
  entry = (get_or paths number [], number)

  within : i < length (numbered paths order)
  within = let long = length-map order (λ (k : ℕ). let e : Path × ℕ = (get_or paths k [], k) in e) in omega (arith, long, lt)

  here : entry ≡ get_or (numbered paths order) i entry
  here = sym (numbered-at paths order i entry lt)

  -- the number is that of a path
  pub number_below : number < length paths
  number_below = (is.numbered entry (subst (λ e. In e (numbered paths order)) (sym here) (in_at (numbered paths order) i entry within))).0

  module _ (seen : List Bool) (last : Path) (count : ℕ) (so_far : IsCounting (numbered paths order) seen i last count) where
    pub number_passes : get_or seen number false ≡ false → IsCounting (numbered paths order) seen (i + 1) last count
    number_passes = passes_over (numbered paths order) seen i last count entry so_far within here

    module _ (p : Path) (n shared : ℕ) (path : p ≡ get_or paths number []) (long : n ≡ length p) (common : shared ≡ shared_len p last) where
      more : count + (n - shared) ≡ count + (length (get_or paths number []) - shared_len (get_or paths number []) last)
      more = (λ i. count + (long i - common i)) ∙ ap (λ (q : Path). count + (length q - shared_len q last)) path

      pub number_takes : get_or seen number false ≡ true → count + (n - shared) ≤ 2048 → IsCounting (numbered paths order) seen (i + 1) p (count + (n - shared))
      number_takes there few =
          subst (λ (x : Path × ℕ). IsCounting (numbered paths order) seen (i + 1) x.0 x.1) (λ i. (sym path i, sym more i))
          (takes (numbered paths order) seen i last count entry so_far within here is.in_order there (subst (λ m. m ≤ 2048) more few))

      pub number_exceeds : get_or seen number false ≡ true → 2048 < count + (n - shared) → nat_le (distinct_count is_path (flat_map prefixes (seen_paths (numbered paths order) seen))) 2048 ≡ false
      number_exceeds there many = exceeds (numbered paths order) seen i last count entry so_far within here there (subst (λ m. 2048 < m) more many)

-- past the last number all are counted
pub numbers_count : (paths : List Path) (order : List ℕ) (seen : List Bool) (i : ℕ) (last : Path) (count : ℕ) → length order ≤ i → IsCounting (numbered paths order) seen i last count
    → nat_le (distinct_count is_path (flat_map prefixes (seen_paths (numbered paths order) seen))) 2048 ≡ true
numbers_count paths order seen i last count past so_far =
    let long = length-map order (λ (k : ℕ). let e : Path × ℕ = (get_or paths k [], k) in e) in
    counts (numbered paths order) seen i last count so_far (take_all i (numbered paths order) (omega (arith, long, past)))
