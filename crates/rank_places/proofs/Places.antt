-- The places of ranks in a cover, run by run.
use Rattle.std.proofs.Common.{◌≡◌, ℕ, zero, suc, ◌+◌, ◌-◌, ◌<◌, ◌≤◌, nat_lt, max, Bool, true, false, cond, ◌&&◌, ◌||◌, List, [], ◌∷◌, length, map, refl, sym, ap, ◌∙◌, subst, inl, inr, arith}
use Rattle.std.specs.List.{list_any, list_all, filter}
use Rattle.std.specs.Ordering.{nat_cmp, eq_by_cmp}
use Rattle.std.specs.Cmp.{unsigned_tied}
use Rattle.std.proofs.lemmas.Bool.{cases_Bool, cases_lt, cases_order, true≢false, and_parts, or_cases, or_right, lt-ltb, le-ltb, eq-eqb, ne_eqb, eqb-true, ltb-true}
use Rattle.rank_set.specs.Ranks.{Ranks, has, in_order, size, is_strictly_increasing, IsSubset, Has, from_T, has-in_order, has-set_of, has-those, same_ranks}
use Rattle.rank_set.specs.Runs.{IsRun}
use Rattle.rank_places.specs.Places.{place, to_places, from_places}
use Rattle.rank_set.proofs.Ordered.{in_order-those}

abbrev mem : ℕ → List ℕ → Bool
mem r xs = list_any (eq_by_cmp nat_cmp r) xs

or_false : (x : Bool) → (x || false) ≡ x
or_false true = refl
or_false false = refl

and_true : (x : Bool) → (x && true) ≡ x
and_true true = refl
and_true false = refl

and_false : (x : Bool) → (x && false) ≡ false
and_false true = refl
and_false false = refl

not_there : (b : Bool) → (b ≡ true → ⊥) → b ≡ false
not_there true f = absurd (f refl)
not_there false f = refl

-- a number is itself
pub same : (x y : ℕ) → x ≡ y → eq_by_cmp nat_cmp x y ≡ true
same x y e = unsigned_tied x y ∙ eq-eqb x y e

other : (x y : ℕ) → (x ≡ y → ⊥) → eq_by_cmp nat_cmp x y ≡ false
other x y ne = unsigned_tied x y ∙ ne_eqb x y ne

is_same : (x y : ℕ) → eq_by_cmp nat_cmp x y ≡ true → x ≡ y
is_same x y e = eqb-true x y (sym (unsigned_tied x y) ∙ e)

none_above : (x : ℕ) (ys : List ℕ) → list_all (λ y. nat_lt x y) ys ≡ true → mem x ys ≡ false
none_above x [] h = refl
none_above x (y ∷ ys) h =
    let a = and_parts (nat_lt x y) (list_all (λ y. nat_lt x y) ys) h in
    let lt : x < y = ltb-true x y a.0 in
    (λ i. other x y (λ e. omega (arith, e, lt)) i || none_above x ys a.1 i)

-- how many members lie below
below : ℕ → List ℕ → ℕ
below r xs = length (filter (λ q. nat_lt q r) xs)

below_more : (r : ℕ) (xs : List ℕ) → is_strictly_increasing xs ≡ true → below (suc r) xs ≡ below r xs + cond (mem r xs) 1 0
unfolding below
below_more r [] h = omega arith
below_more r (x ∷ xs) h =
    let a = and_parts (list_all (λ y. nat_lt x y) xs) (is_strictly_increasing xs) h in
    let later = below_more r xs a.1 in
    let few = λ (t : Bool). length (cond t (x ∷ filter (λ q. nat_lt q r) xs) (filter (λ q. nat_lt q r) xs)) in
    let more = λ (t : Bool). length (cond t (x ∷ filter (λ q. nat_lt q (suc r)) xs) (filter (λ q. nat_lt q (suc r)) xs)) in
    elim (cases_order x r) [
      | inl e ↦
          let gone : mem r xs ≡ false = subst (λ z. mem z xs ≡ false) e (none_above x xs a.0) in
          let n : ◌≡◌ {A = ℕ} (cond (mem r xs) 1 0) 0 = ap (λ t. cond t 1 0) gone in
          let m : ◌≡◌ {A = ℕ} (cond (eq_by_cmp nat_cmp r x || mem r xs) 1 0) 1 = ap (λ t. cond (t || mem r xs) 1 0) (same r x (sym e)) in
          ap more (lt-ltb x (suc r) (omega arith)) ∙ omega (arith, later, n, m, ap few (le-ltb x r (omega arith)))
      | inr differ ↦ elim differ [
        | inl lt ↦
            let m : ◌≡◌ {A = ℕ} (cond (eq_by_cmp nat_cmp r x || mem r xs) 1 0) (cond (mem r xs) 1 0) = ap (λ t. cond (t || mem r xs) 1 0) (other r x (λ e. omega arith)) in
            ap more (lt-ltb x (suc r) (omega arith)) ∙ omega (arith, later, m, ap few (lt-ltb x r lt))
        | inr gt ↦
            let m : ◌≡◌ {A = ℕ} (cond (eq_by_cmp nat_cmp r x || mem r xs) 1 0) (cond (mem r xs) 1 0) = ap (λ t. cond (t || mem r xs) 1 0) (other r x (λ e. omega arith)) in
            ap more (le-ltb x (suc r) (omega arith)) ∙ omega (arith, later, m, ap few (le-ltb x r (omega arith)))
      ]
    ]

none_below : (xs : List ℕ) → below 0 xs ≡ 0
unfolding below
none_below [] = refl
none_below (x ∷ xs) = ap (λ t. length (cond t (x ∷ filter (λ q. nat_lt q 0) xs) (filter (λ q. nat_lt q 0) xs))) (le-ltb x 0 (omega arith)) ∙ none_below xs

place-below : (cover : Ranks) (r : ℕ) → place cover r ≡ below r (in_order cover)
unfolding place below
place-below cover r = ap length (in_order-those (λ q. nat_lt q r) cover)

module _ (cover : Ranks) where
  -- a rank of the cover takes a place, and no other does
  pub place-suc : (r : ℕ) → place cover (suc r) ≡ place cover r + cond (has cover r) 1 0
  place-suc r =
      place-below cover (suc r) ∙ below_more r (in_order cover) (from_T _ cover.increasing)
      ∙ (λ i. sym (place-below cover r) i + cond (sym (has-in_order cover r) i) 1 0)

  -- the first place is 0
  pub place-zero : place cover 0 ≡ 0
  place-zero = place-below cover 0 ∙ none_below (in_order cover)

  place_past : (r : ℕ) → has cover r ≡ true → place cover (suc r) ≡ place cover r + 1
  place_past r one = place-suc r ∙ ap (λ t. place cover r + cond t 1 0) one

  -- what is no rank of the cover takes none
  pub place_stays : (r : ℕ) → has cover r ≡ false → place cover (suc r) ≡ place cover r
  place_stays r gone = place-suc r ∙ ap (λ t. place cover r + cond t 1 0) gone ∙ omega arith

  place_step : (r : ℕ) → (place cover r ≤ place cover (suc r)) × (place cover (suc r) ≤ place cover r + 1)
  place_step r = elim (cases_Bool (has cover r)) [
    | inl one ↦ (omega (arith, place_past r one), omega (arith, place_past r one))
    | inr gone ↦ (omega (arith, place_stays r gone), omega (arith, place_stays r gone))
  ]

  -- a place is at most the rank
  pub place-le : (r : ℕ) → place cover r ≤ r
  place-le zero = omega (arith, place-zero)
  place-le (suc r) = omega (arith, place-le r, (place_step r).1)

  place_grows : (a n : ℕ) → place cover a ≤ place cover (a + n)
  place_grows a zero = let e : a + 0 ≡ a = omega arith in omega (arith, ap (place cover) e)
  place_grows a (suc n) = let e : a + suc n ≡ suc (a + n) = omega arith in omega (arith, ap (place cover) e, place_grows a n, (place_step (a + n)).0)

  -- greater ranks have greater places
  pub place-increases : (a b : ℕ) → has cover a ≡ true → a < b → place cover a < place cover b
  place-increases a b one lt = let e : suc a + (b - suc a) ≡ b = omega arith in omega (arith, ap (place cover) e, place_grows (suc a) (b - suc a), place_past a one)

  -- ranks of the cover with the same place are equal
  pub place-injective : (a b : ℕ) → has cover a ≡ true → has cover b ≡ true → place cover a ≡ place cover b → a ≡ b
  place-injective a b one two e = elim (cases_order a b) [
    | inl is ↦ is
    | inr differ ↦ elim differ [
      | inl lt ↦ absurd (omega (arith, e, place-increases a b one lt))
      | inr gt ↦ absurd (omega (arith, e, place-increases b a two gt))
    ]
  ]

  -- where no rank is passed, the place stays
  pub place-gap : (a n : ℕ) → ((q : ℕ) → a ≤ q → q < a + n → has cover q ≡ false) → place cover (a + n) ≡ place cover a
  place-gap a zero gone = let e : a + 0 ≡ a = omega arith in ap (place cover) e
  place-gap a (suc n) gone =
      let e : a + suc n ≡ suc (a + n) = omega arith in
      ap (place cover) e ∙ place_stays (a + n) (gone (a + n) (omega arith) (omega arith)) ∙ place-gap a n (λ q le lt. gone q le (omega arith))

  -- the places of neighbours are neighbours
  pub place-run : (a n : ℕ) → ((q : ℕ) → a ≤ q → q < a + n → has cover q ≡ true) → place cover (a + n) ≡ place cover a + n
  place-run a zero each = let e : a + 0 ≡ a = omega arith in ap (place cover) e ∙ omega arith
  place-run a (suc n) each =
      let e : a + suc n ≡ suc (a + n) = omega arith in
      ap (place cover) e ∙ place_past (a + n) (each (a + n) (omega arith) (omega arith)) ∙ omega (arith, place-run a n (λ q le lt. each q le (omega arith)))

  -- past all ranks the place is their number
  pub place-end : (a : ℕ) → ((q : ℕ) → a ≤ q → has cover q ≡ false) → place cover a ≡ size cover
  unfolding place
  place-end a gone = ap size (same_ranks _ _ (λ q. has-those (λ r. nat_lt r a) cover q ∙ elim (cases_lt q a) [
    | inl lt ↦ ap (λ t. has cover q && t) (lt-ltb q a lt) ∙ and_true (has cover q)
    | inr le ↦ ap (λ t. t && nat_lt q a) (gone q le) ∙ sym (gone q le)
  ]))

  -- a rank of the cover with a given place
  pub record HasPlace (p : ℕ) : Type 0 where
    pub rank : ℕ
    pub is_member : has cover rank ≡ true
    pub is : place cover rank ≡ p

  place_found : (b p : ℕ) → p < place cover b → HasPlace p
  place_found zero p lt = absurd (omega (arith, place-zero))
  place_found (suc b) p lt = elim (cases_lt p (place cover b)) [
    | inl low ↦ place_found b p low
    | inr up ↦ elim (cases_Bool (has cover b)) [
      | inl one ↦ record { rank = b; is_member = one; is = omega (arith, place_past b one) }
      | inr gone ↦ absurd (omega (arith, place_stays b gone))
    ]
  ]

  end_of : (xs : List ℕ) → (b : ℕ) × ((q : ℕ) → b ≤ q → mem q xs ≡ false)
  end_of [] = (0, λ q le. refl)
  end_of (x ∷ xs) = let rest = end_of xs in (max (suc x) rest.0, λ q le. (λ i. other q x (λ e. omega arith) i || rest.1 q (omega arith) i))

  -- each place below the number of ranks is that of one
  pub place-reaches : (p : ℕ) → p < size cover → HasPlace p
  place-reaches p lt = let end = end_of (in_order cover) in place_found end.0 p (omega (arith, lt, place-end end.0 (λ q le. has-in_order cover q ∙ end.1 q le)))

  -- a place is below the number of ranks
  pub place-lt : (r : ℕ) → has cover r ≡ true → place cover r < size cover
  place-lt r one =
      let end = end_of (in_order cover) in
      let inside : r < end.0 = elim (cases_lt r end.0) [ inl lt ↦ lt | inr le ↦ absurd (true≢false (sym one ∙ has-in_order cover r ∙ end.1 r le)) ] in
      omega (arith, place-increases r end.0 one inside, place-end end.0 (λ q le. has-in_order cover q ∙ end.1 q le))

  places_have : (xs : List ℕ) (r : ℕ) → mem r xs ≡ true → mem (place cover r) (map (place cover) xs) ≡ true
  places_have [] r one = absurd (true≢false (sym one))
  places_have (x ∷ xs) r one = elim (or_cases (eq_by_cmp nat_cmp r x) (mem r xs) one) [
    | inl e ↦ ap (λ b. b || mem (place cover r) (map (place cover) xs)) (same (place cover r) (place cover x) (ap (place cover) (is_same r x e)))
    | inr later ↦ or_right (eq_by_cmp nat_cmp (place cover r) (place cover x)) (mem (place cover r) (map (place cover) xs)) (places_have xs r later)
  ]

  has_places : (xs : List ℕ) (p : ℕ) → mem p (map (place cover) xs) ≡ true → (r : ℕ) × (mem r xs ≡ true) × (place cover r ≡ p)
  has_places [] p one = absurd (true≢false (sym one))
  has_places (x ∷ xs) p one = elim (or_cases (eq_by_cmp nat_cmp p (place cover x)) (mem p (map (place cover) xs)) one) [
    | inl e ↦ (x, ap (λ b. b || mem x xs) (same x x refl), sym (is_same p (place cover x) e))
    | inr later ↦ let f = has_places xs p later in (f.0, or_right (eq_by_cmp nat_cmp f.0 x) (mem f.0 xs) f.1, f.2)
  ]

  from_has : (t : Ranks) (r : ℕ) → has (from_places cover t) r ≡ (has cover r && has t (place cover r))
  unfolding from_places
  from_has t r = has-those (λ q. has t (place cover q)) cover r

  module _ (s : Ranks) where
    -- the places of members
    pub has-to_places : (r : ℕ) → has s r ≡ true → has (to_places cover s) (place cover r) ≡ true
    unfolding to_places
    has-to_places r one = has-set_of (map (place cover) (in_order s)) (place cover r) ∙ places_have (in_order s) r (sym (has-in_order s r) ∙ one)

    -- the member that a place is from
    pub to_places-member : (p : ℕ) → has (to_places cover s) p ≡ true → (r : ℕ) × (has s r ≡ true) × (place cover r ≡ p)
    unfolding to_places
    to_places-member p one = let f = has_places (in_order s) p (sym (has-set_of (map (place cover) (in_order s)) p) ∙ one) in (f.0, has-in_order s f.0 ∙ f.1, f.2)

    -- the ranks of the cover whose places are members
    pub has-from_places : (r : ℕ) → has (from_places cover s) r ≡ (has cover r && has s (place cover r))
    has-from_places r = from_has s r

    -- the place of a rank of the cover is a member's exactly where the rank is one
    pub place_has : IsSubset s cover → (r : ℕ) → has cover r ≡ true → has (to_places cover s) (place cover r) ≡ has s r
    place_has within r one = elim (cases_Bool (has s r)) [
      | inl there ↦ has-to_places r there ∙ sym there
      | inr gone ↦ elim (cases_Bool (has (to_places cover s) (place cover r))) [
        | inl found ↦
            let f = to_places-member (place cover r) found in
            let e : f.0 ≡ r = place-injective f.0 r (within f.0 f.1) one f.2 in
            absurd (true≢false (sym f.1 ∙ ap (has s) e ∙ gone))
        | inr not_found ↦ not_found ∙ sym gone
      ]
    ]

    -- ranks to places and back
    pub back_to_ranks : IsSubset s cover → from_places cover (to_places cover s) ≡ s
    back_to_ranks within = same_ranks _ _ (λ r. from_has (to_places cover s) r ∙ elim (cases_Bool (has cover r)) [
      | inl one ↦ ap (λ t. t && has (to_places cover s) (place cover r)) one ∙ place_has within r one
      | inr gone ↦ ap (λ t. t && has (to_places cover s) (place cover r)) gone ∙ sym (not_there (has s r) (λ there. true≢false (sym (within r there) ∙ gone)))
    ])

    from_within : IsSubset (from_places cover s) cover
    from_within r one = (and_parts (has cover r) (has s (place cover r)) (sym (has-from_places r) ∙ one)).0

  -- places to ranks and back
  pub back_to_places : (s : Ranks) → ((p : ℕ) → Has p s → p < size cover) → to_places cover (from_places cover s) ≡ s
  back_to_places s within = same_ranks _ _ (λ p. elim (cases_lt p (size cover)) [
    | inl lt ↦
        let f = place-reaches p lt in
        ap (has (to_places cover (from_places cover s))) (sym f.is) ∙ place_has (from_places cover s) (from_within s) f.rank f.is_member
        ∙ has-from_places s f.rank ∙ ap (λ t. t && has s (place cover f.rank)) f.is_member ∙ ap (has s) f.is
    | inr past ↦
        not_there (has (to_places cover (from_places cover s)) p) (λ one.
        let m = to_places-member (from_places cover s) p one in
        omega (arith, past, m.2, place-lt m.0 (from_within s m.0 m.1)))
        ∙ sym (not_there (has s p) (λ one. omega (arith, past, within p one)))
  ])

  -- all places of members of a subset are below the number of ranks
  pub places_in_cover : (s : Ranks) → IsSubset s cover → (p : ℕ) → Has p (to_places cover s) → p < size cover
  places_in_cover s within p one = let m = to_places-member s p one in omega (arith, m.2, place-lt m.0 (within m.0 m.1))

  -- the ranks at places are in the cover
  pub ranks_in_cover : (s : Ranks) → IsSubset (from_places cover s) cover
  ranks_in_cover s = from_within s

-- a run of the cover
module _ (cover : Ranks) (from a b : ℕ) (run : IsRun cover from a b) where
  -- the place of its first rank
  pub place_of_first : place cover a ≡ place cover from
  place_of_first =
      let start : from ≤ a = run.start in
      let e : from + (a - from) ≡ a = omega arith in
      ap (place cover) (sym e) ∙ place-gap cover from (a - from) (λ q le lt. run.passed q le (omega arith))

  -- the places of a run are neighbours
  pub places_of_run : (n : ℕ) → n ≤ suc b - a → place cover (a + n) ≡ place cover from + n
  places_of_run n le = place-run cover a n (λ q low high. run.within q low (omega arith)) ∙ ap (λ p. p + n) place_of_first

  -- the place after a run
  pub place_after_run : place cover (b + 1) ≡ place cover from + (b - a + 1)
  place_after_run =
      let some : a ≤ b = run.some in
      let e : a + (b - a + 1) ≡ b + 1 = omega arith in
      ap (place cover) (sym e) ∙ places_of_run (b - a + 1) (omega arith)

  -- the place of a rank in a run
  pub place_in_run : (r : ℕ) → a ≤ r → r ≤ b → place cover r ≡ place cover from + (r - a)
  place_in_run r low high = let e : a + (r - a) ≡ r = omega arith in ap (place cover) (sym e) ∙ places_of_run (r - a) (omega arith)
