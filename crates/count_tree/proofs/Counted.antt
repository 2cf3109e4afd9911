-- Counts that are the lengths of the lists at their places: one more is counted, and a thing is found by them.
use Rattle.std.proofs.Common.{◌≡◌, ◌≢◌, ◌∙◌, ◌<◌, ◌≤◌, ℕ, Bool, true, false, ◌==◌, ◌||◌, nat_lt, List, Option, Some, None, length, slice_get, slice_set, refl, sym, ap, subst, inl, inr, eqb-true, arith}
use Rattle.std.specs.List.{flat_map, sum}
use Rattle.std.proofs.lemmas.Bool.{cases_Bool, eqb-false, true≢false}
use Rattle.std.proofs.lemmas.Bool.Decides.{nat_tests}
use Rattle.std.proofs.lemmas.List.{ext_get_or, get_or-set_same, get_or-set_other, length-map, length-set}
use Rattle.std.proofs.lemmas.Option.{get_or_from_slice_get, slice_get-get_or, slice_get-map, slice_get_past}
use Rattle.count_tree.specs.Places.{AreCountsBut, lengths, place_of}
use Rattle.count_tree.proofs.Lists.{IsItem, finds_item, sum_of_lengths}

-- ---- an element of a list is replaced

pub set_here : {X : Type 0} (xs : List X) (n : ℕ) (y : X) → n < length xs → slice_get (slice_set xs n y) n ≡ Some y
set_here xs n y below =
    slice_get-get_or (slice_set xs n y) n y (subst (λ k. n < k) (sym (length-set xs n y)) below)
    ∙ ap Some (get_or-set_same xs n y y below)

pub set_else : {X : Type 0} (xs : List X) (n b : ℕ) (y : X) → b ≢ n → slice_get (slice_set xs n y) b ≡ slice_get xs b
set_else xs n b y other = elim (cases_Bool (nat_lt b (length xs))) [
  | (inl t) ↦ let lt : b < length xs = grind (arith, nat_tests) in
      slice_get-get_or (slice_set xs n y) b y (subst (λ k. b < k) (sym (length-set xs n y)) lt)
      ∙ ap Some (get_or-set_other xs n b y y other)
      ∙ sym (slice_get-get_or xs b y lt)
  | (inr f) ↦ let ge : length xs ≤ b = grind (arith, nat_tests) in
      slice_get_past (slice_set xs n y) b (subst (λ k. k ≤ b) (sym (length-set xs n y)) ge)
      ∙ sym (slice_get_past xs b ge)
]

module _ {Y : Type 0} (listed : ℕ → List Y) (places : ℕ) where
  -- one place more is counted
  pub counted_more : (is_stale : ℕ → Bool) (counts : List ℕ) (n count : ℕ) → n < places → count ≡ length (listed n) → AreCountsBut (λ b. (b == n) || is_stale b) listed places counts → AreCountsBut is_stale listed places (slice_set counts n count)
  counted_more is_stale counts n count lt is h = record {
    place_count = length-set counts n count ∙ h.place_count;
    things = λ b low other. go b low other (b == n) refl;
  }
    where
      below : n < length counts
      below = omega (arith, lt, h.place_count)

      go : (b : ℕ) → b < places → is_stale b ≡ false → (t : Bool) → (b == n) ≡ t → slice_get (slice_set counts n count) b ≡ Some (length (listed b))
      go b low other true t =
          let same : b ≡ n = eqb-true b n t in
          ap (slice_get (slice_set counts n count)) same ∙ set_here counts n count below ∙ ap Some is
          ∙ ap (λ k. Some (length (listed k))) (sym same)
      go b low other false t =
          set_else counts n b count (eqb-false b n t)
          ∙ h.things b low ((λ i. t i || is_stale b) ∙ other)

  -- where all places are stale, any counts will do
  pub all_stale : (is_stale : ℕ → Bool) (counts : List ℕ) → length counts ≡ places → ((n : ℕ) → n < places → is_stale n ≡ true) → AreCountsBut is_stale listed places counts
  all_stale is_stale counts count all = record { place_count = count; things = λ n lt other. absurd (true≢false (sym (all n lt) ∙ other)) }

  -- the places in order, and the count of each
  module _ (order : List ℕ) (all : length order ≡ places) (at : (n : ℕ) → n < places → slice_get order n ≡ Some n) (counts : List ℕ) (counted : AreCountsBut (λ _. false) listed places counts) where
    counts_are : counts ≡ lengths listed order
    counts_are = ext_get_or 0 counts (lengths listed order) (counted.place_count ∙ sym all ∙ sym (length-map order (λ n. length (listed n))))
        (λ n lt. let below : n < places = omega (arith, lt, counted.place_count) in
        get_or_from_slice_get counts n (length (listed n)) 0 (counted.things n below refl)
        ∙ sym (get_or_from_slice_get (lengths listed order) n (length (listed n)) 0 (slice_get-map (λ k. length (listed k)) order n ∙ ap (λ o. elim o as (λ _. Option ℕ) [ None ↦ None | Some k ↦ Some (length (listed k)) ]) (at n below))))

    -- as many things are listed as are counted
    pub counted_all : sum counts ≡ length (flat_map listed order)
    counted_all = ap sum counts_are ∙ sum_of_lengths listed order

    module _ (i : ℕ) where
      found_item : (o : Option (ℕ × ℕ)) → place_of counts i ≡ o → IsItem listed order i o
      found_item o e = subst (IsItem listed order i) (sym (ap (λ (cs : List ℕ). place_of cs i) counts_are) ∙ e) (finds_item listed order i)

      -- what the counts find is a place
      pub place_below : (n j : ℕ) → place_of counts i ≡ Some (n, j) → n < places
      place_below n j e = subst (λ k. n < k) all (found_item (Some (n, j)) e).0

      -- and the number of a thing there
      pub thing_within : (n j : ℕ) → place_of counts i ≡ Some (n, j) → j < length (listed n)
      thing_within n j e = ((found_item (Some (n, j)) e).1 n (at n (place_below n j e))).1

      -- which is the i-th of all
      pub found_thing : (n j : ℕ) → place_of counts i ≡ Some (n, j) → slice_get (flat_map listed order) i ≡ slice_get (listed n) j
      found_thing n j e = ((found_item (Some (n, j)) e).1 n (at n (place_below n j e))).0

      -- where the counts find nothing, there is no i-th thing
      pub no_thing : place_of counts i ≡ None → slice_get (flat_map listed order) i ≡ None
      no_thing e = found_item None e
