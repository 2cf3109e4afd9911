-- Blocks of equivalent ranks, one after another.
use Rattle.std.proofs.Common.{◌≡◌, ℕ, ◌<◌, ◌≤◌, Bool, true, false, cond, not, ◌&&◌, ◌||◌, ltb, List, [], ◌∷◌, Some, Option, length, map, refl, sym, ap, ◌∙◌, inl, inr, arith}
use Rattle.std.specs.List.{list_any, filter, slice_get}
use Rattle.std.specs.Option.{unwrap_or}
use Rattle.std.proofs.lemmas.List.Sums.{length-filter, count_by-le-length}
use Rattle.std.specs.Ordering.{nat_cmp, eq_by_cmp}
use Rattle.std.specs.Cmp.{both_ways, unsigned_tied}
use Rattle.std.proofs.lemmas.Bool.{true≢false, and_parts, eqb-true, ltb-true, or_right, false_from_ne_true}
use Rattle.rank_set.specs.Ranks.{Ranks, has, in_order, size, those, has-in_order, has-those, same_ranks}
use Rattle.rank_set.proofs.Ordered.{filter_on, filter_twice, in_order-those, map_on}
use Rattle.call_path.specs.Path.{Path}
use Rattle.call_path.specs.Pairs.{Pairs}
use Rattle.equiv_class.specs.Classes.{equivalent, is_least, paths_of, classes_of}
use Rattle.equiv_class.proofs.Equivalent.{equivalent-from_paths, paths-from_equivalent}
use Rattle.equiv_class.proofs.Ordered.{any_by_member, first_below, kept_in}

-- each rank is equivalent to itself
pub equivalent_itself : (P : Pairs) (r : ℕ) → equivalent P r r ≡ true
equivalent_itself P r = equivalent-from_paths P r r (λ p. refl)

equivalent_turned : (P : Pairs) (r s : ℕ) → equivalent P r s ≡ true → equivalent P s r ≡ true
equivalent_turned P r s e = equivalent-from_paths P s r (λ p. sym (paths-from_equivalent P r s e p))

equivalent_chain : (P : Pairs) (q r s : ℕ) → equivalent P q r ≡ true → equivalent P r s ≡ true → equivalent P q s ≡ true
equivalent_chain P q r s e f = equivalent-from_paths P q s (λ p. paths-from_equivalent P q r e p ∙ paths-from_equivalent P r s f p)

module _ (P : Pairs) (C : Ranks) (r : ℕ) (rest : List ℕ) (is : in_order C ≡ r ∷ rest) where
  -- the ranks that are not of the first block
  abbrev pub others : Ranks
  others = those (λ s. not (equivalent P r s)) C

  member : (s : ℕ) → list_any (eq_by_cmp nat_cmp s) rest ≡ true → has C s ≡ true
  member s one = has-in_order C s ∙ ap (list_any (eq_by_cmp nat_cmp s)) is ∙ or_right (eq_by_cmp nat_cmp s r) (list_any (eq_by_cmp nat_cmp s) rest) one

  -- a rank in a set's list passes a test that some member passes
  any_member : (D : Ranks) (t : ℕ → Bool) → list_any t (in_order D) ≡ true → (q : ℕ) × ((has D q ≡ true) × (t q ≡ true))
  any_member D t one = found (in_order D) (λ q there. has-in_order D q ∙ there) one
    where
      found : (xs : List ℕ) → ((q : ℕ) → list_any (eq_by_cmp nat_cmp q) xs ≡ true → has D q ≡ true) → list_any t xs ≡ true → (q : ℕ) × ((has D q ≡ true) × (t q ≡ true))
      found [] in_D e = absurd (true≢false (sym e))
      found (x ∷ xs) in_D e = elim (Rattle.std.proofs.lemmas.Bool.or_cases (t x) (list_any t xs) e) [
        | inl here ↦ (x, (in_D x (ap (λ b. b || list_any (eq_by_cmp nat_cmp x) xs) (unsigned_tied x x ∙ Rattle.std.proofs.lemmas.Bool.eq-eqb x x refl)), here))
        | inr later ↦ found xs (λ q there. in_D q (or_right (eq_by_cmp nat_cmp q x) (list_any (eq_by_cmp nat_cmp q) xs) there)) later
      ]

  member_any : (D : Ranks) (t : ℕ → Bool) (q : ℕ) → has D q ≡ true → t q ≡ true → list_any t (in_order D) ≡ true
  member_any D t q in_D passes = any_by_member t q (in_order D) (sym (has-in_order D q) ∙ in_D) passes

  in_list : (q : ℕ) → has C q ≡ true → (eq_by_cmp nat_cmp q r || list_any (eq_by_cmp nat_cmp q) rest) ≡ true
  in_list q there = ap (list_any (eq_by_cmp nat_cmp q)) (sym is) ∙ sym (has-in_order C q) ∙ there

  has_head : has C r ≡ true
  has_head = has-in_order C r ∙ ap (list_any (eq_by_cmp nat_cmp r)) is ∙ ap (λ b. b || list_any (eq_by_cmp nat_cmp r) rest) (unsigned_tied r r ∙ Rattle.std.proofs.lemmas.Bool.eq-eqb r r refl)

  above : (q : ℕ) → list_any (eq_by_cmp nat_cmp q) rest ≡ true → r < q
  above = first_below C r rest is

  -- no member is below the head
  least_first : (q : ℕ) → has C q ≡ true → r ≤ q
  least_first q there = elim (Rattle.std.proofs.lemmas.Bool.or_cases (eq_by_cmp nat_cmp q r) (list_any (eq_by_cmp nat_cmp q) rest) (in_list q there)) [
    | inl same ↦ omega (arith, eqb-true q r (sym (unsigned_tied q r) ∙ same))
    | inr later ↦ omega (arith, above q later)
  ]

  head_is_least : is_least P C r ≡ true
  head_is_least = ap not (false_from_ne_true _ (λ one.
      let q = any_member C (λ s. ltb s r && equivalent P r s) one in
      absurd (omega (arith, ltb-true q.0 r ((and_parts (ltb q.0 r) (equivalent P r q.0) q.1.1).0), least_first q.0 q.1.0))))

  in_others : (q : ℕ) → has others q ≡ (has C q && not (equivalent P r q))
  in_others q = has-those (λ s. not (equivalent P r s)) C q

  least_later : (s : ℕ) → list_any (eq_by_cmp nat_cmp s) rest ≡ true → is_least P C s ≡ (not (equivalent P r s) && is_least P others s)
  least_later s one = elim (equivalent P r s) as (λ b. equivalent P r s ≡ b → is_least P C s ≡ (not b && is_least P others s)) [
    | true ↦ λ e. ap not (member_any C (λ q. ltb q s && equivalent P s q) r has_head ((λ i. Rattle.std.proofs.lemmas.Bool.lt-ltb r s (above s one) i && equivalent_turned P r s e i)))
    | false ↦ λ e. ap not (both_ways _ _
        (λ some.
        let q = any_member C (λ q. ltb q s && equivalent P s q) some in
        let parts = and_parts (ltb q.0 s) (equivalent P s q.0) q.1.1 in
        member_any others (λ x. ltb x s && equivalent P s x) q.0 (in_others q.0 ∙ (λ i. q.1.0 i && not (false_from_ne_true (equivalent P r q.0) (λ f. true≢false (sym (equivalent_chain P r q.0 s f (equivalent_turned P s q.0 parts.1)) ∙ e)) i))) q.1.1)
        (λ some.
        let q = any_member others (λ x. ltb x s && equivalent P s x) some in
        member_any C (λ x. ltb x s && equivalent P s x) q.0 ((and_parts (has C q.0) (not (equivalent P r q.0)) (sym (in_others q.0) ∙ q.1.0)).0) q.1.1))
  ] refl

  -- the block of a rank
  abbrev block : ℕ → Ranks × List Path
  block s = (those (equivalent P s) C, paths_of P s)

  -- its block in what is left
  abbrev block_later : ℕ → Ranks × List Path
  block_later s = (those (equivalent P s) others, paths_of P s)

  -- the block of a rank that is left is the same in what is left
  same_block : (s : ℕ) → has others s ≡ true → block s ≡ block_later s
  same_block s there =
      let distinct : not (equivalent P r s) ≡ true = (and_parts (has C s) (not (equivalent P r s)) (sym (in_others s) ∙ there)).1 in
      ap (λ (b : Ranks). let x : Ranks × List Path = (b, paths_of P s) in x) (same_ranks _ _ (λ q.
      has-those (equivalent P s) C q
      ∙ both_if (has C q) (equivalent P r q) (equivalent P s q) (λ sq. false_from_ne_true (equivalent P r q) (λ f. true≢false (sym distinct ∙ ap not (equivalent_chain P r q s f (equivalent_turned P s q sq)))))
      ∙ sym (has-those (equivalent P s) others q ∙ ap (λ b. b && equivalent P s q) (in_others q))))
    where
      both_if : (c a b : Bool) → (b ≡ true → a ≡ false) → (c && b) ≡ ((c && not a) && b)
      both_if true a true f = sym (ap (λ x. not x && true) (f refl))
      both_if true true false f = refl
      both_if true false false f = refl
      both_if false a b f = refl

  others_in_order : in_order others ≡ filter (λ s. not (equivalent P r s)) rest
  others_in_order =
      in_order-those (λ s. not (equivalent P r s)) C ∙ ap (filter (λ s. not (equivalent P r s))) is
      ∙ ap (λ b. cond (not b) (r ∷ filter (λ s. not (equivalent P r s)) rest) (filter (λ s. not (equivalent P r s)) rest)) (equivalent_itself P r)

  -- the first block, and those of what is left
  pub classes_step : classes_of P C ≡ (those (equivalent P r) C, paths_of P r) ∷ classes_of P others
  unfolding classes_of
  classes_step =
      ap (λ xs. map block (filter (is_least P C) xs)) is
      ∙ ap (λ b. map block (cond b (r ∷ filter (is_least P C) rest) (filter (is_least P C) rest))) head_is_least
      ∙ ap (λ xs. block r ∷ map block xs) (filter_on (is_least P C) (λ s. not (equivalent P r s) && is_least P others s) rest least_later
      ∙ sym (filter_twice (is_least P others) (λ s. not (equivalent P r s)) rest) ∙ ap (filter (is_least P others)) (sym others_in_order))
      ∙ ap (λ xs. block r ∷ xs) (map_on block block_later (filter (is_least P others) (in_order others)) (λ s one. same_block s (has-in_order others s ∙ kept_in (is_least P others) (in_order others) s one)))

-- no ranks, no classes
pub classes_none : (P : Pairs) (C : Ranks) → in_order C ≡ [] → classes_of P C ≡ []
unfolding classes_of
classes_none P C e = ap (λ xs. map (λ r. (those (equivalent P r) C, paths_of P r)) (filter (is_least P C) xs)) e

first_of : (xs : List ℕ) (r : ℕ) → slice_get xs 0 ≡ Some r → (rest : List ℕ) × (xs ≡ r ∷ rest)
first_of [] r e = absurd (Rattle.std.proofs.lemmas.Option.none-some r e)
first_of (x ∷ xs) r e = (xs, ap (λ (o : Option ℕ). unwrap_or o x ∷ xs) e)

-- the same, from the least rank
pub next_class : (P : Pairs) (C : Ranks) (r : ℕ) → slice_get (in_order C) 0 ≡ Some r → classes_of P C ≡ (those (equivalent P r) C, paths_of P r) ∷ classes_of P (those (λ s. not (equivalent P r s)) C)
next_class P C r e = let parts = first_of (in_order C) r e in classes_step P C r parts.0 parts.1

-- fewer ranks are left without the first
pub fewer_without : (t : ℕ → Bool) (C : Ranks) (r : ℕ) → slice_get (in_order C) 0 ≡ Some r → t r ≡ true → size (those (λ s. not (t s)) C) < size C
fewer_without t C r e passes =
    let parts = first_of (in_order C) r e in
    let left : in_order (those (λ s. not (t s)) C) ≡ filter (λ s. not (t s)) parts.0 =
    in_order-those (λ s. not (t s)) C ∙ ap (filter (λ s. not (t s))) parts.1
    ∙ ap (λ b. cond (not b) (r ∷ filter (λ s. not (t s)) parts.0) (filter (λ s. not (t s)) parts.0)) passes in
    omega (arith, ap length left, ap length parts.1, length-filter (λ s. not (t s)) parts.0, count_by-le-length (λ s. not (t s)) parts.0)
