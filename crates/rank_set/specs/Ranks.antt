-- A set of ranks as a value: the list of its members in ascending order, with the proof that it is increasing. So two sets with the
-- same members are equal, membership is a test, and a set of known ranks computes. The definitions stand among the lemmas
-- that they need: `is_strictly_increasing`, `Ranks`, `none`, `has`, `in_order`, `size`, `with_rank`, `set_of`, `union`, `those`, `is_subset`,
-- and at the end `is_empty`, `Has`, `IsSubset`, `is_same`.
use Rattle.std.specs.Prelude.{◌≡◌, ℕ, ◌<◌, Bool, true, false, T, cond, nat_lt, ◌==◌, ◌&&◌, ◌||◌, List, [], ◌∷◌, filter, length, refl}
use Rattle.std.proofs.Common.{sym, ap, subst, ◌∙◌, inl, inr, arith, lt-ltb, lt_irrefl, lt_trans, eqb-true}
use Rattle.std.specs.Coded.{Coded, coded_ℕ, coded_list}
use base.Stored.{coded_via}
use Rattle.std.specs.Ordering.{nat_cmp, eq_by_cmp, is_eq}
use Rattle.std.specs.Cmp.{nat_cmp_total, Equal-is, tied_itself, unsigned_tied}
use Rattle.std.specs.FinMap as map
use Rattle.std.specs.List.{list_any, list_all}
use Rattle.std.proofs.lemmas.Bool.{true≢false, and_parts, and_from, or_right, ltb-true, ltb-false, eqb-false, cases_Bool, cases_lt}
use Rattle.std.proofs.lemmas.Map.Views.{any-filter_same}

-- whether each number is below all that follow it
abbrev pub is_strictly_increasing : List ℕ → Bool
is_strictly_increasing [] = true
is_strictly_increasing (x ∷ xs) = list_all (λ y. nat_lt x y) xs && is_strictly_increasing xs

-- a set of ranks
pub record Ranks : Type 0 where
  pub list : List ℕ
  pub increasing : T (is_strictly_increasing list)

-- a number in its place of an increasing list
abbrev pub put_rank : ℕ → List ℕ → List ℕ
put_rank x [] = x ∷ []
put_rank x (y ∷ ys) = cond (nat_lt x y) (x ∷ y ∷ ys) (cond (x == y) (y ∷ ys) (y ∷ put_rank x ys))

-- whether a number is in a list
abbrev mem : ℕ → List ℕ → Bool
mem r xs = list_any (eq_by_cmp nat_cmp r) xs

-- a test that holds is true
pub from_T : (b : Bool) → T b → b ≡ true
from_T true h = refl
from_T false h = absurd h

-- a test that is true holds
pub to_T : (b : Bool) → b ≡ true → T b
to_T b e = subst T (sym e) tt

same_number : (x y : ℕ) → eq_by_cmp nat_cmp x y ≡ true → x ≡ y
same_number x y e = eqb-true x y (sym (unsigned_tied x y) ∙ e)

other_number : (x y : ℕ) → (x ≡ y → ⊥) → eq_by_cmp nat_cmp x y ≡ false
other_number x y ne = elim (cases_Bool (eq_by_cmp nat_cmp x y)) [ inl e ↦ absurd (ne (same_number x y e)) | inr e ↦ e ]

all_above : (x y : ℕ) (ys : List ℕ) → x < y → list_all (λ z. nat_lt y z) ys ≡ true → list_all (λ z. nat_lt x z) ys ≡ true
all_above x y [] lt h = refl
all_above x y (z ∷ zs) lt h =
    let a = and_parts (nat_lt y z) (list_all (λ z. nat_lt y z) zs) h in
    and_from (nat_lt x z) (list_all (λ z. nat_lt x z) zs) (lt-ltb x z (lt_trans lt (ltb-true y z a.0))) (all_above x y zs lt a.1)

put_above : (z x : ℕ) (ys : List ℕ) → z < x → list_all (λ y. nat_lt z y) ys ≡ true → list_all (λ y. nat_lt z y) (put_rank x ys) ≡ true
put_above z x [] lt h = and_from (nat_lt z x) true (lt-ltb z x lt) refl
put_above z x (y ∷ ys) lt h =
    let a = and_parts (nat_lt z y) (list_all (λ y. nat_lt z y) ys) h in
    go (put_above z x ys lt a.1) (nat_lt x y) (x == y)
  where
    go : list_all (λ y. nat_lt z y) (put_rank x ys) ≡ true → (a b : Bool) → list_all (λ y. nat_lt z y) (cond a (x ∷ y ∷ ys) (cond b (y ∷ ys) (y ∷ put_rank x ys))) ≡ true
    go ih true b = and_from (nat_lt z x) _ (lt-ltb z x lt) h
    go ih false true = h
    go ih false false = and_from (nat_lt z y) _ (and_parts (nat_lt z y) (list_all (λ y. nat_lt z y) ys) h).0 ih

-- an increasing list with a number in its place is increasing
pub put_increases : (x : ℕ) (ys : List ℕ) → is_strictly_increasing ys ≡ true → is_strictly_increasing (put_rank x ys) ≡ true
put_increases x [] h = refl
put_increases x (y ∷ ys) h =
    go (put_increases x ys (and_parts (list_all (λ z. nat_lt y z) ys) (is_strictly_increasing ys) h).1) (nat_lt x y) (x == y) refl refl
  where
    go : is_strictly_increasing (put_rank x ys) ≡ true → (a b : Bool) → nat_lt x y ≡ a → (x == y) ≡ b → is_strictly_increasing (cond a (x ∷ y ∷ ys) (cond b (y ∷ ys) (y ∷ put_rank x ys))) ≡ true
    go ih true b ea eb =
        let t = and_parts (list_all (λ z. nat_lt y z) ys) (is_strictly_increasing ys) h in
        let lt : x < y = ltb-true x y ea in
        and_from (list_all (λ z. nat_lt x z) (y ∷ ys)) (is_strictly_increasing (y ∷ ys)) (and_from (nat_lt x y) (list_all (λ z. nat_lt x z) ys) ea (all_above x y ys lt t.0)) h
    go ih false true ea eb = h
    go ih false false ea eb =
        let t = and_parts (list_all (λ z. nat_lt y z) ys) (is_strictly_increasing ys) h in
        let ge = ltb-false x y ea in
        let ne : x ≡ y → ⊥ = eqb-false x y eb in
        let lt : y < x = omega (arith, ge, ne) in
        and_from (list_all (λ z. nat_lt y z) (put_rank x ys)) (is_strictly_increasing (put_rank x ys)) (put_above y x ys lt t.0) ih

filter_above : (x : ℕ) (test : ℕ → Bool) (ys : List ℕ) → list_all (λ y. nat_lt x y) ys ≡ true → list_all (λ y. nat_lt x y) (filter test ys) ≡ true
filter_above x test [] h = refl
filter_above x test (y ∷ ys) h = go (filter_above x test ys (and_parts (nat_lt x y) (list_all (λ y. nat_lt x y) ys) h).1) (test y)
  where
    go : list_all (λ y. nat_lt x y) (filter test ys) ≡ true → (b : Bool) → list_all (λ y. nat_lt x y) (cond b (y ∷ filter test ys) (filter test ys)) ≡ true
    go ih true = and_from (nat_lt x y) _ (and_parts (nat_lt x y) (list_all (λ y. nat_lt x y) ys) h).0 ih
    go ih false = ih

-- what a test lets through of an increasing list is increasing
pub filter_increases : (test : ℕ → Bool) (ys : List ℕ) → is_strictly_increasing ys ≡ true → is_strictly_increasing (filter test ys) ≡ true
filter_increases test [] h = refl
filter_increases test (y ∷ ys) h = go (filter_increases test ys (and_parts (list_all (λ z. nat_lt y z) ys) (is_strictly_increasing ys) h).1) (test y)
  where
    go : is_strictly_increasing (filter test ys) ≡ true → (b : Bool) → is_strictly_increasing (cond b (y ∷ filter test ys) (filter test ys)) ≡ true
    go ih true = and_from (list_all (λ z. nat_lt y z) (filter test ys)) (is_strictly_increasing (filter test ys)) (filter_above y test ys (and_parts (list_all (λ z. nat_lt y z) ys) (is_strictly_increasing ys) h).0) ih
    go ih false = ih

-- the set with no members
abbrev pub none : Ranks
none = record { list = []; increasing = tt }

-- whether r is a member
unfoldable pub has : Ranks → ℕ → Bool
has s r = list_any (eq_by_cmp nat_cmp r) s.list

-- the members in ascending order
abbrev pub in_order : Ranks → List ℕ
in_order s = s.list

-- how many members
abbrev pub size : Ranks → ℕ
size s = length s.list

-- the set with one member more, or the set itself where the rank is a member
unfoldable pub with_rank : Ranks → ℕ → Ranks
with_rank s r = record { list = put_rank r s.list; increasing = to_T _ (put_increases r s.list (from_T _ s.increasing)) }

-- the set of the ranks of a list, in any order
abbrev pub set_of : List ℕ → Ranks
set_of [] = none
set_of (r ∷ rs) = with_rank (set_of rs) r

-- the set with the ranks of a list as further members
abbrev pub with_all : Ranks → List ℕ → Ranks
with_all s [] = s
with_all s (r ∷ rs) = with_rank (with_all s rs) r

-- the ranks that are in one set or in the other
unfoldable pub union : Ranks → Ranks → Ranks
union s t = with_all s (in_order t)

-- the members that pass a test
unfoldable pub those : (ℕ → Bool) → Ranks → Ranks
those test s = record { list = filter test s.list; increasing = to_T _ (filter_increases test s.list (from_T _ s.increasing)) }

-- whether each member of the first is a member of the second
abbrev pub is_subset : Ranks → Ranks → Bool
is_subset s t = list_all (has t) (in_order s)

T_unique : (b : Bool) (x y : T b) → x ≡ y
T_unique true x y = refl
T_unique false x y = absurd x

-- two sets with the same ascending list are equal
pub same_list : (s t : Ranks) → in_order s ≡ in_order t → s ≡ t
same_list s t e = go (in_order t) e t.increasing
  where
    go : (ys : List ℕ) → in_order s ≡ ys → (h : T (is_strictly_increasing ys)) → s ≡ record { list = ys; increasing = h }
    go ys e = subst (λ zs. (h : T (is_strictly_increasing zs)) → s ≡ record { list = zs; increasing = h }) e (λ h. ap (λ k. record { list = s.list; increasing = k }) (T_unique _ s.increasing h))

-- how a set is stored as a ghost value: as its list
abbrev pub coded_ranks : Coded Ranks
coded_ranks = coded_via (coded_list coded_ℕ) in_order same_list

or_swap : (a b c : Bool) → (a || (b || c)) ≡ (b || (a || c))
or_swap true true c = refl
or_swap true false c = refl
or_swap false b c = refl

or_twice : (a c : Bool) → (a || c) ≡ (a || (a || c))
or_twice true c = refl
or_twice false c = refl

or_false : (a : Bool) → a ≡ (a || false)
or_false true = refl
or_false false = refl

mem_put : (k : ℕ) (ys : List ℕ) (r : ℕ) → mem r (put_rank k ys) ≡ (eq_by_cmp nat_cmp r k || mem r ys)
mem_put k [] r = refl
mem_put k (y ∷ ys) r = go (mem_put k ys r) (nat_lt k y) (k == y) refl
  where
    go : mem r (put_rank k ys) ≡ (eq_by_cmp nat_cmp r k || mem r ys) → (a b : Bool) → (k == y) ≡ b → mem r (cond a (k ∷ y ∷ ys) (cond b (y ∷ ys) (y ∷ put_rank k ys))) ≡ (eq_by_cmp nat_cmp r k || (eq_by_cmp nat_cmp r y || mem r ys))
    go ih true b e = refl
    go ih false true e = subst (λ z. (eq_by_cmp nat_cmp r y || mem r ys) ≡ (eq_by_cmp nat_cmp r z || (eq_by_cmp nat_cmp r y || mem r ys))) (sym (eqb-true k y e)) (or_twice (eq_by_cmp nat_cmp r y) (mem r ys))
    go ih false false e = ap (λ b. eq_by_cmp nat_cmp r y || b) ih ∙ or_swap (eq_by_cmp nat_cmp r y) (eq_by_cmp nat_cmp r k) (mem r ys)

mem_below : (x : ℕ) (ys : List ℕ) → list_all (λ y. nat_lt x y) ys ≡ true → mem x ys ≡ false
mem_below x [] h = refl
mem_below x (y ∷ ys) h =
    let a = and_parts (nat_lt x y) (list_all (λ y. nat_lt x y) ys) h in
    (λ i. other_number x y (λ e. lt_irrefl y (subst (λ z. z < y) e (ltb-true x y a.0))) i || mem_below x ys a.1 i)

mem_head : (x : ℕ) (xs : List ℕ) → mem x (x ∷ xs) ≡ true
mem_head x xs = ap (λ b. b || mem x xs) (ap is_eq (tied_itself nat_cmp_total x))

heads_differ : (x y : ℕ) (xs ys : List ℕ) → x < y → list_all (λ z. nat_lt y z) ys ≡ true → mem x (x ∷ xs) ≡ mem x (y ∷ ys) → ⊥
heads_differ x y xs ys lt h e = true≢false (sym (mem_head x xs) ∙ e ∙ mem_below x (y ∷ ys) (and_from (nat_lt x y) _ (lt-ltb x y lt) (all_above x y ys lt h)))

tails : (x y : ℕ) (xs ys : List ℕ) → x ≡ y → list_all (λ z. nat_lt x z) xs ≡ true → list_all (λ z. nat_lt y z) ys ≡ true → ((r : ℕ) → mem r (x ∷ xs) ≡ mem r (y ∷ ys)) → (r : ℕ) → mem r xs ≡ mem r ys
tails x y xs ys e ax ay is r = elim (cases_Bool (eq_by_cmp nat_cmp r x)) [
  | inl t ↦
      let k : r ≡ x = same_number r x t in
      subst (λ z. mem z xs ≡ false) (sym k) (mem_below x xs ax) ∙ sym (subst (λ z. mem z ys ≡ false) (sym (k ∙ e)) (mem_below y ys ay))
  | inr f ↦
      let g : eq_by_cmp nat_cmp r y ≡ false = subst (λ z. eq_by_cmp nat_cmp r z ≡ false) e f in
      ap (λ b. b || mem r xs) (sym f) ∙ is r ∙ ap (λ b. b || mem r ys) g
]

same_members : (xs ys : List ℕ) → is_strictly_increasing xs ≡ true → is_strictly_increasing ys ≡ true → ((r : ℕ) → mem r xs ≡ mem r ys) → xs ≡ ys
same_members [] [] hx hy is = refl
same_members [] (y ∷ ys) hx hy is = absurd (true≢false (sym (mem_head y ys) ∙ sym (is y)))
same_members (x ∷ xs) [] hx hy is = absurd (true≢false (sym (mem_head x xs) ∙ is x))
same_members (x ∷ xs) (y ∷ ys) hx hy is =
    let a = and_parts (list_all (λ z. nat_lt x z) xs) (is_strictly_increasing xs) hx in
    let b = and_parts (list_all (λ z. nat_lt y z) ys) (is_strictly_increasing ys) hy in
    let e : x ≡ y = elim (cases_lt x y) [
      | inl lt ↦ absurd (heads_differ x y xs ys lt b.0 (is x))
      | inr ge ↦ elim (cases_lt y x) [
        | inl lt ↦ absurd (heads_differ y x ys xs lt a.0 (sym (is y)))
        | inr le ↦ omega (arith, ge, le)
      ]
    ] in
    let t : xs ≡ ys = same_members xs ys a.1 b.1 (tails x y xs ys e a.0 b.0 is) in
    (λ i. e i ∷ t i)

-- nothing is a member of the empty set
pub has-none : (r : ℕ) → has none r ≡ false
unfolding has
has-none r = refl

-- the members of a set with one rank more
pub has-with_rank : (s : Ranks) (k r : ℕ) → has (with_rank s k) r ≡ (eq_by_cmp nat_cmp r k || has s r)
unfolding has with_rank
has-with_rank s k r = mem_put k s.list r

-- the members of the set of a list
pub has-set_of : (rs : List ℕ) (r : ℕ) → has (set_of rs) r ≡ list_any (eq_by_cmp nat_cmp r) rs
has-set_of [] r = has-none r
has-set_of (k ∷ rs) r = has-with_rank _ k r ∙ ap (λ b. eq_by_cmp nat_cmp r k || b) (has-set_of rs r)

has-with_all : (s : Ranks) (rs : List ℕ) (r : ℕ) → has (with_all s rs) r ≡ (has s r || list_any (eq_by_cmp nat_cmp r) rs)
has-with_all s [] r = or_false _
has-with_all s (k ∷ rs) r = has-with_rank _ k r ∙ ap (λ b. eq_by_cmp nat_cmp r k || b) (has-with_all s rs r) ∙ or_swap (eq_by_cmp nat_cmp r k) (has s r) _

-- the members are those of the ascending list
pub has-in_order : (s : Ranks) (r : ℕ) → has s r ≡ list_any (eq_by_cmp nat_cmp r) (in_order s)
unfolding has
has-in_order s r = refl

-- the members of a union
pub has-union : (s t : Ranks) (r : ℕ) → has (union s t) r ≡ (has s r || has t r)
unfolding union
has-union s t r = has-with_all s (in_order t) r ∙ ap (λ b. has s r || b) (sym (has-in_order t r))

and_swap : (a b : Bool) → (a && b) ≡ (b && a)
and_swap true true = refl
and_swap true false = refl
and_swap false true = refl
and_swap false false = refl

-- the members that pass a test
pub has-those : (test : ℕ → Bool) (s : Ranks) (r : ℕ) → has (those test s) r ≡ (has s r && test r)
unfolding has those
has-those test s r = any-filter_same (eq_by_cmp nat_cmp r) test (test r) (λ k e. ap test (sym (same_number r k e))) s.list ∙ and_swap (test r) (list_any (eq_by_cmp nat_cmp r) s.list)

-- two sets with the same members are equal
pub same_ranks : (s t : Ranks) → ((r : ℕ) → has s r ≡ has t r) → s ≡ t
unfolding has
same_ranks s t is = same_list s t (same_members s.list t.list (from_T _ s.increasing) (from_T _ t.increasing) is)

below_first : (x : ℕ) (ys : List ℕ) → list_all (λ y. nat_lt x y) ys ≡ true → put_rank x ys ≡ x ∷ ys
below_first x [] h = refl
below_first x (y ∷ ys) h = ap (λ b. cond b (x ∷ y ∷ ys) (cond (x == y) (y ∷ ys) (y ∷ put_rank x ys))) (and_parts (nat_lt x y) (list_all (λ z. nat_lt x z) ys) h).0

-- an increasing list is the ascending list of its set
pub in_order-increasing : (xs : List ℕ) → is_strictly_increasing xs ≡ true → in_order (set_of xs) ≡ xs
unfolding with_rank
in_order-increasing [] h = refl
in_order-increasing (x ∷ xs) h =
    let a = and_parts (list_all (λ z. nat_lt x z) xs) (is_strictly_increasing xs) h in
    ap (put_rank x) (in_order-increasing xs a.1) ∙ below_first x xs a.0

tied_present : (b h : Bool) → (b ≡ true → h ≡ true) → (b || h) ≡ h
tied_present true h is = sym (is refl)
tied_present false h is = refl

-- a set is not changed by a rank that it has
pub with_present : (s : Ranks) (r : ℕ) → has s r ≡ true → with_rank s r ≡ s
with_present s r there = same_ranks _ _ (λ q. has-with_rank s r q ∙ tied_present (eq_by_cmp nat_cmp q r) (has s q) (λ e. ap (has s) (map.nat_cmp-IsAntisymmetric q r ((Equal-is (nat_cmp q r)).0 e)) ∙ there))

-- each member of a list passes a test that all of it pass
pub all_have : (test : ℕ → Bool) (rs : List ℕ) (r : ℕ) → list_all test rs ≡ true → list_any (eq_by_cmp nat_cmp r) rs ≡ true → test r ≡ true
all_have test [] r each one = absurd (true≢false (sym one))
all_have test (k ∷ rs) r each one =
    let parts = and_parts (test k) (list_all test rs) each in
    elim (eq_by_cmp nat_cmp r k) as (λ b. eq_by_cmp nat_cmp r k ≡ b → (b || list_any (eq_by_cmp nat_cmp r) rs) ≡ true → test r ≡ true) [
      | true ↦ λ e _. ap test (map.nat_cmp-IsAntisymmetric r k ((Equal-is (nat_cmp r k)).0 e)) ∙ parts.0
      | false ↦ λ e rest. all_have test rs r parts.1 rest
    ] refl one

-- each member of a subset is a member
pub subset_has : (s t : Ranks) → is_subset s t ≡ true → (r : ℕ) → has s r ≡ true → has t r ≡ true
subset_has s t within r one = all_have (has t) (in_order s) r within (sym (has-in_order s r) ∙ one)

itself_any : (r : ℕ) → eq_by_cmp nat_cmp r r ≡ true
itself_any r = ap is_eq (tied_itself nat_cmp_total r)

-- all of a list passes a test that each member passes
pub all_pass : (test : ℕ → Bool) (rs : List ℕ) → ((r : ℕ) → list_any (eq_by_cmp nat_cmp r) rs ≡ true → test r ≡ true) → list_all test rs ≡ true
all_pass test [] each = refl
all_pass test (k ∷ rs) each =
    (λ i. each k (ap (λ b. b || list_any (eq_by_cmp nat_cmp k) rs) (itself_any k)) i && list_all test rs)
    ∙ all_pass test rs (λ r one. each r (or_right (eq_by_cmp nat_cmp r k) (list_any (eq_by_cmp nat_cmp r) rs) one))

-- sets are subsets where each member of the first is one of the second
pub subset_from : (s t : Ranks) → ((r : ℕ) → has s r ≡ true → has t r ≡ true) → is_subset s t ≡ true
subset_from s t each = all_pass (has t) (in_order s) (λ r one. each r (has-in_order s r ∙ one))

-- the empty set has no members
pub size-none : size none ≡ 0
size-none = refl

-- a set of no members is the empty set
pub none_from_size : (s : Ranks) → size s ≡ 0 → s ≡ none
none_from_size s e = same_list s none (empty_list s.list e)
  where
    empty_list : (xs : List ℕ) → length xs ≡ 0 → xs ≡ []
    empty_list [] e = refl
    empty_list (x ∷ xs) e = absurd (omega (arith, e))

-- a union with the empty set is the other set
pub union-none : (s : Ranks) → union none s ≡ s
union-none s = same_ranks _ _ (λ r. has-union none s r ∙ ap (λ b. b || has s r) (has-none r))

-- whether there is no member
abbrev pub is_empty : Ranks → Bool
is_empty s = size s == 0

-- a rank is a member
abbrev pub Has : ℕ → Ranks → Type 0
Has r s = has s r ≡ true

-- each member of the first is a member of the second
abbrev pub IsSubset : Ranks → Ranks → Type 0
IsSubset s t = (r : ℕ) → Has r s → Has r t

-- whether two sets are the same
abbrev pub is_same : Ranks → Ranks → Bool
is_same s t = is_subset s t && is_subset t s
