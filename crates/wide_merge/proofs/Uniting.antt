-- Blocks united by their paths, and put in the order of their least ranks, are classes.
use Rattle.std.proofs.Common.{◌≡◌, ℕ, zero, suc, ◌<◌, ◌≤◌, Bool, true, false, cond, ◌&&◌, ◌||◌, List, [], ◌∷◌, ◌++◌, eqb, get_or, length, refl, sym, ap, ◌∙◌, subst, inl, inr, arith}
use Rattle.std.specs.List.{All, AllByRecursion, IsDistinct, list_any}
use Rattle.std.specs.List.Sorted.{IsPermutation}
use Rattle.std.specs.Ordering.{eq_by_cmp, is_eq, is_gt, is_lt, nat_cmp, ordering_reverse}
use Rattle.std.specs.declared.cmp.Ordering.{Ordering}
use Rattle.std.specs.declared.cmp.Ordering.TheVariants.{Less, Equal, Greater}
use Rattle.std.specs.Cmp.{Equal-is, IsTotalOrder, both_ways, upto}
use Rattle.std.specs.Cmp.Lexicographic.{slice_cmp, lists_total}
use Rattle.std.proofs.lemmas.Bool.{true≢false, and_parts, and_from, eq-eqb, eqb-true, or_cases, or_left, or_right, cases_lt}
use Rattle.std.proofs.lemmas.Cmp.{on_total}
use Rattle.std.proofs.lemmas.List.Elements.{All-from_recursion, recursion_from_All}
use Rattle.std.proofs.lemmas.List.Folds.{list_any-append}
use Rattle.std.proofs.lemmas.List.Sorted.{All-permutation, list_any-IsPermutation}
use Rattle.std.proofs.lemmas.Map.Keys.{IsDistinct-IsPermutation}
use Rattle.rank_set.specs.Ranks.{Ranks, has, union, has-union}
use Rattle.call_path.specs.Path.{Path, path_cmp, path_cmp_total}
use Rattle.call_path.specs.Pairs.{Pairs}
use Rattle.equiv_class.specs.Classes.{classes_of, paths_of}
use Rattle.wide_merge.specs.ClassLists.{AreClasses, AreInOrder, Block, IsClass, any_has, are_paths, least}
use Rattle.wide_merge.specs.Joining as joining
use Rattle.wide_merge.proofs.ClassLists.{are_classes, classes_are, are_paths-exact, are_paths-itself, least_in, same_class}

-- the order of blocks by their paths
abbrev pub block_cmp : Block → Block → Ordering
block_cmp k l = slice_cmp path_cmp k.1 l.1

-- blocks with one more, by their paths
abbrev pub with_block : List Block → Block → List Block
with_block ks k = joining.with_block are_paths ks k

-- one after another
abbrev pub with_blocks : List Block → List Block → List Block
with_blocks done ks = joining.with_blocks are_paths done ks

-- some block with these paths has the rank
abbrev pub in_paths : List Path → ℕ → List Block → Bool
in_paths ps r ks = list_any (λ k. are_paths k.1 ps && has k.0 r) ks

-- each block has a rank
abbrev pub HaveRanks : List Block → Type 0
HaveRanks ks = AllByRecursion (λ k. (r : ℕ) × (has k.0 r ≡ true)) ks

-- ---- which ranks stand with which paths

or_false : (a : Bool) → (a || false) ≡ a
or_false true = refl
or_false false = refl

or_assoc : (a b c : Bool) → ((a || b) || c) ≡ (a || (b || c))
or_assoc true b c = refl
or_assoc false b c = refl

united_test : (x a b : Bool) → ((x && (a || b)) || false) ≡ (((x && a) || false) || (x && b))
united_test true true b = refl
united_test true false true = refl
united_test true false false = refl
united_test false a b = refl

module _ (ps : List Path) (r : ℕ) where
  pub in-with_block : (done : List Block) (k : Block) → in_paths ps r (with_block done k) ≡ (in_paths ps r done || (are_paths k.1 ps && has k.0 r))
  in-with_block [] k = or_false (are_paths k.1 ps && has k.0 r)
  in-with_block (l ∷ []) k = by (are_paths l.1 k.1) refl
    where
      by : (b : Bool) → are_paths l.1 k.1 ≡ b → in_paths ps r (cond b ((union l.0 k.0, l.1) ∷ []) (l ∷ k ∷ [])) ≡ (in_paths ps r (l ∷ []) || (are_paths k.1 ps && has k.0 r))
      by true e =
          ap (λ h. (are_paths l.1 ps && h) || false) (has-union l.0 k.0 r) ∙ united_test (are_paths l.1 ps) (has l.0 r) (has k.0 r)
          ∙ ap (λ qs. in_paths ps r (l ∷ []) || (are_paths qs ps && has k.0 r)) (are_paths-exact l.1 k.1 e)
      by false e = ap (λ b. (are_paths l.1 ps && has l.0 r) || b) (or_false (are_paths k.1 ps && has k.0 r)) ∙ ap (λ b. b || (are_paths k.1 ps && has k.0 r)) (sym (or_false (are_paths l.1 ps && has l.0 r)))
  in-with_block (l ∷ m ∷ ls) k = ap (λ b. (are_paths l.1 ps && has l.0 r) || b) (in-with_block (m ∷ ls) k) ∙ sym (or_assoc (are_paths l.1 ps && has l.0 r) (in_paths ps r (m ∷ ls)) (are_paths k.1 ps && has k.0 r))

  pub in-with_blocks : (done ks : List Block) → in_paths ps r (with_blocks done ks) ≡ (in_paths ps r done || in_paths ps r ks)
  in-with_blocks done [] = sym (or_false (in_paths ps r done))
  in-with_blocks done (k ∷ ks) = in-with_blocks (with_block done k) ks ∙ ap (λ b. b || in_paths ps r ks) (in-with_block done k) ∙ or_assoc (in_paths ps r done) (are_paths k.1 ps && has k.0 r) (in_paths ps r ks)

-- ---- each has a rank

some-with_block : (done : List Block) (k : Block) → HaveRanks done → ((r : ℕ) × (has k.0 r ≡ true)) → HaveRanks (with_block done k)
some-with_block [] k are some = (some, tt)
some-with_block (l ∷ []) k are some = by (are_paths l.1 k.1)
  where
    by : (b : Bool) → HaveRanks (cond b ((union l.0 k.0, l.1) ∷ []) (l ∷ k ∷ []))
    by true = ((are.0.0, has-union l.0 k.0 are.0.0 ∙ or_left (has l.0 are.0.0) (has k.0 are.0.0) are.0.1), tt)
    by false = (are.0, (some, tt))
some-with_block (l ∷ m ∷ ls) k are some = (are.0, some-with_block (m ∷ ls) k are.1 some)

pub some-with_blocks : (done ks : List Block) → HaveRanks done → HaveRanks ks → HaveRanks (with_blocks done ks)
some-with_blocks done [] are some = are
some-with_blocks done (k ∷ ks) are some = some-with_blocks (with_block done k) ks (some-with_block done k are some.0) some.1

-- ---- they rise by their paths

block_total : IsTotalOrder block_cmp
block_total = on_total (λ (k : Block). k.1) (lists_total path_cmp_total)

abbrev Rising : List Block → Type 0
Rising [] = Unit {0}
Rising (k ∷ ks) = AllByRecursion (λ l. block_cmp k l ≡ Less) ks × Rising ks

abbrev UpTo : List Block → Block → Type 0
UpTo ks k = AllByRecursion (λ l. is_gt (block_cmp l k) ≡ false) ks

abbrev NotFalling : List Block → Type 0
NotFalling [] = Unit {0}
NotFalling (k ∷ ks) = AllByRecursion (λ l. is_gt (block_cmp k l) ≡ false) ks × NotFalling ks

less_then : (k l m : Block) → block_cmp k l ≡ Less → is_gt (block_cmp l m) ≡ false → block_cmp k m ≡ Less
less_then k l m lt le = by (block_cmp l m) refl le
  where
    by : (o : Ordering) → block_cmp l m ≡ o → is_gt o ≡ false → block_cmp k m ≡ Less
    by Less e le = block_total.trans k l m lt e
    by Equal e le = ap (slice_cmp path_cmp k.1) (sym (are_paths-exact l.1 m.1 (ap is_eq e))) ∙ lt
    by Greater e le = absurd (true≢false le)

not_greater : (o : Ordering) → o ≡ Less → is_gt o ≡ false
not_greater o e = ap is_gt e

less_upto : (o : Ordering) → is_gt o ≡ false → is_eq o ≡ false → o ≡ Less
less_upto Less a b = refl
less_upto Equal a b = absurd (true≢false b)
less_upto Greater a b = absurd (true≢false a)

less_all : (k : Block) (done : List Block) (x : Block) → AllByRecursion (λ l. block_cmp k l ≡ Less) done → block_cmp k x ≡ Less → AllByRecursion (λ l. block_cmp k l ≡ Less) (with_block done x)
less_all k [] x are lt = (lt, tt)
less_all k (l ∷ []) x are lt = by (are_paths l.1 x.1)
  where
    by : (b : Bool) → AllByRecursion (λ m. block_cmp k m ≡ Less) (cond b ((union l.0 x.0, l.1) ∷ []) (l ∷ x ∷ []))
    by true = (are.0, tt)
    by false = (are.0, (lt, tt))
less_all k (l ∷ m ∷ ls) x are lt = (are.0, less_all k (m ∷ ls) x are.1 lt)

rising-with_block : (done : List Block) (x : Block) → Rising done → UpTo done x → Rising (with_block done x)
rising-with_block [] x up le = (tt, tt)
rising-with_block (l ∷ []) x up le = by (are_paths l.1 x.1) refl
  where
    by : (b : Bool) → are_paths l.1 x.1 ≡ b → Rising (cond b ((union l.0 x.0, l.1) ∷ []) (l ∷ x ∷ []))
    by true e = (tt, tt)
    by false e = ((less_upto (block_cmp l x) le.0 e, tt), (tt, tt))
rising-with_block (l ∷ m ∷ ls) x up le = (less_all l (m ∷ ls) x up.0 (less_then l m x up.0.0 le.1.0), rising-with_block (m ∷ ls) x up.1 le.1)

upto-with_block : (done : List Block) (x y : Block) → UpTo done y → is_gt (block_cmp x y) ≡ false → UpTo (with_block done x) y
upto-with_block [] x y are le = (le, tt)
upto-with_block (l ∷ []) x y are le = by (are_paths l.1 x.1)
  where
    by : (b : Bool) → UpTo (cond b ((union l.0 x.0, l.1) ∷ []) (l ∷ x ∷ [])) y
    by true = (are.0, tt)
    by false = (are.0, (le, tt))
upto-with_block (l ∷ m ∷ ls) x y are le = (are.0, upto-with_block (m ∷ ls) x y are.1 le)

rising-with_blocks : (done ks : List Block) → Rising done → NotFalling ks → AllByRecursion (UpTo done) ks → Rising (with_blocks done ks)
rising-with_blocks done [] up rest le = up
rising-with_blocks done (k ∷ ks) up rest le = rising-with_blocks (with_block done k) ks (rising-with_block done k up le.0) rest.1 (all ks le.1 rest.0)
  where
    all : (ys : List Block) → AllByRecursion (UpTo done) ys → AllByRecursion (λ l. is_gt (block_cmp k l) ≡ false) ys → AllByRecursion (UpTo (with_block done k)) ys
    all [] a b = tt
    all (y ∷ ys) a b = (upto-with_block done k y a.0 b.0, all ys a.1 b.1)

-- what a sort by paths leaves
all_far : (P : Block → Type 0) (ks : List Block) → ((j : ℕ) (d : Block) → j < length ks → P (get_or ks j d)) → AllByRecursion P ks
all_far P [] each = tt
all_far P (k ∷ ks) each = (each 0 k (omega arith), all_far P ks (λ j d lt. each (suc j) d (omega (arith, lt))))

at_place : (Q : Block → Type 0) (ks : List Block) → AllByRecursion Q ks → (j : ℕ) (d : Block) → j < length ks → Q (get_or ks j d)
at_place Q [] are j d lt = absurd (omega (arith, lt))
at_place Q (k ∷ ks) are zero d lt = are.0
at_place Q (k ∷ ks) are (suc j) d lt = at_place Q ks are.1 j d (omega (arith, lt))

turned_gt : (k l : Block) → is_lt (block_cmp l k) ≡ false → is_gt (block_cmp k l) ≡ false
turned_gt k l e = ap is_gt (block_total.antisymm k l) ∙ by (block_cmp l k) e
  where
    by : (o : Ordering) → is_lt o ≡ false → is_gt (ordering_reverse o) ≡ false
    by Less e = absurd (true≢false e)
    by Equal e = refl
    by Greater e = refl

not_falling : (ks : List Block) → ((i j : ℕ) (d : Block) → i ≤ j → j < length ks → is_lt (block_cmp (get_or ks j d) (get_or ks i d)) ≡ false) → NotFalling ks
not_falling [] far = tt
not_falling (k ∷ ks) far = (
  all_far (λ l. is_gt (block_cmp k l) ≡ false) ks (λ j d lt. turned_gt k (get_or ks j d) (far 0 (suc j) d (omega arith) (omega (arith, lt)))),
  not_falling ks (λ i j d le lt. far (suc i) (suc j) d (omega (arith, le)) (omega (arith, lt))),
)

ranks_of : (P : Pairs) (C : Ranks) (ks : List Block) → AreInOrder P C ks → HaveRanks ks
ranks_of P C [] are = tt
ranks_of P C (k ∷ ks) are = ((are.0.member, are.0.some), ranks_of P C ks are.1.1)

all_both : (ks ls : List Block) → HaveRanks ks → HaveRanks ls → HaveRanks (ks ++ ls)
all_both [] ls one two = two
all_both (k ∷ ks) ls one two = (one.0, all_both ks ls one.1 two)

all_empty : (ks : List Block) → AllByRecursion (UpTo []) ks
all_empty [] = tt
all_empty (k ∷ ks) = (tt, all_empty ks)

-- ---- together they are classes

module _ (P : Pairs) where
  -- which ranks stand with which paths in a list of classes
  in_classes : (C : Ranks) (ks : List Block) → AreInOrder P C ks → (ps : List Path) (r : ℕ) → in_paths ps r ks ≡ true → (has C r && are_paths ps (paths_of P r)) ≡ true
  in_classes C [] are ps r one = absurd (true≢false (sym one))
  in_classes C (k ∷ ks) are ps r one = elim (or_cases (are_paths k.1 ps && has k.0 r) (in_paths ps r ks) one) [
    | inl here ↦
        let parts = and_parts (are_paths k.1 ps) (has k.0 r) here in
        ap (λ qs. has C r && are_paths qs (paths_of P r)) (sym (are_paths-exact k.1 ps parts.0)) ∙ sym (are.0.each r) ∙ parts.1
    | inr later ↦ in_classes C ks are.1.1 ps r later
  ]

  of_rank : (C : Ranks) (ks : List Block) → AreInOrder P C ks → (r : ℕ) → any_has r ks ≡ true → in_paths (paths_of P r) r ks ≡ true
  of_rank C [] are r one = absurd (true≢false (sym one))
  of_rank C (k ∷ ks) are r one = elim (or_cases (has k.0 r) (any_has r ks) one) [
    | inl here ↦ or_left (are_paths k.1 (paths_of P r) && has k.0 r) (in_paths (paths_of P r) r ks) (and_from (are_paths k.1 (paths_of P r)) (has k.0 r) ((and_parts (has C r) (are_paths k.1 (paths_of P r)) (sym (are.0.each r) ∙ here)).1) here)
    | inr later ↦ or_right (are_paths k.1 (paths_of P r) && has k.0 r) (in_paths (paths_of P r) r ks) (of_rank C ks are.1.1 r later)
  ]

  pub in-classes : (C : Ranks) (ks : List Block) → AreClasses P C ks → (ps : List Path) (r : ℕ) → in_paths ps r ks ≡ (has C r && are_paths ps (paths_of P r))
  in-classes C ks are ps r = both_ways _ _
      (in_classes C ks are.in_order ps r)
      (λ one.
      let parts = and_parts (has C r) (are_paths ps (paths_of P r)) one in
      ap (λ qs. in_paths qs r ks) (are_paths-exact ps (paths_of P r) parts.1) ∙ of_rank C ks are.in_order r (are.all r ∙ parts.0))

  -- and in those of two
  both_in : (A B : Ranks) (ks ls : List Block) → AreClasses P A ks → AreClasses P B ls → (ps : List Path) (r : ℕ) → in_paths ps r (ks ++ ls) ≡ (has (union A B) r && are_paths ps (paths_of P r))
  both_in A B ks ls one two ps r =
      list_any-append (λ k. are_paths k.1 ps && has k.0 r) ks ls
      ∙ (λ i. in-classes A ks one ps r i || in-classes B ls two ps r i)
      ∙ spread (has A r) (has B r) (are_paths ps (paths_of P r))
      ∙ ap (λ h. h && are_paths ps (paths_of P r)) (sym (has-union A B r))
    where
      spread : (a b x : Bool) → ((a && x) || (b && x)) ≡ ((a || b) && x)
      spread true true true = refl
      spread true true false = refl
      spread true false true = refl
      spread true false false = refl
      spread false b x = refl

  -- in a rising list a block has all ranks that stand with its paths
  none_with : (k : Block) (ks : List Block) → AllByRecursion (λ l. block_cmp k l ≡ Less) ks → (r : ℕ) → in_paths k.1 r ks ≡ false
  none_with k [] up r = refl
  none_with k (l ∷ ks) up r = (λ i. (other i && has l.0 r) || none_with k ks up.1 r i)
    where
      other : are_paths l.1 k.1 ≡ false
      other = ap is_eq (block_total.antisymm l k) ∙ ap (λ o. is_eq (ordering_reverse o)) up.0

  own_in : (k : Block) (ks : List Block) → Rising (k ∷ ks) → (r : ℕ) → in_paths k.1 r (k ∷ ks) ≡ has k.0 r
  own_in k ks up r = (λ i. (are_paths-itself k.1 i && has k.0 r) || none_with k ks up.0 r i) ∙ or_false (has k.0 r)

  later_in : (k : Block) (ks : List Block) (l : Block) (r : ℕ) → block_cmp k l ≡ Less → in_paths l.1 r (k ∷ ks) ≡ in_paths l.1 r ks
  later_in k ks l r lt = ap (λ o. (is_eq o && has k.0 r) || in_paths l.1 r ks) lt

  each_class : (C : Ranks) (ks : List Block) → Rising ks → HaveRanks ks → ((j : ℕ) (d : Block) → j < length ks → (r : ℕ) → in_paths (get_or ks j d).1 r ks ≡ (has C r && are_paths (get_or ks j d).1 (paths_of P r))) → AllByRecursion (IsClass P C) ks
  each_class C [] up some each = tt
  each_class C (k ∷ ks) up some each = (
    record { member = some.0.0; some = some.0.1; each = λ r. sym (own_in k ks up r) ∙ each 0 k (omega arith) r },
    each_class C ks up.1 some.1 (λ j d lt r. sym (later_in k ks (get_or ks j d) r (at_place (λ l. block_cmp k l ≡ Less) ks up.0 j d lt)) ∙ each (suc j) d (omega (arith, lt)) r),
  )

  -- the rank of some class is a rank
  class_rank : (C : Ranks) (ks : List Block) → AllByRecursion (IsClass P C) ks → (r : ℕ) → any_has r ks ≡ true → has C r ≡ true
  class_rank C [] are r one = absurd (true≢false (sym one))
  class_rank C (k ∷ ks) are r one = elim (or_cases (has k.0 r) (any_has r ks) one) [
    | inl here ↦ (and_parts (has C r) (are_paths k.1 (paths_of P r)) (sym (are.0.each r) ∙ here)).0
    | inr later ↦ class_rank C ks are.1 r later
  ]

  any_from : (ps : List Path) (r : ℕ) (ks : List Block) → in_paths ps r ks ≡ true → any_has r ks ≡ true
  any_from ps r [] one = one
  any_from ps r (k ∷ ks) one = elim (or_cases (are_paths k.1 ps && has k.0 r) (in_paths ps r ks) one) [
    | inl here ↦ or_left (has k.0 r) (any_has r ks) ((and_parts (are_paths k.1 ps) (has k.0 r) here).1)
    | inr later ↦ or_right (has k.0 r) (any_has r ks) (any_from ps r ks later)
  ]

  -- two classes of a rising list have different least ranks
  abbrev same_least : Block → Block → Bool
  same_least k l = eqb (least k) (least l)

  apart_leasts : (C : Ranks) (ks : List Block) → Rising ks → AllByRecursion (IsClass P C) ks → IsDistinct same_least ks
  unfolding IsDistinct
  apart_leasts C [] up are = tt
  apart_leasts C (k ∷ ks) up are = (all ks up.0 are.1, apart_leasts C ks up.1 are.1)
    where
      all : (ls : List Block) → AllByRecursion (λ l. block_cmp k l ≡ Less) ls → AllByRecursion (IsClass P C) ls → AllByRecursion (λ l. same_least k l ≡ false) ls
      all [] less each = tt
      all (l ∷ ls) less each = (by (same_least k l) refl, all ls less.1 each.1)
        where
          by : (b : Bool) → same_least k l ≡ b → b ≡ false
          by false e = refl
          by true e =
              let in_k : has k.0 (least k) ≡ true = least_in k are.0.member are.0.some in
              let in_l : has l.0 (least k) ≡ true = ap (has l.0) (eqb-true (least k) (least l) e) ∙ least_in l each.0.member each.0.some in
              let one : k ≡ l = same_class P C k l are.0 each.0 (least k) in_k in_l in
              absurd (true≢false (sym (ap (λ (m : Block). are_paths k.1 m.1) (sym one) ∙ are_paths-itself k.1) ∙ ap is_eq less.0))

  -- put in the order of their least ranks
  in_order_from : (C : Ranks) (ks : List Block) → AllByRecursion (IsClass P C) ks → ((i j : ℕ) (d : Block) → i ≤ j → j < length ks → least (get_or ks i d) ≤ least (get_or ks j d)) → IsDistinct same_least ks → AreInOrder P C ks
  unfolding IsDistinct
  in_order_from C [] are up apart = tt
  in_order_from C (k ∷ ks) are up apart = (
    are.0,
    (
      all_far (λ l. least k < least l) ks (λ j d lt. less (least k) (least (get_or ks j d)) (up 0 (suc j) d (omega arith) (omega (arith, lt))) (at_place (λ l. same_least k l ≡ false) ks apart.0 j d lt)),
      in_order_from C ks are.1 (λ i j d le lt. up (suc i) (suc j) d (omega (arith, le)) (omega (arith, lt))) apart.1,
    ),
  )
    where
      less : (a b : ℕ) → a ≤ b → eqb a b ≡ false → a < b
      less a b le ne = elim (cases_lt a b) [ inl lt ↦ lt | inr ge ↦ absurd (true≢false (sym (eq-eqb a b (let e : a ≡ b = omega (arith, le, ge) in e)) ∙ ne)) ]

  -- The classes over A and those over B, put in the order of their paths; those of the same paths united; and put in the
  -- order of their least ranks: the classes over both.
  pub united : (A B : Ranks) (ks ls sorted all : List Block) → ks ≡ classes_of P A → ls ≡ classes_of P B
      → IsPermutation (ks ++ ls) sorted → ((i j : ℕ) (d : Block) → i ≤ j → j < length sorted → is_lt (block_cmp (get_or sorted j d) (get_or sorted i d)) ≡ false)
      → IsPermutation (with_blocks [] sorted) all → ((i j : ℕ) (d : Block) → i ≤ j → j < length all → least (get_or all i d) ≤ least (get_or all j d))
      → all ≡ classes_of P (union A B)
  united A B ks ls sorted all is_ks is_ls moved by_paths moved_back by_least =
      let C : Ranks = union A B in
      let one : AreClasses P A ks = subst (AreClasses P A) (sym is_ks) (classes_are P A) in
      let two : AreClasses P B ls = subst (AreClasses P B) (sym is_ls) (classes_are P B) in
      let each : (ps : List Path) (r : ℕ) → in_paths ps r (with_blocks [] sorted) ≡ (has C r && are_paths ps (paths_of P r)) = λ ps r.
      in-with_blocks ps r [] sorted ∙ sym (list_any-IsPermutation (λ k. are_paths k.1 ps && has k.0 r) (ks ++ ls) sorted moved) ∙ both_in A B ks ls one two ps r in
      let some : HaveRanks sorted = recursion_from_All (λ k. (r : ℕ) × (has k.0 r ≡ true)) sorted (All-permutation (λ k. (r : ℕ) × (has k.0 r ≡ true)) (ks ++ ls) sorted moved (All-from_recursion (λ k. (r : ℕ) × (has k.0 r ≡ true)) (ks ++ ls) (all_both ks ls (ranks_of P A ks one.in_order) (ranks_of P B ls two.in_order)))) in
      let up : Rising (with_blocks [] sorted) = rising-with_blocks [] sorted tt (not_falling sorted by_paths) (all_empty sorted) in
      let classes : AllByRecursion (IsClass P C) (with_blocks [] sorted) = each_class C (with_blocks [] sorted) up (some-with_blocks [] sorted tt some) (λ j d lt r. each (get_or (with_blocks [] sorted) j d).1 r) in
      let here : AllByRecursion (IsClass P C) all = recursion_from_All (IsClass P C) all (All-permutation (IsClass P C) (with_blocks [] sorted) all moved_back (All-from_recursion (IsClass P C) (with_blocks [] sorted) classes)) in
      are_classes P C all (record {
        in_order = in_order_from C all here by_least (IsDistinct-IsPermutation same_least (λ k l. Rattle.std.specs.Cmp.nat_eq_equiv.symm (least k) (least l)) (with_blocks [] sorted) all moved_back (apart_leasts C (with_blocks [] sorted) up classes));
        all = λ r.
            sym (list_any-IsPermutation (λ (k : Block). has k.0 r) (with_blocks [] sorted) all moved_back)
            ∙ both_ways _ _
            (class_rank C (with_blocks [] sorted) classes r)
            (λ there. any_from (paths_of P r) r (with_blocks [] sorted) (each (paths_of P r) r ∙ and_from (has C r) (are_paths (paths_of P r) (paths_of P r)) there (are_paths-itself (paths_of P r))));
      })
