-- A list of blocks is the classes of pairs exactly where each block is a class, they stand by their least ranks, and they have all ranks.
use Rattle.std.proofs.Common.{◌≡◌, ℕ, zero, suc, ◌<◌, ◌≤◌, Bool, true, false, not, ◌&&◌, ◌||◌, ◌⊎◌, List, [], ◌∷◌, get_or, Some, refl, sym, ap, ◌∙◌, subst, inl, inr, arith}
use Rattle.std.specs.List.{list_any, AllByRecursion, slice_get}
use Rattle.std.specs.Ordering.{nat_cmp, eq_by_cmp, is_eq}
use Rattle.std.specs.Cmp.{both_ways, Equal-is, tied_itself}
use Rattle.std.specs.Cmp.Lexicographic.{slice_cmp, lists_total}
use Rattle.std.specs.FinMap as finmap
use Rattle.std.proofs.lemmas.Bool.{true≢false, and_parts, and_from, or_cases, or_left, cases_Bool}
use Rattle.rank_set.specs.Ranks.{Ranks, has, in_order, size, those, has-in_order, has-those, same_ranks}
use Rattle.call_path.specs.Path.{Path, path_cmp, path_cmp_total, path_cmp_exact, is_path}
use Rattle.call_path.specs.Pairs.{Pairs}
use Rattle.equiv_class.specs.Classes.{equivalent, paths_of, classes_of}
use Rattle.equiv_class.proofs.Equivalent.{equivalent-from_paths, paths-from_equivalent}
use Rattle.equiv_class.proofs.PathsInOrder.{any-paths_of, paths_of-same}
use Rattle.equiv_class.proofs.Ordered.{first_below, same_number, tied_self}
use Rattle.equiv_class.proofs.Blocks.{classes_none, equivalent_itself, fewer_without, next_class}
use Rattle.wide_merge.specs.ClassLists.{AreClasses, AreInOrder, Block, IsClass, any_has, are_paths, least}

-- ---- lists of paths

pub are_paths-exact : (ps qs : List Path) → are_paths ps qs ≡ true → ps ≡ qs
are_paths-exact ps qs e = finmap.slice_cmp-IsAntisymmetric path_cmp_exact ps qs ((Equal-is (slice_cmp path_cmp ps qs)).0 e)

pub are_paths-itself : (ps : List Path) → are_paths ps ps ≡ true
are_paths-itself ps = ap is_eq (tied_itself (lists_total path_cmp_total) ps)

-- ranks are equivalent where they have the same paths
same_paths : (P : Pairs) (r s : ℕ) → equivalent P r s ≡ true → paths_of P r ≡ paths_of P s
same_paths P r s e = paths_of-same P P r s (paths-from_equivalent P r s e)

equivalent_by_list : (P : Pairs) (r s : ℕ) → paths_of P r ≡ paths_of P s → equivalent P r s ≡ true
equivalent_by_list P r s e = equivalent-from_paths P r s (λ p. sym (any-paths_of P r p) ∙ ap (list_any (is_path p)) e ∙ any-paths_of P s p)

by_paths : (P : Pairs) (r s : ℕ) → equivalent P r s ≡ are_paths (paths_of P r) (paths_of P s)
by_paths P r s = both_ways _ _
    (λ e. ap (are_paths (paths_of P r)) (sym (same_paths P r s e)) ∙ are_paths-itself (paths_of P r))
    (λ e. equivalent_by_list P r s (are_paths-exact (paths_of P r) (paths_of P s) e))

-- ---- the least rank

pub least_in : (k : Block) (r : ℕ) → has k.0 r ≡ true → has k.0 (least k) ≡ true
least_in k r there = by (in_order k.0) refl
  where
    by : (xs : List ℕ) → in_order k.0 ≡ xs → has k.0 (get_or xs 0 0) ≡ true
    by [] e = absurd (true≢false (sym there ∙ has-in_order k.0 r ∙ ap (list_any (eq_by_cmp nat_cmp r)) e))
    by (x ∷ xs) e = has-in_order k.0 x ∙ ap (list_any (eq_by_cmp nat_cmp x)) e ∙ ap (λ b. b || list_any (eq_by_cmp nat_cmp x) xs) (tied_self x)

pub least_low : (k : Block) (r : ℕ) → has k.0 r ≡ true → least k ≤ r
least_low k r there = by (in_order k.0) refl
  where
    by : (xs : List ℕ) → in_order k.0 ≡ xs → get_or xs 0 0 ≤ r
    by [] e = omega arith
    by (x ∷ xs) e = elim (or_cases (eq_by_cmp nat_cmp r x) (list_any (eq_by_cmp nat_cmp r) xs) (sym (has-in_order k.0 r ∙ ap (list_any (eq_by_cmp nat_cmp r)) e) ∙ there)) [
      | inl same ↦ omega (arith, same_number r x same)
      | inr later ↦ omega (arith, first_below k.0 x xs e r later)
    ]

-- ---- one list alone

module _ (P : Pairs) (C : Ranks) where
  -- the paths of a class are those of each of its ranks
  pub own_paths : (k : Block) → IsClass P C k → (r : ℕ) → has k.0 r ≡ true → k.1 ≡ paths_of P r
  own_paths k is r there = are_paths-exact k.1 (paths_of P r) ((and_parts (has C r) (are_paths k.1 (paths_of P r)) (sym (is.each r) ∙ there)).1)

  -- classes with a rank in common are one
  pub same_class : (k l : Block) → IsClass P C k → IsClass P C l → (r : ℕ) → has k.0 r ≡ true → has l.0 r ≡ true → k ≡ l
  same_class k l one two r in_k in_l =
      let paths : k.1 ≡ l.1 = own_paths k one r in_k ∙ sym (own_paths l two r in_l) in
      let ranks : k.0 ≡ l.0 = same_ranks k.0 l.0 (λ q. one.each q ∙ ap (λ ps. has C q && are_paths ps (paths_of P q)) paths ∙ sym (two.each q)) in
      (λ i. (ranks i, paths i))

  -- a later block has no rank of the first
  none_later : (k : Block) (ks : List Block) → IsClass P C k → AllByRecursion (λ l. least k < least l) ks → AreInOrder P C ks → (r : ℕ) → has k.0 r ≡ true → any_has r ks ≡ false
  none_later k [] is up rest r there = refl
  none_later k (l ∷ ks) is up rest r there = elim (cases_Bool (has l.0 r)) [
    | inl too ↦ let e : least k ≡ least l = ap least (same_class k l is rest.0 r there too) in absurd (omega (arith, e, up.0))
    | inr other ↦ (λ i. other i || none_later k ks is up.1 rest.1.1 r there i)
  ]

  -- a rank is in the first block, or the first block's least rank is less
  in_or_above : (l : Block) (ls : List Block) → AllByRecursion (λ m. least l < least m) ls → (r : ℕ) → any_has r (l ∷ ls) ≡ true → (has l.0 r ≡ true) ⊎ (least l < r)
  in_or_above l ls up r there = elim (or_cases (has l.0 r) (any_has r ls) there) [
    | inl here ↦ inl here
    | inr later ↦ inr (above ls up later)
  ]
    where
      above : (ms : List Block) → AllByRecursion (λ m. least l < least m) ms → any_has r ms ≡ true → least l < r
      above [] up there = absurd (true≢false (sym there))
      above (m ∷ ms) up there = elim (or_cases (has m.0 r) (any_has r ms) there) [
        | inl here ↦ omega (arith, up.0, least_low m r here)
        | inr later ↦ above ms up.1 later
      ]

  heads : (k l : Block) (ks ls : List Block) → AreInOrder P C (k ∷ ks) → AreInOrder P C (l ∷ ls) → ((r : ℕ) → any_has r (k ∷ ks) ≡ any_has r (l ∷ ls)) → k ≡ l
  heads k l ks ls one two same =
      let r : ℕ = least k in
      let s : ℕ = least l in
      let in_k : has k.0 r ≡ true = least_in k one.0.member one.0.some in
      let in_l : has l.0 s ≡ true = least_in l two.0.member two.0.some in
      elim (in_or_above l ls two.1.0 r (sym (same r) ∙ or_left (has k.0 r) (any_has r ks) in_k)) [
        | inl here ↦ same_class k l one.0 two.0 r in_k here
        | inr less ↦ elim (in_or_above k ks one.1.0 s (same s ∙ or_left (has l.0 s) (any_has s ls) in_l)) [
          | inl there ↦ same_class k l one.0 two.0 s there in_l
          | inr more ↦ absurd (omega (arith, less, more))
        ]
      ]

  rests : (k l : Block) (ks ls : List Block) → AreInOrder P C (k ∷ ks) → AreInOrder P C (l ∷ ls) → k ≡ l → ((r : ℕ) → any_has r (k ∷ ks) ≡ any_has r (l ∷ ls)) → (r : ℕ) → any_has r ks ≡ any_has r ls
  rests k l ks ls one two e same r = elim (cases_Bool (has k.0 r)) [
    | inl here ↦ none_later k ks one.0 one.1.0 one.1.1 r here ∙ sym (none_later l ls two.0 two.1.0 two.1.1 r (sym (ap (λ (m : Block). has m.0 r) e) ∙ here))
    | inr other ↦ sym (ap (λ b. b || any_has r ks) other) ∙ same r ∙ ap (λ b. b || any_has r ls) (sym (ap (λ (m : Block). has m.0 r) e) ∙ other)
  ]

  -- two lists of classes in order with the same ranks are one
  pub one_list : (ks ls : List Block) → AreInOrder P C ks → AreInOrder P C ls → ((r : ℕ) → any_has r ks ≡ any_has r ls) → ks ≡ ls
  one_list [] [] one two same = refl
  one_list [] (l ∷ ls) one two same = absurd (true≢false (sym (or_left (has l.0 two.0.member) (any_has two.0.member ls) two.0.some) ∙ sym (same two.0.member)))
  one_list (k ∷ ks) [] one two same = absurd (true≢false (sym (or_left (has k.0 one.0.member) (any_has one.0.member ks) one.0.some) ∙ same one.0.member))
  one_list (k ∷ ks) (l ∷ ls) one two same =
      let e : k ≡ l = heads k l ks ls one two same in
      let rest = one_list ks ls one.1.1 two.1.1 (rests k l ks ls one two e same) in
      (λ i. e i ∷ rest i)

-- ---- the classes of pairs are such a list

module _ (P : Pairs) where
  block_has : (C : Ranks) (r : ℕ) → has C r ≡ true → has (those (equivalent P r) C) r ≡ true
  block_has C r there = has-those (equivalent P r) C r ∙ and_from (has C r) (equivalent P r r) there (equivalent_itself P r)

  split : (c e : Bool) → ((c && e) || (c && not e)) ≡ c
  split true true = refl
  split true false = refl
  split false e = refl

  -- the first block of ranks is a class
  first_class : (C : Ranks) (r : ℕ) → has C r ≡ true → IsClass P C (those (equivalent P r) C, paths_of P r)
  first_class C r there = record {
    member = r;
    some = block_has C r there;
    each = λ q. has-those (equivalent P r) C q ∙ ap (λ b. has C q && b) (by_paths P r q);
  }

  -- a class of what is left is a class of all
  class_of_all : (C : Ranks) (r : ℕ) (k : Block) → IsClass P (those (λ s. not (equivalent P r s)) C) k → IsClass P C k
  class_of_all C r k is = record {
    member = is.member;
    some = is.some;
    each = λ q.
        is.each q
        ∙ ap (λ b. b && are_paths k.1 (paths_of P q)) (has-those (λ s. not (equivalent P r s)) C q)
        ∙ drop_test (has C q) (equivalent P r q) (are_paths k.1 (paths_of P q)) (λ same paths. apart q same paths);
  }
    where
      drop_test : (c e b : Bool) → (e ≡ true → b ≡ true → false ≡ true) → ((c && not e) && b) ≡ (c && b)
      drop_test true true true f = absurd (true≢false (sym (f refl refl)))
      drop_test true true false f = refl
      drop_test true false b f = refl
      drop_test false e b f = refl

      apart : (q : ℕ) → equivalent P r q ≡ true → are_paths k.1 (paths_of P q) ≡ true → false ≡ true
      apart q same paths =
          let D : Ranks = those (λ s. not (equivalent P r s)) C in
          let m : ℕ = is.member in
          let own : k.1 ≡ paths_of P m = own_paths P D k is m is.some in
          let in_D : has D m ≡ true = (and_parts (has D m) (are_paths k.1 (paths_of P m)) (sym (is.each m) ∙ is.some)).0 in
          let other : not (equivalent P r m) ≡ true = (and_parts (has C m) (not (equivalent P r m)) (sym (has-those (λ s. not (equivalent P r s)) C m) ∙ in_D)).1 in
          let e : paths_of P r ≡ paths_of P m = same_paths P r q same ∙ sym (are_paths-exact k.1 (paths_of P q) paths) ∙ own in
          sym (ap not (equivalent_by_list P r m e)) ∙ other

  classes_of_all : (C : Ranks) (r : ℕ) (ks : List Block) → AreInOrder P (those (λ s. not (equivalent P r s)) C) ks → AreInOrder P C ks
  classes_of_all C r [] are = tt
  classes_of_all C r (k ∷ ks) are = (class_of_all C r k are.0, (are.1.0, classes_of_all C r ks are.1.1))

  -- the least rank of the first block is the least rank
  block_least : (C : Ranks) (r : ℕ) (rest : List ℕ) → in_order C ≡ r ∷ rest → least (those (equivalent P r) C, paths_of P r) ≡ r
  block_least C r rest is =
      let here : has C r ≡ true = has-in_order C r ∙ ap (list_any (eq_by_cmp nat_cmp r)) is ∙ ap (λ b. b || list_any (eq_by_cmp nat_cmp r) rest) (tied_self r) in
      let k : Block = (those (equivalent P r) C, paths_of P r) in
      let own : has k.0 r ≡ true = block_has C r here in
      let low = least_low k r own in
      let high = lowest C r rest is (least k) ((and_parts (has C (least k)) (equivalent P r (least k)) (sym (has-those (equivalent P r) C (least k)) ∙ least_in k r own)).0) in
      omega (arith, low, high)
    where
      lowest : (C : Ranks) (r : ℕ) (rest : List ℕ) → in_order C ≡ r ∷ rest → (q : ℕ) → has C q ≡ true → r ≤ q
      lowest C r rest is q there = elim (or_cases (eq_by_cmp nat_cmp q r) (list_any (eq_by_cmp nat_cmp q) rest) (sym (has-in_order C q ∙ ap (list_any (eq_by_cmp nat_cmp q)) is) ∙ there)) [
        | inl same ↦ omega (arith, same_number q r same)
        | inr later ↦ omega (arith, first_below C r rest is q later)
      ]

  -- blocks whose members are members of C, and not equivalent to its least rank, are above it
  all_above : (C : Ranks) (r : ℕ) (rest : List ℕ) → in_order C ≡ r ∷ rest → (ks : List Block) → AreInOrder P (those (λ s. not (equivalent P r s)) C) ks → AllByRecursion (λ l. least (those (equivalent P r) C, paths_of P r) < least l) ks
  all_above C r rest is [] are = tt
  all_above C r rest is (k ∷ ks) are =
      let D : Ranks = those (λ s. not (equivalent P r s)) C in
      let in_k : has k.0 (least k) ≡ true = least_in k are.0.member are.0.some in
      let in_D : has D (least k) ≡ true = (and_parts (has D (least k)) (are_paths k.1 (paths_of P (least k))) (sym (are.0.each (least k)) ∙ in_k)).0 in
      let parts = and_parts (has C (least k)) (not (equivalent P r (least k))) (sym (has-those (λ s. not (equivalent P r s)) C (least k)) ∙ in_D) in
      let up : r < least k = elim (or_cases (eq_by_cmp nat_cmp (least k) r) (list_any (eq_by_cmp nat_cmp (least k)) rest) (sym (has-in_order C (least k) ∙ ap (list_any (eq_by_cmp nat_cmp (least k))) is) ∙ parts.0)) [
        | inl same ↦ absurd (true≢false (sym parts.1 ∙ ap (λ q. not (equivalent P r q)) (same_number (least k) r same) ∙ ap not (equivalent_itself P r)))
        | inr later ↦ first_below C r rest is (least k) later
      ] in
      (omega (arith, block_least C r rest is, up), all_above C r rest is ks are.1.1)

  go : (n : ℕ) (C : Ranks) → size C < n → AreClasses P C (classes_of P C)
  go zero C lt = absurd (omega (arith, lt))
  go (suc n) C lt = by_first (go n) (in_order C) refl
    where
      by_first : ((D : Ranks) → size D < n → AreClasses P D (classes_of P D)) → (xs : List ℕ) → in_order C ≡ xs → AreClasses P C (classes_of P C)
      by_first smaller [] is = subst (AreClasses P C) (sym (classes_none P C is)) (record { in_order = tt; all = λ r. sym (has-in_order C r ∙ ap (list_any (eq_by_cmp nat_cmp r)) is) })
      by_first smaller (x ∷ xs) is =
          let first : slice_get (in_order C) 0 ≡ Some x = ap (λ ys. slice_get ys 0) is in
          let left : Ranks = those (λ s. not (equivalent P x s)) C in
          let fewer : size left < size C = fewer_without (equivalent P x) C x first (equivalent_itself P x) in
          let here : has C x ≡ true = has-in_order C x ∙ ap (list_any (eq_by_cmp nat_cmp x)) is ∙ ap (λ b. b || list_any (eq_by_cmp nat_cmp x) xs) (tied_self x) in
          let rest : AreClasses P left (classes_of P left) = smaller left (omega (arith, lt, fewer)) in
          subst (AreClasses P C) (sym (next_class P C x first)) (record {
            in_order = (first_class C x here, (all_above C x xs is (classes_of P left) rest.in_order, classes_of_all C x (classes_of P left) rest.in_order));
            all = λ r. (λ i. has-those (equivalent P x) C r i || (rest.all r ∙ has-those (λ s. not (equivalent P x s)) C r) i) ∙ split (has C r) (equivalent P x r);
          })

  -- the classes are such a list
  pub classes_are : (C : Ranks) → AreClasses P C (classes_of P C)
  classes_are C = go (suc (size C)) C (omega arith)

  -- and there is no other
  pub are_classes : (C : Ranks) (ks : List Block) → AreClasses P C ks → ks ≡ classes_of P C
  are_classes C ks are = one_list P C ks (classes_of P C) are.in_order (classes_are C).in_order (λ r. are.all r ∙ sym ((classes_are C).all r))
