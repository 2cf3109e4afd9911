-- What pairs say of a prefix.
use Rattle.std.proofs.Common.{◌≡◌, ℕ, Bool, true, false, ◌&&◌, ◌||◌, List, [], ◌∷◌, ◌++◌, map, refl, sym, ap, ◌∙◌, eqb, inl, inr, arith}
use Rattle.std.specs.List.{list_any, flat_map}
use Rattle.std.specs.Ordering.{eq_by_cmp, nat_cmp}
use Rattle.std.specs.Cmp.{unsigned_tied}
use Rattle.std.specs.Cmp.Lexicographic.{slice_cmp}
use Rattle.std.specs.FinMap as finmap
use Rattle.std.proofs.lemmas.Bool.{true≢false, or_cases, and_parts, or_left, or_right}
use Rattle.std.proofs.lemmas.List.Folds.{list_any-append}
use Rattle.call_path.proofs.PathLemmas.{and_false, root_or_below, is_path-cons, is_path-exact, is_path-itself}
use Rattle.rank_set.specs.Ranks.{Ranks, none, has, in_order, has-in_order, has-none, is_empty, none_from_size}
use Rattle.call_path.specs.Path.{Path, is_path, is_prefix}
use Rattle.call_path.specs.Pairs.{Pairs, pairs_at, is_pair, passes, is_below}
use Rattle.prefix_tree.specs.Pairs.{IsWithin}
use Rattle.prefix_tree.specs.Tree.{Marks, Tree, pairs_of}
use Rattle.prefix_tree.specs.Joined.{in_rows, seen, labelled, ended, path_rows, below_frame, last_marks, AreRowsOf}
use Rattle.prefix_tree.proofs.Rows.{in_rows-entries}

-- a rank passes a prefix in either of two lists of pairs
pub passes-append : (P Q : Pairs) (r : ℕ) (p : Path) → passes (P ++ Q) r p ≡ (passes P r p || passes Q r p)
passes-append P Q r p = list_any-append _ P Q

-- a pair is in either of two lists
pub is_pair-append : (P Q : Pairs) (r : ℕ) (p : Path) → is_pair (P ++ Q) r p ≡ (is_pair P r p || is_pair Q r p)
is_pair-append P Q r p = list_any-append _ P Q

factored : (a b c : Bool) → (a && c || (b && c)) ≡ ((a || b) && c)
factored true true true = refl
factored true true false = refl
factored true false true = refl
factored true false false = refl
factored false b c = refl

-- pairs of one path, under any test of the path
any-pairs_at : (test : Path → Bool) (rs : List ℕ) (q : Path) (r : ℕ) → list_any (λ e. eqb e.0 r && test e.1) (pairs_at rs q) ≡ (list_any (λ x. eqb x r) rs && test q)
any-pairs_at test [] q r = refl
any-pairs_at test (x ∷ rs) q r = ap (λ b. (eqb x r && test q) || b) (any-pairs_at test rs q r) ∙ factored (eqb x r) (list_any (λ x. eqb x r) rs) (test q)

any_flipped : (rs : List ℕ) (r : ℕ) → list_any (λ x. eqb x r) rs ≡ list_any (eq_by_cmp nat_cmp r) rs
any_flipped [] r = refl
any_flipped (x ∷ rs) r = λ i. (Rattle.std.specs.Cmp.nat_eq_equiv.symm x r ∙ sym (unsigned_tied r x)) i || any_flipped rs r i

-- no ranks give no pairs
pub no_pairs : (ends : Ranks) (p : Path) → is_empty ends ≡ true → pairs_at (in_order ends) p ≡ []
no_pairs ends p h = ap (λ s. pairs_at (in_order s) p) (let e : ends ≡ none = none_from_size ends (grind (arith, h)) in e)

-- the same for the ranks of a set
pub any-pairs_of_set : (test : Path → Bool) (C : Ranks) (q : Path) (r : ℕ) → list_any (λ e. eqb e.0 r && test e.1) (pairs_at (in_order C) q) ≡ (has C r && test q)
any-pairs_of_set test C q r = any-pairs_at test (in_order C) q r ∙ ap (λ b. b && test q) (any_flipped (in_order C) r ∙ sym (has-in_order C r))

-- a rank passes the prefixes of its paths, and no other
is_prefix-same : (p q s : Path) → p ≡ q → is_prefix s p ≡ true → is_prefix s q ≡ true
is_prefix-same p q s e h = ap (is_prefix s) (sym e) ∙ h

-- a rank passes each prefix of its path
pub passes-from_pair : (P : Pairs) (r : ℕ) (p q : Path) → is_pair P r q ≡ true → is_prefix p q ≡ true → passes P r p ≡ true
passes-from_pair [] r p q one pre = one
passes-from_pair (e ∷ P) r p q one pre = elim (or_cases (eqb e.0 r && is_path q e.1) (is_pair P r q) one) [
  | inl here ↦
      let parts = and_parts (eqb e.0 r) (is_path q e.1) here in
      or_left (eqb e.0 r && is_prefix p e.1) (passes P r p) ((λ i. parts.0 i && is_prefix p e.1) ∙ is_prefix-same q e.1 p (is_path-exact q e.1 parts.1) pre)
  | inr there ↦ or_right (eqb e.0 r && is_prefix p e.1) (passes P r p) (passes-from_pair P r p q there pre)
]

-- a path of the rank that starts with p
pub record HasPair (P : Pairs) (r : ℕ) (p : Path) : Type 0 where
  pub path : Path
  pub seen_in : is_pair P r path ≡ true
  pub starts : is_prefix p path ≡ true

-- a rank that passes p has a path that starts with p
pub pair_from_passes : (P : Pairs) (r : ℕ) (p : Path) → passes P r p ≡ true → HasPair P r p
pair_from_passes [] r p one = absurd (true≢false (sym one))
pair_from_passes (e ∷ P) r p one = elim (or_cases (eqb e.0 r && is_prefix p e.1) (passes P r p) one) [
  | inl here ↦
      let parts = and_parts (eqb e.0 r) (is_prefix p e.1) here in
      record { path = e.1; seen_in = or_left (eqb e.0 r && is_path e.1 e.1) (is_pair P r e.1) ((λ i. parts.0 i && is_path e.1 e.1) ∙ is_path-itself e.1); starts = parts.1 }
  | inr there ↦
      let rest = pair_from_passes P r p there in
      record { path = rest.path; seen_in = or_right (eqb e.0 r && is_path rest.path e.1) (is_pair P r rest.path) rest.seen_in; starts = rest.starts }
]

-- ranks that pass are ranks of the pairs
pub passes_within : (P : Pairs) (C : Ranks) → IsWithin P C → (r : ℕ) (p : Path) → passes P r p ≡ true → has C r ≡ true
passes_within P C within r p one = let pair = pair_from_passes P r p one in within r pair.path pair.seen_in

-- the pairs that the ends give back
pub any-flat_map : {A B : Type 0} (test : B → Bool) (f : A → List B) (xs : List A) → list_any test (flat_map f xs) ≡ list_any (λ x. list_any test (f x)) xs
any-flat_map test f [] = refl
any-flat_map test f (x ∷ xs) = list_any-append test (f x) (flat_map f xs) ∙ ap (λ b. list_any test (f x) || b) (any-flat_map test f xs)

-- tests that agree find alike
pub any_alike : {A : Type 0} (f g : A → Bool) → ((x : A) → f x ≡ g x) → (xs : List A) → list_any f xs ≡ list_any g xs
any_alike f g same [] = refl
any_alike f g same (x ∷ xs) = λ i. same x i || any_alike f g same xs i

pub and_swap : (a b : Bool) → (a && b) ≡ (b && a)
and_swap true true = refl
and_swap true false = refl
and_swap false true = refl
and_swap false false = refl

-- the pairs of a tree are what its ends say
pub is_pair-pairs_of : (t : Tree) (r : ℕ) (p : Path) → is_pair (pairs_of t) r p ≡ seen (ended r) t.below p
is_pair-pairs_of t r p =
    any-flat_map _ (λ e. pairs_at (in_order e.1.1) e.0) (finmap.entries t.below)
    ∙ any_alike _ (λ e. is_path p e.0 && ended r e.1) (λ e. any-pairs_of_set (is_path p) e.1.1 e.0 r ∙ and_swap (has e.1.1 r) (is_path p e.0)) (finmap.entries t.below)
    ∙ in_rows-entries (ended r) t.below p

-- rows below a frame
pub in_rows-under : (test : Marks → Bool) (f g : List ℕ) (q : Path) (es : List (Path × Marks)) → in_rows test (map (below_frame f) es) (g ∷ q) ≡ (eq_by_cmp (slice_cmp nat_cmp) g f && in_rows test es q)
in_rows-under test f g q [] = sym (and_false _)
in_rows-under test f g q (e ∷ es) =
    (λ i. (is_path-cons g f q e.0 i && test e.1) || in_rows-under test f g q es i)
    ∙ regroup (eq_by_cmp (slice_cmp nat_cmp) g f) (is_path q e.0) (test e.1) (in_rows test es q)
  where
    regroup : (a b c d : Bool) → (((a && b) && c) || (a && d)) ≡ (a && ((b && c) || d))
    regroup true b c d = refl
    regroup false b c d = refl

-- none of them is the root
pub no_root : (test : Marks → Bool) (f : List ℕ) (es : List (Path × Marks)) → in_rows test (map (below_frame f) es) [] ≡ false
no_root test f [] = refl
no_root test f (e ∷ es) = no_root test f es

last_label : (p : Path) (C : Ranks) → (last_marks p C).0 ≡ C
last_label [] C = refl
last_label (f ∷ p) C = refl

-- each rank of C passes the prefixes of the path
pub label-path_rows : (C : Ranks) (r : ℕ) (p q : Path) → in_rows (labelled r) (path_rows C p) q ≡ (is_below q && (has C r && is_prefix q p))
label-path_rows C r [] [] = refl
label-path_rows C r [] (g ∷ q) = sym (and_false (has C r))
label-path_rows C r (f ∷ p) [] = no_root (labelled r) f (path_rows C p)
label-path_rows C r (f ∷ p) (g ∷ q) =
    (λ i. (is_path-cons g f q [] i && has (last_label p C i) r) || in_rows-under (labelled r) f g q (path_rows C p) i)
    ∙ ap (λ b. ((eq_by_cmp (slice_cmp nat_cmp) g f && is_path q []) && has C r) || (eq_by_cmp (slice_cmp nat_cmp) g f && b)) (label-path_rows C r p q)
    ∙ regroup (eq_by_cmp (slice_cmp nat_cmp) g f) (is_path q []) (has C r) (is_below q) (is_prefix q p)
    ∙ ap (λ b. has C r && (eq_by_cmp (slice_cmp nat_cmp) g f && b)) (root_or_below p q)
  where
    regroup : (a x h b w : Bool) → (((a && x) && h) || (a && (b && (h && w)))) ≡ (h && (a && (x || (b && w))))
    regroup false x true b w = refl
    regroup false x false b w = refl
    regroup true true true b w = refl
    regroup true false true b w = refl
    regroup true true false true w = refl
    regroup true true false false w = refl
    regroup true false false true w = refl
    regroup true false false false w = refl

-- each rank of C ends at the path
pub end-path_rows : (C : Ranks) (r : ℕ) (p q : Path) → in_rows (ended r) (path_rows C p) q ≡ (is_below q && (has C r && is_path q p))
end-path_rows C r [] [] = refl
end-path_rows C r [] (g ∷ q) = sym (and_false (has C r))
end-path_rows C r (f ∷ p) [] = no_root (ended r) f (path_rows C p)
end-path_rows C r (f ∷ p) (g ∷ q) =
    (λ i. (is_path-cons g f q [] i && has (last_marks p C).1 r) || in_rows-under (ended r) f g q (path_rows C p) i)
    ∙ ap (λ b. ((eq_by_cmp (slice_cmp nat_cmp) g f && is_path q []) && has (last_marks p C).1 r) || (eq_by_cmp (slice_cmp nat_cmp) g f && b)) (end-path_rows C r p q)
    ∙ at_last p q (eq_by_cmp (slice_cmp nat_cmp) g f)
    ∙ ap (λ b. has C r && b) (sym (is_path-cons g f q p))
  where
    both_false : (a h : Bool) → (((a && false) && h) || (a && (true && (h && false)))) ≡ (h && (a && false))
    both_false true true = refl
    both_false true false = refl
    both_false false true = refl
    both_false false false = refl

    here : (a h : Bool) → (((a && true) && h) || (a && (false && (h && true)))) ≡ (h && (a && true))
    here true true = refl
    here true false = refl
    here false true = refl
    here false false = refl

    above : (a h : Bool) → (((a && true) && false) || (a && (false && (h && false)))) ≡ (h && (a && false))
    above true true = refl
    above true false = refl
    above false true = refl
    above false false = refl

    under : (a n h w : Bool) → n ≡ false → (((a && false) && n) || (a && (true && (h && w)))) ≡ (h && (a && w))
    under true n true w e = refl
    under true n false w e = refl
    under false n true w e = refl
    under false n false w e = refl

    at_last : (p q : Path) (a : Bool) → (((a && is_path q []) && has (last_marks p C).1 r) || (a && (is_below q && (has C r && is_path q p)))) ≡ (has C r && (a && is_path q p))
    at_last [] [] a = here a (has C r)
    at_last [] (k ∷ q) a = both_false a (has C r)
    at_last (j ∷ p) [] a = ap (λ b. ((a && true) && b) || (a && (false && (has C r && false)))) (has-none r) ∙ above a (has C r)
    at_last (j ∷ p) (k ∷ q) a = under a (has none r) (has C r) (is_path (k ∷ q) (j ∷ p)) (has-none r)

-- a row of the path has each rank of C
pub used-path_rows : (C : Ranks) (r : ℕ) → has C r ≡ true → (p q : Path) → in_rows (λ m. true) (path_rows C p) q ≡ in_rows (labelled r) (path_rows C p) q
used-path_rows C r h [] q = refl
used-path_rows C r h (f ∷ p) [] = no_root (λ m. true) f (path_rows C p) ∙ sym (no_root (labelled r) f (path_rows C p))
used-path_rows C r h (f ∷ p) (g ∷ q) =
    (λ i. (is_path (g ∷ q) (f ∷ []) && sym (ap (λ s. has s r) (last_label p C) ∙ h) i) || in_rows-under (λ m. true) f g q (path_rows C p) i)
    ∙ ap (λ b. (is_path (g ∷ q) (f ∷ []) && has (last_marks p C).0 r) || (eq_by_cmp (slice_cmp nat_cmp) g f && b)) (used-path_rows C r h p q)
    ∙ ap (λ b. (is_path (g ∷ q) (f ∷ []) && has (last_marks p C).0 r) || b) (sym (in_rows-under (labelled r) f g q (path_rows C p)))

-- ranks with one path, as rows
pub rows_of_path : (C : Ranks) (r : ℕ) → has C r ≡ true → (p : Path) → AreRowsOf (pairs_at (in_order C) p) C (path_rows C p)
rows_of_path C r0 some p = record {
  labels = λ q r. label-path_rows C r p q ∙ ap (λ b. is_below q && b) (twice (has C r) (is_prefix q p) ∙ ap (λ b. has C r && b) (sym (any-pairs_of_set (is_prefix q) C p r)));
  ends = λ q r. end-path_rows C r p q ∙ ap (λ b. is_below q && b) (twice (has C r) (is_path q p) ∙ ap (λ b. has C r && b) (sym (any-pairs_of_set (is_path q) C p r)));
  used = λ q there. (r0, sym (used-path_rows C r0 some p q) ∙ there);
}
  where
    twice : (a b : Bool) → (a && b) ≡ (a && (a && b))
    twice true b = refl
    twice false b = refl

-- the pairs of a set lie in a set that holds it
pub pairs_within : (C D : Ranks) (p : Path) → ((r : ℕ) → has C r ≡ true → has D r ≡ true) → IsWithin (pairs_at (in_order C) p) D
pairs_within C D p lies r q one = lies r ((and_parts (has C r) (is_path q p) (sym (any-pairs_of_set (is_path q) C p r) ∙ one)).0)
