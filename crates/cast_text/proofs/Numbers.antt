-- Whether a node obeyed a command, by how many it obeyed.
use Rattle.std.proofs.Common.{◌≡◌, ◌≢◌, ◌∙◌, ◌<◌, ◌≤◌, ◌+◌, ℕ, zero, suc, Bool, true, false, ◌==◌, ◌||◌, cond, filter, List, [], ◌∷◌, ◌++◌, length, take, get_or, refl, sym, ap, inl, inr, eqb-true, arith}
use Rattle.std.specs.List.{list_any}
use Rattle.std.proofs.lemmas.Bool.{cases_Bool, cases_lt, eqb-false, or_left, or_right, true≢false}
use Rattle.std.proofs.lemmas.List.{append-nil, take_more}
use Rattle.std.proofs.lemmas.List.Elements.{filter-append}
use Rattle.overlay_setup.specs.NodeSets.{In, member}
use Rattle.control_cast.specs.Machine.{numbers_after}
use Rattle.control_cast.proofs.CastNodes.{length_numbers}

-- a number among those after k
in_numbers : (k r i : ℕ) → k < i → i ≤ k + r → member i (numbers_after k r) ≡ true
in_numbers k zero i above le = absurd (omega (arith, above, le))
in_numbers k (suc r) i above le = elim (cases_Bool (i == suc k)) [
  | inl t ↦ or_left (i == suc k) (member i (numbers_after (suc k) r)) t
  | inr f ↦
      let ne : i ≢ suc k = eqb-false i (suc k) f in
      or_right (i == suc k) (member i (numbers_after (suc k) r)) (in_numbers (suc k) r i (omega arith) (omega arith))
]

-- a number past them
not_in_numbers : (k r i : ℕ) → k + r < i → member i (numbers_after k r) ≡ false
not_in_numbers k zero i past = refl
not_in_numbers k (suc r) i past = elim (cases_Bool (i == suc k)) [
  | inl t ↦ let e : i ≡ suc k = eqb-true i (suc k) t in absurd (omega arith)
  | inr f ↦ (λ j. f j || not_in_numbers (suc k) r i (omega arith) j)
]

-- the list of what a node obeyed is that of the first commands
pub has_it : (l : List ℕ) (s i : ℕ) → l ≡ numbers_after 0 s → 1 ≤ i → i ≤ length l → member i l ≡ true
has_it l s i is some le =
    let len : length l ≡ s = ap length is ∙ length_numbers 0 s in
    ap (member i) is ∙ in_numbers 0 s i (omega arith) (omega arith)

pub has_not : (l : List ℕ) (s i : ℕ) → l ≡ numbers_after 0 s → length l < i → member i l ≡ false
has_not l s i is lt =
    let len : length l ≡ s = ap length is ∙ length_numbers 0 s in
    ap (member i) is ∙ not_in_numbers 0 s i (omega arith)

-- who didn't stop after a command has obeyed it exactly if it has obeyed the next one
pub same_next : (l : List ℕ) (s i : ℕ) → l ≡ numbers_after 0 s → 1 ≤ i → (length l == i) ≡ false → member (i + 1) l ≡ member i l
same_next l s i is some f =
    let ne : length l ≢ i = eqb-false (length l) i f in
    elim (cases_lt (length l) i) [
      | inl lt ↦ has_not l s (i + 1) is (omega arith) ∙ sym (has_not l s i is lt)
      | inr le ↦ has_it l s (i + 1) is (omega arith) (omega arith) ∙ sym (has_it l s i is some le)
    ]

-- tests that agree on a list keep the same of it
pub filter_agree : (f g : ℕ → Bool) (xs : List ℕ) → ((x : ℕ) → In x xs → f x ≡ g x) → filter f xs ≡ filter g xs
filter_agree f g [] h = refl
filter_agree f g (x ∷ xs) h = ap (λ (b : Bool). cond b (x ∷ filter f xs) (filter f xs)) (h x (inl refl)) ∙ ap (λ (ys : List ℕ). cond (g x) (x ∷ ys) ys) (filter_agree f g xs (λ y i. h y (inr i)))

-- no item of a list passes a test
pub none_passes : (f : ℕ → Bool) (xs : List ℕ) → list_any f xs ≡ false → (x : ℕ) → In x xs → f x ≡ false
none_passes f [] e x i = absurd i
none_passes f (y ∷ ys) e x (inl k) = ap f k ∙ (or_none (f y) (list_any f ys) e).0
  where
    or_none : (a b : Bool) → (a || b) ≡ false → (a ≡ false) × (b ≡ false)
    or_none true b h = absurd (true≢false h)
    or_none false b h = (refl, h)
none_passes f (y ∷ ys) e x (inr i) = none_passes f ys (or_none (f y) (list_any f ys) e) x i
  where
    or_none : (a b : Bool) → (a || b) ≡ false → b ≡ false
    or_none true b h = absurd (true≢false h)
    or_none false b h = h

-- one item more of a list, kept or not
pub filter_kept : (f : ℕ → Bool) (xs : List ℕ) (k : ℕ) (x : ℕ) → k < length xs → x ≡ get_or xs k 0 → f x ≡ true → filter f (take (k + 1) xs) ≡ filter f (take k xs) ++ x ∷ []
filter_kept f xs k x lt is t =
    ap (filter f) (take_more xs k 0 lt ∙ ap (λ y. take k xs ++ y ∷ []) (sym is)) ∙ filter-append f (take k xs) (x ∷ [])
    ∙ ap (λ b. filter f (take k xs) ++ cond b (x ∷ []) []) t

pub filter_left : (f : ℕ → Bool) (xs : List ℕ) (k : ℕ) (x : ℕ) → k < length xs → x ≡ get_or xs k 0 → f x ≡ false → filter f (take (k + 1) xs) ≡ filter f (take k xs)
filter_left f xs k x lt is t =
    ap (filter f) (take_more xs k 0 lt ∙ ap (λ y. take k xs ++ y ∷ []) (sym is)) ∙ filter-append f (take k xs) (x ∷ [])
    ∙ ap (λ b. filter f (take k xs) ++ cond b (x ∷ []) []) t ∙ append-nil (filter f (take k xs))
