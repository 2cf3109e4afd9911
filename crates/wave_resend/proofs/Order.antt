-- The order of waves, and where a wave stands in an ascending list.
use Rattle.std.proofs.Common.{◌≡◌, ◌⊎◌, inl, inr, ◌<◌, ◌≤◌, ◌+◌, ◌-◌, ◌/◌, ℕ, zero, suc, Bool, true, false, cond, ◌&&◌, ◌==◌, List, [], ◌∷◌, length, get_or, refl, sym, ap, subst, ◌∙◌, arith, lt-ltb, eqb-true, eq-eqb}
use Rattle.std.specs.Prelude.{nat_lt}
use Rattle.std.proofs.lemmas.Bool.{and_parts, and_from, or_cases, or_left, or_right, ltb-true, true≢false, cases_Bool}
use Rattle.overlay_setup.specs.NodeSets.{In}
use Rattle.stat_plan.proofs.InLists.{in_at}
use Rattle.wave_resend.specs.Books.{AreAscending, IsIn, WaveAt, count_to, index_of, is_at, is_before, key_of, keys_of}

-- ---- the order

-- a wave comes before another
abbrev pub IsBefore : ℕ × ℕ → ℕ × ℕ → Type 0
IsBefore a b = (a.0 < b.0) ⊎ ((a.0 ≡ b.0) × (a.1 < b.1))

pub before_from : (a b : ℕ × ℕ) → IsBefore a b → is_before a b ≡ true
before_from a b (inl lt) = or_left (nat_lt a.0 b.0) ((a.0 == b.0) && nat_lt a.1 b.1) (lt-ltb a.0 b.0 lt)
before_from a b (inr p) = or_right (nat_lt a.0 b.0) ((a.0 == b.0) && nat_lt a.1 b.1) (and_from (a.0 == b.0) (nat_lt a.1 b.1) (eq-eqb a.0 b.0 p.0) (lt-ltb a.1 b.1 p.1))

pub before_means : (a b : ℕ × ℕ) → is_before a b ≡ true → IsBefore a b
before_means a b t = elim (or_cases (nat_lt a.0 b.0) ((a.0 == b.0) && nat_lt a.1 b.1) t) [
  | inl l ↦ inl (ltb-true a.0 b.0 l)
  | inr r ↦ let u = and_parts (a.0 == b.0) (nat_lt a.1 b.1) r in inr (eqb-true a.0 b.0 u.0, ltb-true a.1 b.1 u.1)
]

before_trans : (a b c : ℕ × ℕ) → IsBefore a b → IsBefore b c → IsBefore a c
before_trans a b c (inl l) (inl m) = inl (omega (arith, l, m))
before_trans a b c (inl l) (inr q) = let e = q.0 in inl (omega (arith, l, e))
before_trans a b c (inr p) (inl m) = let e = p.0 in inl (omega (arith, e, m))
before_trans a b c (inr p) (inr q) = let l = p.1 in let m = q.1 in inr (p.0 ∙ q.0, omega (arith, l, m))

-- no wave comes before itself
pub not_itself : (a : ℕ × ℕ) → is_before a a ≡ true → ⊥
not_itself a t = elim (before_means a a t) [ inl lt ↦ omega (arith, lt) | inr p ↦ (let lt = p.1 in omega (arith, lt)) ]

-- of three waves in order the first comes before the last
pub before_both : (a b c : ℕ × ℕ) → is_before a b ≡ true → is_before b c ≡ true → is_before a c ≡ true
before_both a b c t u = before_from a c (before_trans a b c (before_means a b t) (before_means b c u))

-- what doesn't come after a wave has nothing in front of it that does
not_before : (a d k : ℕ × ℕ) → is_before d k ≡ true → is_before a k ≡ false → is_before a d ≡ false
not_before a d k dk f = elim (cases_Bool (is_before a d)) [ inl t ↦ absurd (true≢false (sym (before_both a d k t dk) ∙ f)) | inr g ↦ g ]

-- ---- how many waves don't come after a wave

-- a wave that comes after another isn't counted
pub count_after : (a : ℕ × ℕ) (ks : List (ℕ × ℕ)) (i : ℕ) (d : ℕ × ℕ) → i < length ks → is_before a (get_or ks i d) ≡ true → count_to a ks ≤ i
count_after a [] i d lt t = absurd (omega (arith, lt))
count_after a (k ∷ ks) zero d lt t = subst (λ b. cond b zero (suc (count_to a ks)) ≤ zero) (sym t) (omega arith)
count_after a (k ∷ ks) (suc i) d lt t = go (is_before a k) (count_after a ks i d (omega (arith, lt)) t)
  where
    go : (b : Bool) → count_to a ks ≤ i → cond b zero (suc (count_to a ks)) ≤ suc i
    go true ih = omega arith
    go false ih = omega (arith, ih)

-- a wave that doesn't is counted
pub count_before : (a : ℕ × ℕ) (ks : List (ℕ × ℕ)) (i : ℕ) (d : ℕ × ℕ) → AreAscending ks → i < length ks → is_before a (get_or ks i d) ≡ false → suc i ≤ count_to a ks
count_before a [] i d asc lt f = absurd (omega (arith, lt))
count_before a (k ∷ ks) zero d asc lt f = subst (λ b. suc zero ≤ cond b zero (suc (count_to a ks))) (sym f) (omega arith)
count_before a (k ∷ ks) (suc i) d asc lt f =
    let below : i < length ks = omega (arith, lt) in
    let first : is_before a k ≡ false = not_before a k (get_or ks i d) (asc.0 (get_or ks i d) (in_at ks i d below)) f in
    let rest : suc i ≤ count_to a ks = count_before a ks i d asc.1 below f in
    subst (λ b. suc (suc i) ≤ cond b zero (suc (count_to a ks))) (sym first) (omega (arith, rest))

-- no more are counted than there are
pub count_within : (a : ℕ × ℕ) (ks : List (ℕ × ℕ)) → count_to a ks ≤ length ks
count_within a [] = omega arith
count_within a (k ∷ ks) = go (is_before a k) (count_within a ks)
  where
    go : (b : Bool) → count_to a ks ≤ length ks → cond b zero (suc (count_to a ks)) ≤ suc (length ks)
    go true ih = omega arith
    go false ih = omega (arith, ih)

-- ---- a binary search

-- the count lies between two bounds
pub record IsSearchedTo (a : ℕ × ℕ) (es : List WaveAt) (low high : ℕ) : Type 0 where
  pub above : low ≤ count_to a (keys_of es)
  pub below : count_to a (keys_of es) ≤ high
  pub in_range : high ≤ length es

pub length_keys : (es : List WaveAt) → length (keys_of es) ≡ length es
length_keys [] = refl
length_keys (e ∷ es) = ap suc (length_keys es)

key_at : (es : List WaveAt) (i : ℕ) (e : WaveAt) (d : ℕ × ℕ) → i < length es → e ≡ get_or es i e → get_or (keys_of es) i d ≡ key_of e
key_at [] i e d lt is = absurd (omega (arith, lt))
key_at (x ∷ xs) zero e d lt is = ap key_of (sym is)
key_at (x ∷ xs) (suc i) e d lt is = key_at xs i e d (omega (arith, lt)) is

pub search_begin : (a : ℕ × ℕ) (es : List WaveAt) → IsSearchedTo a es 0 (length es)
search_begin a es = record {
  above = omega arith;
  below = subst (λ n. count_to a (keys_of es) ≤ n) (length_keys es) (count_within a (keys_of es));
  in_range = omega arith;
}

pub search_low : (a : ℕ × ℕ) (es : List WaveAt) (low high i : ℕ) (e : WaveAt) → IsSearchedTo a es low high → i < high → e ≡ get_or es i e → is_before a (key_of e) ≡ true → IsSearchedTo a es low i
search_low a es low high i e h lt is t =
    let within : i < length es = (let r = h.in_range in omega (arith, r, lt)) in
    record {
      above = h.above;
      below = count_after a (keys_of es) i (0, 0) (subst (λ n. i < n) (sym (length_keys es)) within) (ap (is_before a) (key_at es i e (0, 0) within is) ∙ t);
      in_range = omega (arith, within);
    }

pub search_high : (a : ℕ × ℕ) (es : List WaveAt) (low high i : ℕ) (e : WaveAt) → AreAscending (keys_of es) → IsSearchedTo a es low high → i < high → e ≡ get_or es i e → is_before a (key_of e) ≡ false → IsSearchedTo a es (i + 1) high
search_high a es low high i e asc h lt is f =
    let within : i < length es = (let r = h.in_range in omega (arith, r, lt)) in
    let next : suc i ≤ count_to a (keys_of es) = count_before a (keys_of es) i (0, 0) asc (subst (λ n. i < n) (sym (length_keys es)) within) (ap (is_before a) (key_at es i e (0, 0) within is) ∙ f) in
    record {
      above = omega (arith, next);
      below = h.below;
      in_range = h.in_range;
    }

-- halfway between two bounds
pub halfway : (low high : ℕ) → low < high → low + (high - low) / 2 < high
halfway low high lt = omega (arith, lt)

-- ---- the index of a wave

pub index_in_range : (s w : ℕ) (es : List WaveAt) → IsIn s w es → index_of s w es < length es
index_in_range s w [] i = absurd i
index_in_range s w (e ∷ es) i = go (is_at s w e) refl (λ j. index_in_range s w es j) i
  where
    go : (c : Bool) → is_at s w e ≡ c → (IsIn s w es → index_of s w es < length es) → IsIn s w (e ∷ es) → cond c zero (suc (index_of s w es)) < length (e ∷ es)
    go true ec ih j = omega arith
    go false ec ih (inl k) = absurd (true≢false (sym (and_from (e.stream == s) (e.wave == w) (eq-eqb e.stream s (ap (λ (v : ℕ × ℕ). v.0) (sym k))) (eq-eqb e.wave w (ap (λ (v : ℕ × ℕ). v.1) (sym k)))) ∙ ec))
    go false ec ih (inr j) = let q = ih j in omega (arith, q)

-- it is this wave only if the key is the same
pub same_key : (s w : ℕ) (e : WaveAt) → is_at s w e ≡ true → ◌≡◌ {A = ℕ × ℕ} (key_of e) (s, w)
same_key s w e t = let u = and_parts (e.stream == s) (e.wave == w) t in λ i. (eqb-true e.stream s u.0 i, eqb-true e.wave w u.1 i)

key_same : (s w : ℕ) (e : WaveAt) → ◌≡◌ {A = ℕ × ℕ} (s, w) (key_of e) → is_at s w e ≡ true
key_same s w e k = and_from (e.stream == s) (e.wave == w) (eq-eqb e.stream s (ap (λ (v : ℕ × ℕ). v.0) (sym k))) (eq-eqb e.wave w (ap (λ (v : ℕ × ℕ). v.1) (sym k)))

-- nothing is counted where each wave comes after
count_none : (a : ℕ × ℕ) (ks : List (ℕ × ℕ)) → ((l : ℕ × ℕ) → In l ks → is_before a l ≡ true) → count_to a ks ≡ zero
count_none a [] h = refl
count_none a (k ∷ ks) h = ap (λ b. cond b zero (suc (count_to a ks))) (h k (inl refl))

-- what isn't true is false
pub is_not : (b : Bool) → (b ≡ true → ⊥) → b ≡ false
is_not true h = absurd (h refl)
is_not false h = refl

-- in an ascending list, a wave is the last of those that don't come after it
pub count_index : (s w : ℕ) (es : List WaveAt) → AreAscending (keys_of es) → IsIn s w es → count_to (s, w) (keys_of es) ≡ suc (index_of s w es)
count_index s w [] asc i = absurd i
count_index s w (e ∷ es) asc (inl k) =
    let itself : is_before (s, w) (key_of e) ≡ false = subst (λ (v : ℕ × ℕ). is_before (s, w) v ≡ false) k (is_not (is_before (s, w) (s, w)) (not_itself (s, w))) in
    ap (λ b. cond b zero (suc (count_to (s, w) (keys_of es)))) itself
    ∙ ap suc (count_none (s, w) (keys_of es) (subst (λ (v : ℕ × ℕ). (l : ℕ × ℕ) → In l (keys_of es) → is_before v l ≡ true) (sym k) asc.0))
    ∙ ap suc (sym (ap (λ b. cond b zero (suc (index_of s w es))) (key_same s w e k)))
count_index s w (e ∷ es) asc (inr j) =
    let first : is_before (key_of e) (s, w) ≡ true = asc.0 (s, w) j in
    let other : is_at s w e ≡ false = is_not (is_at s w e) (λ t. not_itself (s, w) (subst (λ (v : ℕ × ℕ). is_before v (s, w) ≡ true) (same_key s w e t) first)) in
    let behind : is_before (s, w) (key_of e) ≡ false = is_not (is_before (s, w) (key_of e)) (λ t. not_itself (s, w) (before_both (s, w) (key_of e) (s, w) t first)) in
    ap (λ b. cond b zero (suc (count_to (s, w) (keys_of es)))) behind
    ∙ ap suc (count_index s w es asc.1 j)
    ∙ ap suc (sym (ap (λ b. cond b zero (suc (index_of s w es))) other))
