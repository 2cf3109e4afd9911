-- What is found among the waves of a book.
use Rattle.std.proofs.Common.{◌≡◌, ◌<◌, ◌≤◌, ◌+◌, ℕ, zero, suc, Bool, true, false, cond, ◌||◌, ◌&&◌, ◌==◌, List, [], ◌∷◌, length, get_or, drop, find, Option, Some, None, option_map, refl, sym, ap, subst, ◌∙◌, add-one, drop-cons, inl, inr, eq-eqb, IfNone, IfSome, arith, take, length-drop, ◌-◌}
use Rattle.std.specs.List.{list_any}
use Rattle.std.proofs.lemmas.List.{take_all}
use Rattle.std.proofs.lemmas.Bool.{and_parts, and_from, cases_Bool}
use Rattle.overlay_setup.specs.NodeSets.{In}
use Rattle.stat_plan.specs.Machine.Waves.{is_open, is_running, is_empty_open}
use Rattle.wave_resend.specs.Books.{AreAscending, HasOpen, IsIn, WaveAt, book_of, count_to, is_after, is_at, is_before, key_of, keys_of, next_empty, next_open}
use Rattle.wave_resend.proofs.Order.{before_both, count_within, is_not, length_keys, not_itself, same_key}

-- ---- the first that passes a test

-- from an index on, a list has the item at that index and the rest
pub drop_read : {A : Type 0} (xs : List A) (i : ℕ) (x : A) → i < length xs → x ≡ get_or xs i x → drop i xs ≡ x ∷ drop (i + 1) xs
drop_read xs i x lt is = drop-cons xs i x lt ∙ (λ j. sym is j ∷ drop (sym (add-one i) j) xs)

-- what fails the test is skipped
pub find_step : (test : WaveAt → Bool) (es : List WaveAt) (i : ℕ) (e : WaveAt) → i < length es → e ≡ get_or es i e → test e ≡ false → find test (drop i es) ≡ find test es → find test (drop (i + 1) es) ≡ find test es
find_step test es i e lt is f left =
    sym (ap (λ b. cond b (Some e) (find test (drop (i + 1) es))) f) ∙ sym (ap (λ (l : List WaveAt). find test l) (drop_read es i e lt is)) ∙ left

-- the first that passes is found
pub find_here : (test : WaveAt → Bool) (es : List WaveAt) (i : ℕ) (e : WaveAt) → i < length es → e ≡ get_or es i e → test e ≡ true → find test (drop i es) ≡ find test es → find test es ≡ Some e
find_here test es i e lt is t left =
    sym left ∙ ap (λ (l : List WaveAt). find test l) (drop_read es i e lt is) ∙ ap (λ b. cond b (Some e) (find test (drop (i + 1) es))) t

-- what is found is in the list, and passes
pub find_passes : {X : Type 0} (test : X → Bool) (xs : List X) (o : Option X) → o ≡ find test xs → IfSome o (λ x. In x xs × (test x ≡ true))
find_passes {X} test xs o is = subst (λ (u : Option X). IfSome u (λ x. In x xs × (test x ≡ true))) (sym is) (go xs)
  where
    go : (xs : List X) → IfSome (find test xs) (λ x. In x xs × (test x ≡ true))
    go [] = tt
    go (x ∷ xs) = by (test x) refl (find test xs) (go xs)
      where
        by : (b : Bool) → test x ≡ b → (u : Option X) → IfSome u (λ y. In y xs × (test y ≡ true)) → IfSome (cond b (Some x) u) (λ y. In y (x ∷ xs) × (test y ≡ true))
        by true e u h = (inl refl, e)
        by false e None h = tt
        by false e (Some y) h = (inr h.0, h.1)

-- where nothing is found, nothing passes
find_none : {X : Type 0} (test : X → Bool) (xs : List X) → find test xs ≡ None → (x : X) → In x xs → test x ≡ false
find_none test [] e x i = absurd i
find_none {X} test (y ∷ ys) e x i = by (test y) refl (find_none test ys) e i
  where
    by : (b : Bool) → test y ≡ b → (find test ys ≡ None → (x : X) → In x ys → test x ≡ false) → cond b (Some y) (find test ys) ≡ None → In x (y ∷ ys) → test x ≡ false
    by true t ih e i = absurd (cc)
    by false t ih e (inl k) = ap test k ∙ t
    by false t ih e (inr j) = ih e x j

-- tests that agree on a list find the same there
find_same : (f g : WaveAt → Bool) (es : List WaveAt) → ((e : WaveAt) → In e es → f e ≡ g e) → find f es ≡ find g es
find_same f g [] h = refl
find_same f g (e ∷ es) h = λ i. cond (h e (inl refl) i) (Some e) (find_same f g es (λ d j. h d (inr j)) i)

-- the first key that passes is that of the first wave that does
find_keys : (f : ℕ × ℕ → Bool) (g : WaveAt → Bool) (es : List WaveAt) → ((e : WaveAt) → In e es → f (key_of e) ≡ g e) → find f (keys_of es) ≡ option_map key_of (find g es)
find_keys f g [] h = refl
find_keys f g (e ∷ es) h = go (f (key_of e)) (g e) (h e (inl refl)) (find_keys f g es (λ d i. h d (inr i)))
  where
    go : (a b : Bool) → a ≡ b → find f (keys_of es) ≡ option_map key_of (find g es) → cond a (Some (key_of e)) (find f (keys_of es)) ≡ option_map key_of (cond b (Some e) (find g es))
    go true b k ih = ap (λ c. option_map key_of (cond c (Some e) (find g es))) k
    go false b k ih = ih ∙ ap (λ c. option_map key_of (cond c (Some e) (find g es))) k

-- some key passes where some wave does
any_keys : (f : ℕ × ℕ → Bool) (g : WaveAt → Bool) (es : List WaveAt) → ((e : WaveAt) → In e es → f (key_of e) ≡ g e) → list_any f (keys_of es) ≡ list_any g es
any_keys f g [] h = refl
any_keys f g (e ∷ es) h = λ i. h e (inl refl) i || any_keys f g es (λ d j. h d (inr j)) i

-- ---- ascending waves

key_in : (es : List WaveAt) (e : WaveAt) → In e es → In {X = ℕ × ℕ} (key_of e) (keys_of es)
key_in [] e i = absurd i
key_in (d ∷ ds) e (inl k) = inl (ap key_of k)
key_in (d ∷ ds) e (inr i) = inr (key_in ds e i)

at_own : (e : WaveAt) → is_at e.stream e.wave e ≡ true
at_own e = and_from (e.stream == e.stream) (e.wave == e.wave) (eq-eqb e.stream e.stream refl) (eq-eqb e.wave e.wave refl)

at_other : (d e : WaveAt) → is_before (key_of d) (key_of e) ≡ true → is_at e.stream e.wave d ≡ false
at_other d e before = elim (cases_Bool (is_at e.stream e.wave d)) [
  | inl t ↦ absurd (not_itself (key_of e) (subst (λ (v : ℕ × ℕ). is_before v (key_of e) ≡ true) (same_key e.stream e.wave d t) before))
  | inr f ↦ f
]

-- the book has the state of each wave of an ascending list
pub book_own : (es : List WaveAt) → AreAscending (keys_of es) → (e : WaveAt) → In e es → book_of es e.stream e.wave ≡ e.state
book_own [] h e i = absurd i
book_own (d ∷ ds) h e (inl k) = subst (λ (y : WaveAt). book_of (d ∷ ds) y.stream y.wave ≡ y.state) (sym k) (ap (λ b. cond b d.state (book_of ds d.stream d.wave)) (at_own d))
book_own (d ∷ ds) h e (inr i) = ap (λ b. cond b d.state (book_of ds e.stream e.wave)) (at_other d e (h.0 (key_of e) (key_in ds e i))) ∙ book_own ds h.1 e i

-- whether a timer runs
pub running_book : (es : List WaveAt) → AreAscending (keys_of es) → list_any (λ (e : WaveAt). is_running e.state) es ≡ list_any (λ (k : ℕ × ℕ). is_running (book_of es k.0 k.1)) (keys_of es)
running_book es h = sym (any_keys (λ k. is_running (book_of es k.0 k.1)) (λ e. is_running e.state) es (λ e i. ap is_running (book_own es h e i)))

-- the first empty wave of a stream
pub empty_book : (es : List WaveAt) (s : ℕ) → AreAscending (keys_of es) → option_map (λ (e : WaveAt). e.wave) (find (λ (e : WaveAt). (e.stream == s) && is_empty_open e.state) es) ≡ next_empty s (keys_of es) (book_of es)
empty_book es s h =
    second (find (λ (e : WaveAt). (e.stream == s) && is_empty_open e.state) es)
    ∙ ap (option_map (λ (k : ℕ × ℕ). k.1)) (sym (find_keys (λ k. (k.0 == s) && is_empty_open (book_of es k.0 k.1)) (λ e. (e.stream == s) && is_empty_open e.state) es (λ e i. ap (λ v. (e.stream == s) && is_empty_open v) (book_own es h e i))))
  where
    second : (o : Option WaveAt) → option_map (λ (e : WaveAt). e.wave) o ≡ option_map (λ (k : ℕ × ℕ). k.1) (option_map key_of o)
    second None = refl
    second (Some e) = refl

-- ---- the waves behind another

-- the first that passes among the waves behind another is the first of those that are not counted
behind : (a : ℕ × ℕ) (test : WaveAt → Bool) (es : List WaveAt) → AreAscending (keys_of es) → find (λ (e : WaveAt). is_before a (key_of e) && test e) es ≡ find test (drop (count_to a (keys_of es)) es)
behind a test [] h = refl
behind a test (e ∷ es) h = go (is_before a (key_of e)) refl (behind a test es h.1)
  where
    go : (c : Bool) → is_before a (key_of e) ≡ c → find (λ (d : WaveAt). is_before a (key_of d) && test d) es ≡ find test (drop (count_to a (keys_of es)) es)
        → cond (c && test e) (Some e) (find (λ (d : WaveAt). is_before a (key_of d) && test d) es) ≡ find test (drop (cond c zero (suc (count_to a (keys_of es)))) (e ∷ es))
    go false k ih = ih
    go true k ih = ap (cond (test e) (Some e)) (find_same (λ d. is_before a (key_of d) && test d) test es (λ d i. ap (λ b. b && test d) (both d i)))
      where
        both : (d : WaveAt) → In d es → is_before a (key_of d) ≡ true
        both d i = before_all d (h.0 (key_of d) (key_in es d i)) k
          where
            before_all : (d : WaveAt) → is_before (key_of e) (key_of d) ≡ true → is_before a (key_of e) ≡ true → is_before a (key_of d) ≡ true
            before_all d u t = before_both a (key_of e) (key_of d) t u

-- where the search for the next open wave begins
abbrev pub start_of : Option (ℕ × ℕ) → List WaveAt → ℕ
start_of None es = zero
start_of (Some a) es = count_to a (keys_of es)

-- the next open wave
pub open_book : (after : Option (ℕ × ℕ)) (es : List WaveAt) → AreAscending (keys_of es) → option_map key_of (find (λ (e : WaveAt). is_open e.state) (drop (start_of after es) es)) ≡ next_open after (keys_of es) (book_of es)
open_book after es h = ap (option_map key_of) (sym (from after)) ∙ sym (find_keys (λ k. is_after after k && is_open (book_of es k.0 k.1)) (λ e. is_after after (key_of e) && is_open e.state) es (λ e i. ap (λ v. is_after after (key_of e) && is_open v) (book_own es h e i)))
  where
    from : (after : Option (ℕ × ℕ)) → find (λ (e : WaveAt). is_after after (key_of e) && is_open e.state) es ≡ find (λ (e : WaveAt). is_open e.state) (drop (start_of after es) es)
    from None = refl
    from (Some a) = behind a (λ e. is_open e.state) es h

-- from an index on, all that is left
take_rest : (es : List WaveAt) (i : ℕ) → take (length es - i) (drop i es) ≡ drop i es
take_rest es i = take_all (length es - i) (drop i es) (let l = length-drop i es in omega (arith, l))

-- what is found from the start of the search on, where the list is known under three names
pub next_in : (after : Option (ℕ × ℕ)) (old slice es : List WaveAt) (start : ℕ) (o : Option (ℕ × ℕ)) → slice ≡ es → es ≡ old → AreAscending (keys_of es) → start ≡ start_of after es
    → o ≡ option_map key_of (find (λ (e : WaveAt). is_open e.state) (take (length slice - start) (drop start slice))) → o ≡ next_open after (keys_of old) (book_of old)
next_in after old slice es start o same is asc begin found =
    found
    ∙ ap (λ l. option_map key_of (find (λ (e : WaveAt). is_open e.state) l)) (take_rest slice start ∙ (λ j. drop (begin j) (same j)))
    ∙ open_book after es asc
    ∙ ap (λ l. next_open after (keys_of l) (book_of l)) is

-- what the next open wave is: in the list, open, and behind the other; where there is none, none behind the other is open
pub record IsNext (after : Option (ℕ × ℕ)) (es : List WaveAt) (o : Option (ℕ × ℕ)) : Type 0 where
  pub open_wave : IfSome o (λ k. HasOpen k.0 k.1 es)
  pub behind : IfSome o (λ k. is_after after k ≡ true)
  pub none : IfNone o ((s w : ℕ) → IsIn s w es → is_after after (s, w) ≡ true → is_open (book_of es s w) ≡ false)

pub is_next : (after : Option (ℕ × ℕ)) (es : List WaveAt) (o : Option (ℕ × ℕ)) → o ≡ next_open after (keys_of es) (book_of es) → IsNext after es o
is_next after es o is = go o (find_passes test (keys_of es) o is) is
  where
    test : ℕ × ℕ → Bool
    test k = is_after after k && is_open (book_of es k.0 k.1)

    go : (o : Option (ℕ × ℕ)) → IfSome o (λ k. In k (keys_of es) × (test k ≡ true)) → o ≡ find test (keys_of es) → IsNext after es o
    go None h is = record {
      open_wave = tt;
      behind = tt;
      none = λ s w i t. sym (ap (λ b. b && is_open (book_of es s w)) t) ∙ find_none test (keys_of es) (sym is) (s, w) i;
    }
    go (Some k) h is = let u = and_parts (is_after after k) (is_open (book_of es k.0 k.1)) h.1 in record { open_wave = (h.0, u.1); behind = u.0; none = tt }

-- ---- how far a walk along the open waves has come

counted : (k : ℕ × ℕ) (ks : List (ℕ × ℕ)) → AreAscending ks → In k ks → zero < count_to k ks
counted k [] asc i = absurd i
counted k (x ∷ xs) asc (inl e) = subst (λ v. zero < count_to k (v ∷ xs)) e (subst (λ b. zero < cond b zero (suc (count_to k xs))) (sym (is_not (is_before k k) (not_itself k))) (omega arith))
counted k (x ∷ xs) asc (inr i) = subst (λ b. zero < cond b zero (suc (count_to k xs))) (sym (is_not (is_before k x) (λ t. not_itself k (before_both k x k t (asc.0 k i))))) (omega arith)

count_more : (a k : ℕ × ℕ) (ks : List (ℕ × ℕ)) → AreAscending ks → In k ks → is_before a k ≡ true → count_to a ks < count_to k ks
count_more a k [] asc i t = absurd i
count_more a k (x ∷ xs) asc (inl e) t =
    subst (λ b. cond b zero (suc (count_to a xs)) < count_to k (x ∷ xs)) (sym (subst (λ v. is_before a v ≡ true) e t)) (counted k (x ∷ xs) asc (inl e))
count_more a k (x ∷ xs) asc (inr i) t =
    let first : is_before k x ≡ false = is_not (is_before k x) (λ u. not_itself k (before_both k x k u (asc.0 k i))) in
    subst (λ c. cond (is_before a x) zero (suc (count_to a xs)) < cond c zero (suc (count_to k xs))) (sym first) (by (is_before a x) (count_more a k xs asc.1 i t))
  where
    by : (b : Bool) → count_to a xs < count_to k xs → cond b zero (suc (count_to a xs)) < suc (count_to k xs)
    by true ih = omega arith
    by false ih = omega (arith, ih)

-- with each open wave a walk comes further
pub walk_goes_on : (after : Option (ℕ × ℕ)) (es : List WaveAt) (k : ℕ × ℕ) → AreAscending (keys_of es) → IsIn k.0 k.1 es → is_after after k ≡ true → start_of after es < start_of (Some k) es
walk_goes_on None es k asc i t = counted k (keys_of es) asc i
walk_goes_on (Some a) es k asc i t = count_more a k (keys_of es) asc i t

-- and it has at most all waves behind it
pub walk_within : (after : Option (ℕ × ℕ)) (es : List WaveAt) → start_of after es ≤ length es
walk_within None es = omega arith
walk_within (Some a) es = subst (λ n. count_to a (keys_of es) ≤ n) (length_keys es) (count_within a (keys_of es))
