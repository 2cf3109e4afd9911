-- How a book starts.
use Rattle.std.proofs.Common.{◌≡◌, inl, inr, ℕ, ◌+◌, ◌<◌, ◌≤◌, Bool, true, false, cond, List, [], ◌∷◌, ◌++◌, map, filter, length, get_or, drop, refl, sym, ap, subst, ◌∙◌, add-one}
use Rattle.std.proofs.lemmas.List.{drop_all, map-append, append_assoc}
use Rattle.std.proofs.lemmas.List.Elements.{filter-append}
use Rattle.overlay_setup.specs.NodeSets.{In, IsStrictlyIncreasing, up_to}
use Rattle.overlay_setup.specs.Scripts.{Stream}
use Rattle.stat_plan.specs.Invariants.{IsPlan}
use Rattle.stat_plan.specs.Plans.{Plan, serves, waves_at, waves_of}
use Rattle.stat_plan.specs.Machine.Waves.{Book}
use Rattle.stat_plan.proofs.Ascending.{up_to_increases}
use Rattle.stat_plan.proofs.InLists.{in_append, in_from_filter}
use Rattle.stat_plan.proofs.LookupLemmas.{stream_of_wave, wave_is_of}
use Rattle.wave_resend.specs.Books.{AreAscending, AreUntouched, WaveAt, book_of, first_waves, is_at, is_before, key_of, keys_of, untouched}
use Rattle.wave_resend.proofs.Looking.{drop_read}
use Rattle.wave_resend.proofs.Order.{before_from}

-- the waves of those streams whose number passes a test
abbrev pub passing_waves : (ℕ → Bool) → List Stream → List (ℕ × ℕ)
passing_waves test xs = filter (λ v. test v.0) (waves_of xs)

-- ---- the waves of one stream

-- a wave added at the end adds its key at the end
pub keys_push : (es new : List WaveAt) (e : WaveAt) → new ≡ es ++ e ∷ [] → keys_of new ≡ keys_of es ++ key_of e ∷ []
keys_push es new e is = ap keys_of is ∙ go es
  where
    go : (es : List WaveAt) → keys_of (es ++ e ∷ []) ≡ keys_of es ++ key_of e ∷ []
    go [] = refl
    go (d ∷ ds) = ap (λ (l : List (ℕ × ℕ)). key_of d ∷ l) (go ds)

-- untouched waves with an untouched one at the end
pub untouched_push : (es new : List WaveAt) (e : WaveAt) → new ≡ es ++ e ∷ [] → AreUntouched es → e.state ≡ untouched → AreUntouched new
untouched_push es new e is h k = subst AreUntouched (sym is) (go es h)
  where
    go : (es : List WaveAt) → AreUntouched es → AreUntouched (es ++ e ∷ [])
    go [] h = (k, tt)
    go (d ∷ ds) h = (h.0, go ds h.1)

-- the first waves of a stream with the next one are one more
pub waves_more : (s k : ℕ) (keys old : List (ℕ × ℕ)) → keys ≡ old ++ first_waves s k → keys ++ (s, k) ∷ [] ≡ old ++ first_waves s (k + 1)
waves_more s k keys old is =
    ap (λ (l : List (ℕ × ℕ)). l ++ (s, k) ∷ []) is
    ∙ append_assoc old (first_waves s k) ((s, k) ∷ [])
    ∙ ap (λ (l : List (ℕ × ℕ)). old ++ l) (sym (map-append (λ (w : ℕ). (s, w)) (up_to k) (k ∷ [])))
    ∙ ap (λ (m : ℕ). old ++ first_waves s m) (sym (add-one k))

pub append_none : (vs : List (ℕ × ℕ)) → vs ++ [] ≡ vs
append_none [] = refl
append_none (v ∷ vs) = ap (λ (l : List (ℕ × ℕ)). v ∷ l) (append_none vs)

-- ---- the waves of the streams that are served

-- where a stream passes the test, so do all its waves
filter_served : (test : ℕ → Bool) (s : ℕ) (ws : List ℕ) → test s ≡ true → filter (λ (v : ℕ × ℕ). test v.0) (map (λ w. (s, w)) ws) ≡ map (λ w. (s, w)) ws
filter_served test s [] t = refl
filter_served test s (w ∷ ws) t =
    let rest : List (ℕ × ℕ) = filter (λ (v : ℕ × ℕ). test v.0) (map (λ w. (s, w)) ws) in
    ap (λ b. cond b ((s, w) ∷ rest) rest) t ∙ ap (λ (l : List (ℕ × ℕ)). (s, w) ∷ l) (filter_served test s ws t)

-- where it fails, none of them passes
filter_unserved : (test : ℕ → Bool) (s : ℕ) (ws : List ℕ) → test s ≡ false → filter (λ (v : ℕ × ℕ). test v.0) (map (λ w. (s, w)) ws) ≡ []
filter_unserved test s [] f = refl
filter_unserved test s (w ∷ ws) f =
    let rest : List (ℕ × ℕ) = filter (λ (v : ℕ × ℕ). test v.0) (map (λ w. (s, w)) ws) in
    ap (λ b. cond b ((s, w) ∷ rest) rest) f ∙ filter_unserved test s ws f

-- what passes from a stream on is what passes of it and what passes after it
waves_from : (test : ℕ → Bool) (xs : List Stream) (i : ℕ) (x : Stream) → i < length xs → x ≡ get_or xs i x → passing_waves test (drop i xs) ≡ filter (λ (v : ℕ × ℕ). test v.0) (first_waves x.number x.waves) ++ passing_waves test (drop (i + 1) xs)
waves_from test xs i x lt is = ap (passing_waves test) (drop_read xs i x lt is) ∙ filter-append (λ (v : ℕ × ℕ). test v.0) (first_waves x.number x.waves) (waves_of (drop (i + 1) xs))

-- a stream that passes is taken
pub stream_taken : (test : ℕ → Bool) (xs : List Stream) (i : ℕ) (x : Stream) (keys : List (ℕ × ℕ)) → i < length xs → x ≡ get_or xs i x → test x.number ≡ true → keys ++ passing_waves test (drop i xs) ≡ passing_waves test xs → (keys ++ first_waves x.number x.waves) ++ passing_waves test (drop (i + 1) xs) ≡ passing_waves test xs
stream_taken test xs i x keys lt is t left =
    append_assoc keys (first_waves x.number x.waves) (passing_waves test (drop (i + 1) xs))
    ∙ ap (λ (l : List (ℕ × ℕ)). keys ++ (l ++ passing_waves test (drop (i + 1) xs))) (sym (filter_served test x.number (up_to x.waves) t))
    ∙ ap (λ (l : List (ℕ × ℕ)). keys ++ l) (sym (waves_from test xs i x lt is))
    ∙ left

-- a stream that fails is skipped
pub stream_passed : (test : ℕ → Bool) (xs : List Stream) (i : ℕ) (x : Stream) (keys : List (ℕ × ℕ)) → i < length xs → x ≡ get_or xs i x → test x.number ≡ false → keys ++ passing_waves test (drop i xs) ≡ passing_waves test xs → keys ++ passing_waves test (drop (i + 1) xs) ≡ passing_waves test xs
stream_passed test xs i x keys lt is f left =
    ap (λ (l : List (ℕ × ℕ)). keys ++ (l ++ passing_waves test (drop (i + 1) xs))) (sym (filter_unserved test x.number (up_to x.waves) f))
    ∙ ap (λ (l : List (ℕ × ℕ)). keys ++ l) (sym (waves_from test xs i x lt is))
    ∙ left

-- waves to which those of a stream that passes were added have the keys of the streams so far
pub waves_taken : (test : ℕ → Bool) (xs : List Stream) (i : ℕ) (x : Stream) (s waves : ℕ) (old new : List WaveAt) → i < length xs → x ≡ get_or xs i x → s ≡ x.number → waves ≡ x.waves → test s ≡ true → keys_of new ≡ keys_of old ++ first_waves s waves → keys_of old ++ passing_waves test (drop i xs) ≡ passing_waves test xs → keys_of new ++ passing_waves test (drop (i + 1) xs) ≡ passing_waves test xs
waves_taken test xs i x s waves old new lt is es ew t more left =
    (λ j. (more ∙ (λ k. keys_of old ++ first_waves (es k) (ew k))) j ++ passing_waves test (drop (i + 1) xs))
    ∙ stream_taken test xs i x (keys_of old) lt is (ap test (sym es) ∙ t) left

-- past the last stream all are taken
pub all_taken : (test : ℕ → Bool) (xs ys : List Stream) (i : ℕ) (keys : List (ℕ × ℕ)) → length xs ≤ i → xs ≡ ys → keys ++ passing_waves test (drop i xs) ≡ passing_waves test xs → keys ≡ passing_waves test ys
all_taken test xs ys i keys le same left =
    sym (append_none keys)
    ∙ ap (λ (l : List Stream). keys ++ passing_waves test l) (sym (drop_all i xs le))
    ∙ left
    ∙ ap (passing_waves test) same

-- ---- they ascend

append_ascends : (xs ys : List (ℕ × ℕ)) → AreAscending xs → AreAscending ys → ((v u : ℕ × ℕ) → In v xs → In u ys → is_before v u ≡ true) → AreAscending (xs ++ ys)
append_ascends [] ys h k before = k
append_ascends (x ∷ xs) ys h k before =
    (λ u i. elim (in_append u xs ys i) [ inl a ↦ h.0 u a | inr b ↦ before x u (inl refl) b ], append_ascends xs ys h.1 k (λ v u i j. before v u (inr i) j))

-- the waves of one stream ascend
map_ascends : (s : ℕ) (ws : List ℕ) → IsStrictlyIncreasing ws → AreAscending (map (λ w. (s, w)) ws)
map_ascends s [] h = tt
map_ascends s (w ∷ ws) h = (λ u i. (let r = wave_is_of s ws u i in before_from (s, w) u (inr (sym r.0, h.0 u.1 r.1))), map_ascends s ws h.1)

-- the waves of ascending streams ascend
streams_ascend : (xs : List Stream) → IsStrictlyIncreasing (map (λ x. x.number) xs) → AreAscending (waves_of xs)
streams_ascend [] h = tt
streams_ascend (x ∷ xs) h =
    append_ascends (map (λ w. (x.number, w)) (up_to x.waves)) (waves_of xs) (map_ascends x.number (up_to x.waves) (up_to_increases x.waves)) (streams_ascend xs h.1)
    (λ v u i j. before_from v u (inl (subst (λ n. n < u.0) (sym (wave_is_of x.number (up_to x.waves) v i).0) (h.0 u.0 (stream_of_wave xs u j)))))

filter_ascends : (test : ℕ × ℕ → Bool) (vs : List (ℕ × ℕ)) → AreAscending vs → AreAscending (filter test vs)
filter_ascends test [] h = tt
filter_ascends test (v ∷ vs) h = go (filter_ascends test vs h.1) (test v)
  where
    go : AreAscending (filter test vs) → (b : Bool) → AreAscending (cond b (v ∷ filter test vs) (filter test vs))
    go ih true = (λ u i. h.0 u (in_from_filter test u vs i).0, ih)
    go ih false = ih

-- the waves of a node ascend
pub waves_ascend : (p : Plan) (n : ℕ) → IsPlan p → AreAscending (waves_at p n)
unfolding waves_at
waves_ascend p n h = filter_ascends (λ v. serves p n v.0) (waves_of p.streams) (streams_ascend p.streams h.script.streams_increase)

-- ---- untouched waves

-- in the book of untouched waves each wave is untouched
pub untouched_book : (es : List WaveAt) → AreUntouched es → ◌≡◌ {A = Book} (book_of es) (λ s w. untouched)
untouched_book es h = λ i s w. at es h s w i
  where
    both : (b : Bool) → cond b untouched untouched ≡ untouched
    both true = refl
    both false = refl

    at : (es : List WaveAt) → AreUntouched es → (s w : ℕ) → book_of es s w ≡ untouched
    at [] h s w = refl
    at (e ∷ es) h s w = (λ i. cond (is_at s w e) (h.0 i) (at es h.1 s w i)) ∙ both (is_at s w e)
