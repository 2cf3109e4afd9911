-- What is shown of a stack has nothing more to leave out.
use Rattle.std.proofs.Common.{◌≡◌, ◌∙◌, ℕ, zero, suc, ◌+◌, ◌-◌, ◌≤◌, ◌<◌, ◌⊎◌, inl, inr, Bool, true, false, cond, List, [], ◌∷◌, ◌++◌, refl, ap, sym, subst, map, take, length, arith, append_assoc}
use Rattle.std.specs.Prelude.{nat_le}
use Rattle.std.specs.Str.{bytes_eq}
use Rattle.std.proofs.Math.Seq.{take-add, take-append-add}
use Rattle.std.proofs.lemmas.Bool.{leb-true, leb-false, and_parts, false≢true}
use Rattle.std.proofs.lemmas.List.{take-map, map-append, take-append-drop, take-append-le, take-take, take_all, length-take, length-append, append-nil}
use Rattle.std.proofs.lemmas.Slice.Eq.{bytes_eq-Decides}
use Rattle.frame_name.specs.Frames.{FrameView}
use Rattle.stack_path.specs.Beginnings.{Stack}
use Rattle.stack_path.specs.Recursion.{RecursionView, Cycles, are_same, frames_before, last_frames, ends_twice, cycle_from, cycle_len, without_before, with_call, with_calls, once}
use Rattle.stack_path.proofs.Cycles.{search_begins}
use Rattle.stack_path.proofs.SameNames.{cycle_same}

-- a stack of which each call so far, with those before it, is shown as it is
abbrev pub IsSettled : RecursionView → Stack → Type 0
IsSettled how s = (kept : Stack) (f : FrameView) (rest : Stack) → s ≡ kept ++ f ∷ rest → with_call how kept f ≡ kept ++ f ∷ []

pub calls_settled : (how : RecursionView) (kept s : Stack) → IsSettled how (kept ++ s) → with_calls how kept s ≡ kept ++ s
calls_settled how kept [] settled = sym (append-nil kept)
calls_settled how kept (f ∷ s) settled =
    let more : (kept ++ f ∷ []) ++ s ≡ kept ++ f ∷ s = append_assoc kept (f ∷ []) s in
    ap (λ t. with_calls how t s) (settled kept f s refl)
    ∙ calls_settled how (kept ++ f ∷ []) s (λ front h rest e. settled front h rest (sym more ∙ e))
    ∙ more

-- a frame that has a name, and nothing else
abbrev frame_named : List ℕ → FrameView
frame_named name = record {
  name = name;
  line = [];
  is_main = false;
  is_start = false;
  is_own = false;
  waits = false;
  is_mpi = false;
  is_standard = false;
  is_plumbing = false;
  is_deleted = false;
}

abbrev names : Stack → Stack
names s = map (λ f. frame_named f.name) s

same_names : (s t : Stack) → are_same s t ≡ true → names s ≡ names t
same_names [] [] h = refl
same_names [] (g ∷ t) h = absurd (false≢true h)
same_names (f ∷ s) [] h = absurd (false≢true h)
same_names (f ∷ s) (g ∷ t) h =
    let parts = and_parts (bytes_eq f.name g.name) (are_same s t) h in
    (λ i. frame_named ((bytes_eq-Decides f.name g.name).0 parts.0 i) ∷ same_names s t parts.1 i)

names_take : (k : ℕ) (s : Stack) → names (take k s) ≡ take k (names s)
names_take k s = sym (take-map (λ f. frame_named f.name) k s)

cycle_by_names : (s t : Stack) → names s ≡ names t → cycle_len s ≡ cycle_len t
cycle_by_names s t e =
    sym (cycle_same (λ f. frame_named f.name) (λ f. refl) s) ∙ ap cycle_len e ∙ cycle_same (λ f. frame_named f.name) (λ f. refl) t

-- a stack of which no part from the outermost frame on ends with a cycle twice
abbrev IsFree : Stack → Type 0
IsFree s = (k : ℕ) → cycle_len (take k s) ≡ 0

free_by_names : (s t : Stack) → names s ≡ names t → IsFree t → IsFree s
free_by_names s t e free k =
    cycle_by_names (take k s) (take k t) (names_take k s ∙ ap (take k) e ∙ sym (names_take k t)) ∙ free k

free_front : (m : ℕ) (s : Stack) → IsFree s → IsFree (take m s)
free_front m s free k = by_test (nat_le k m) refl
  where
    by_test : (t : Bool) → nat_le k m ≡ t → cycle_len (take k (take m s)) ≡ 0
    by_test true e = ap cycle_len (take-take k m s (leb-true k m e)) ∙ free k
    by_test false e =
        let lt : m < k = leb-false k m e in
        let le : m ≤ k = omega (arith, lt) in
        ap cycle_len (shorter_take le) ∙ free m
      where
        shorter_take : m ≤ k → take k (take m s) ≡ take m s
        shorter_take le = take_all k (take m s) (omega (arith, le, length-take m s))

-- the search finds what comes twice
found : (fuel n : ℕ) (s : Stack) → (cycle_from fuel n s ≡ 0) ⊎ (ends_twice (cycle_from fuel n s) s ≡ true)
unfolding cycle_from
found zero n s = inl refl
found (suc fuel) n s = by_test (ends_twice n s) refl (found fuel (suc n) s)
  where
    by_test : (t : Bool) → ends_twice n s ≡ t → (cycle_from fuel (suc n) s ≡ 0) ⊎ (ends_twice (cycle_from fuel (suc n) s) s ≡ true) →
        (cond t n (cycle_from fuel (suc n) s) ≡ 0) ⊎ (ends_twice (cond t n (cycle_from fuel (suc n) s)) s ≡ true)
    by_test true e more = inr e
    by_test false e more = more

cycle_found : (s : Stack) → (cycle_len s ≡ 0) ⊎ (ends_twice (cycle_len s) s ≡ true)
cycle_found s = subst (λ n. (n ≡ 0) ⊎ (ends_twice n s ≡ true)) (sym (search_begins s)) (found 32 1 s)

-- without the first of two cycles there are the names of the stack up to the second
without_by_names : (n : ℕ) (s : Stack) → ends_twice n s ≡ true → names (without_before n s) ≡ names (take (length s - n) s)
without_by_names n s h =
    let parts = and_parts (nat_le (n + n) (length s)) (are_same (frames_before n s) (last_frames n s)) h in
    let fits : n + n ≤ length s = leb-true (n + n) (length s) parts.0 in
    let at : length s - (n + n) + n ≡ length s - n = omega (arith, fits) in
    let outer = take (length s - (n + n)) s in
    map-append (λ f. frame_named f.name) outer (last_frames n s)
    ∙ ap (λ t. names outer ++ t) (sym (same_names (frames_before n s) (last_frames n s) parts.1))
    ∙ sym (map-append (λ f. frame_named f.name) outer (frames_before n s))
    ∙ ap names (sym (take-add (length s - (n + n)) n s) ∙ ap (λ k. take k s) at)

free_more : (kept : Stack) (f : FrameView) → IsFree kept → cycle_len (kept ++ f ∷ []) ≡ 0 → IsFree (kept ++ f ∷ [])
free_more kept f free none k = by_test (nat_le k (length kept)) refl
  where
    by_test : (t : Bool) → nat_le k (length kept) ≡ t → cycle_len (take k (kept ++ f ∷ [])) ≡ 0
    by_test true e = ap cycle_len (take-append-le k kept (f ∷ []) (leb-true k (length kept) e)) ∙ free k
    by_test false e =
        let lt : length kept < k = leb-false k (length kept) e in
        let all : length (kept ++ f ∷ []) ≤ k = omega (arith, lt, length-append kept (f ∷ [])) in
        ap cycle_len (take_all k (kept ++ f ∷ []) all) ∙ none

free_call : (kept : Stack) (f : FrameView) → IsFree kept → IsFree (with_call Cycles kept f)
free_call kept f free = by_len (cycle_len (kept ++ f ∷ [])) refl (cycle_found (kept ++ f ∷ []))
  where
    by_len : (n : ℕ) → cycle_len (kept ++ f ∷ []) ≡ n → (n ≡ 0) ⊎ (ends_twice n (kept ++ f ∷ []) ≡ true) →
        IsFree (without_before n (kept ++ f ∷ []))
    by_len zero e h =
        subst IsFree (sym (take-append-drop (length (kept ++ f ∷ []) - 0) (kept ++ f ∷ []))) (free_more kept f free e)
    by_len (suc n) e (inl h) = let no : ⊥ = omega (arith, h) in absurd no
    by_len (suc n) e (inr h) =
        let le : length (kept ++ f ∷ []) - suc n ≤ length kept = omega (arith, length-append kept (f ∷ [])) in
        let front : take (length (kept ++ f ∷ []) - suc n) (kept ++ f ∷ []) ≡ take (length (kept ++ f ∷ []) - suc n) kept =
        take-append-le (length (kept ++ f ∷ []) - suc n) kept (f ∷ []) le in
        free_by_names (without_before (suc n) (kept ++ f ∷ [])) (take (length (kept ++ f ∷ []) - suc n) kept)
        (without_by_names (suc n) (kept ++ f ∷ []) h ∙ ap names front)
        (free_front (length (kept ++ f ∷ []) - suc n) kept free)

free_calls : (kept s : Stack) → IsFree kept → IsFree (with_calls Cycles kept s)
free_calls kept [] free = free
free_calls kept (f ∷ s) free = free_calls (with_call Cycles kept f) s (free_call kept f free)

none_of_none : cycle_len [] ≡ 0
unfolding cycle_len cycle_from
none_of_none = refl

free_settled : (s : Stack) → IsFree s → IsSettled Cycles s
free_settled s free kept f rest e =
    let front : take (length kept + 1) s ≡ kept ++ f ∷ [] = ap (take (length kept + 1)) e ∙ take-append-add kept (f ∷ rest) 1 in
    let none : cycle_len (kept ++ f ∷ []) ≡ 0 = ap cycle_len (sym front) ∙ free (length kept + 1) in
    ap (λ n. without_before n (kept ++ f ∷ [])) none
    ∙ take-append-drop (length (kept ++ f ∷ []) - 0) (kept ++ f ∷ [])

pub cycles_free : (s : Stack) (k : ℕ) → cycle_len (take k (once Cycles s)) ≡ 0
cycles_free s = free_calls [] s (λ k. ap cycle_len (take_all k [] (omega arith)) ∙ none_of_none)

pub cycles_settled : (s : Stack) → IsSettled Cycles (once Cycles s)
cycles_settled s = free_settled (once Cycles s) (cycles_free s)
