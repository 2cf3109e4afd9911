-- The first wave over the limit.
use Rattle.std.proofs.Common.{◌≡◌, ℕ, suc, zero, ◌+◌, ◌<◌, Bool, true, false, not, cond, ◌==◌, List, [], ◌∷◌, ◌++◌, map, take, drop, get_or, length, Option, Some, None, refl, sym, ap, subst, ◌∙◌, arith, inl, inr, eqb-true}
use Rattle.std.specs.Prelude.{find}
use Rattle.std.specs.List.{AllByRecursion}
use Rattle.std.proofs.lemmas.Bool.{cases_Bool, cases_lt}
use Rattle.std.proofs.lemmas.List.{take_more, append_assoc, append-nil}
use Rattle.overlay_setup.specs.NodeSets.{In, IsStrictlyIncreasing, up_to}
use Rattle.stat_plan.specs.Samples.{samples_of, seen_by, wave_lines}
use Rattle.overlay_setup.specs.declared.script.Grain.{Grain}
use Rattle.overlay_setup.specs.declared.script.Grain.TheVariants.{Line}
use Rattle.stat_plan.specs.Invariants.{IsJob}
use Rattle.overlay_setup.specs.Scripts.{IsDaemon, Stream}
use Rattle.stat_plan.specs.Plans.{AreNodes, Plan, nodes, nodes_of, samples, sample_count, grain, daemons, stream_of, stream_ranks, ranks_on, waves_of}
use Rattle.stat_plan.specs.Limits.{RefusesAt, first_over, is_over, is_within_limit, stream_waves, wave_is_within}
use Rattle.stat_plan.specs.declared.plan_error.PlanError.{PlanError}
use Rattle.stat_plan.specs.declared.plan_error.PlanError.TheVariants.{TooManyPrefixes, OutOfMemory}
use Rattle.stat_plan.proofs.InLists.{eqb_self, in_at}
use Rattle.stat_plan.proofs.Elements.{all_element}

-- nothing is found in the first part
pub find-later : {X : Type 0} (test : X → Bool) (xs ys : List X) → find test xs ≡ None → find test (xs ++ ys) ≡ find test ys
find-later test [] ys e = refl
find-later {X} test (x ∷ xs) ys e = by (find-later test xs ys) (test x) e
  where
    by : (find test xs ≡ None → find test (xs ++ ys) ≡ find test ys) → (b : Bool) → cond b (Some x) (find test xs) ≡ None → cond b (Some x) (find test (xs ++ ys)) ≡ find test ys
    by later true e = absurd (some_none e)
      where
        some_none : {Y : Type 0} {y : Y} → Some y ≡ None → ⊥
        some_none e = cc
    by later false e = later e

-- what is found in the first part is found
pub find-before : {X : Type 0} (test : X → Bool) (xs ys : List X) (v : X) → find test xs ≡ Some v → find test (xs ++ ys) ≡ Some v
find-before test [] ys v e = absurd (Rattle.std.proofs.lemmas.Option.none-some v e)
find-before {X} test (x ∷ xs) ys v e = by (find-before test xs ys v) (test x) e
  where
    by : (find test xs ≡ Some v → find test (xs ++ ys) ≡ Some v) → (b : Bool) → cond b (Some x) (find test xs) ≡ Some v → cond b (Some x) (find test (xs ++ ys)) ≡ Some v
    by later true e = e
    by later false e = later e

-- a number among the first numbers
up_to_split : (n w : ℕ) → w < n → (rest : List ℕ) × (up_to n ≡ up_to w ++ w ∷ rest)
up_to_split zero w lt = absurd (omega arith)
up_to_split (suc n) w lt = elim (cases_lt w n) [
  | (inl before) ↦ let s = up_to_split n w before in (s.0 ++ n ∷ [], ap (λ xs. xs ++ n ∷ []) s.1 ∙ append_assoc (up_to w) (w ∷ s.0) (n ∷ []))
  | (inr last) ↦ let e : n ≡ w = omega (arith, lt, last) in ([], ap (λ k. up_to k ++ k ∷ []) e)
]

-- a wave of a stream that the plan has
pub wave_value : (p : Plan) (x : Stream) (w : ℕ) → stream_of p x.number ≡ Some x → wave_is_within p (x.number, w) ≡ is_within_limit (samples_of (map (seen_by x.grain (ranks_on p x.daemons)) (wave_lines x.samples w p.lines)))
unfolding wave_is_within samples sample_count grain stream_ranks daemons
wave_value p x w is =
    ap (λ (o : Option Stream). is_within_limit (samples_of (map (seen_by (elim o as (λ _. Grain) [ None ↦ Line | (Some x) ↦ x.grain ]) (ranks_on p (elim o as (λ _. List ℕ) [ None ↦ [] | (Some x) ↦ x.daemons ]))) (wave_lines (elim o as (λ _. ℕ) [ None ↦ 0 | (Some x) ↦ x.samples ]) w p.lines)))) is

abbrev wave_of : Stream → ℕ → ℕ × ℕ
wave_of x w = (x.number, w)

abbrev waves_to : Stream → ℕ → List (ℕ × ℕ)
waves_to x n = map (wave_of x) (up_to n)

waves_append : (x : Stream) (ms ns : List ℕ) → map (wave_of x) (ms ++ ns) ≡ map (wave_of x) ms ++ map (wave_of x) ns
waves_append x [] ns = refl
waves_append x (m ∷ ms) ns = ap (λ vs. (x.number, m) ∷ vs) (waves_append x ms ns)

-- a wave more is within the limit
pub none_over_more : (p : Plan) (x : Stream) (w : ℕ) → find (is_over p) (waves_to x w) ≡ None → wave_is_within p (x.number, w) ≡ true → find (is_over p) (waves_to x (suc w)) ≡ None
none_over_more p x w none within =
    ap (find (is_over p)) (waves_append x (up_to w) (w ∷ []))
    ∙ find-later (is_over p) (waves_to x w) ((x.number, w) ∷ []) none
    ∙ ap (λ b. cond (not b) (Some (x.number, w)) None) within

-- the first wave that is over the limit
pub over_found : (p : Plan) (x : Stream) (w : ℕ) → w < x.waves → find (is_over p) (waves_to x w) ≡ None → wave_is_within p (x.number, w) ≡ false → find (is_over p) (stream_waves x) ≡ Some (x.number, w)
over_found p x w lt none over =
    let s = up_to_split x.waves w lt in
    ap (λ ns. find (is_over p) (map (wave_of x) ns)) s.1
    ∙ ap (find (is_over p)) (waves_append x (up_to w) (w ∷ s.0))
    ∙ find-later (is_over p) (waves_to x w) (map (wave_of x) (w ∷ s.0)) none
    ∙ ap (λ b. cond (not b) (Some (x.number, w)) (find (is_over p) (map (wave_of x) s.0))) over

waves_of-append : (xs ys : List Stream) → waves_of (xs ++ ys) ≡ waves_of xs ++ waves_of ys
waves_of-append [] ys = refl
waves_of-append (x ∷ xs) ys = ap (λ vs. stream_waves x ++ vs) (waves_of-append xs ys) ∙ sym (append_assoc (stream_waves x) (waves_of xs) (waves_of ys))

-- a stream more is within the limit
pub none_over_streams : (p : Plan) (streams : List Stream) (i : ℕ) (d : Stream) → i < length streams → find (is_over p) (waves_of (take i streams)) ≡ None → find (is_over p) (stream_waves (get_or streams i d)) ≡ None → find (is_over p) (waves_of (take (i + 1) streams)) ≡ None
none_over_streams p streams i d lt before none =
    ap (λ xs. find (is_over p) (waves_of xs)) (take_more streams i d lt)
    ∙ ap (find (is_over p)) (waves_of-append (take i streams) (get_or streams i d ∷ []))
    ∙ find-later (is_over p) (waves_of (take i streams)) (stream_waves (get_or streams i d) ++ []) before
    ∙ ap (find (is_over p)) (append-nil (stream_waves (get_or streams i d)))
    ∙ none

-- a list around one of its elements
around : (xs : List Stream) (i : ℕ) (d : Stream) → i < length xs → xs ≡ take i xs ++ get_or xs i d ∷ drop (suc i) xs
around [] i d lt = absurd (omega arith)
around (x ∷ xs) zero d lt = refl
around (x ∷ xs) (suc i) d lt = ap (λ ys. x ∷ ys) (around xs i d (omega arith))

-- a refusal for a stream is one of the plan
pub refuses : (p : Plan) (i : ℕ) (d : Stream) (e : PlanError) → i < length p.streams → find (is_over p) (waves_of (take i p.streams)) ≡ None → RefusesAt (find (is_over p) (stream_waves (get_or p.streams i d))) e → RefusesAt (first_over p) e
refuses p i d OutOfMemory lt none e = tt
refuses p i d (TooManyPrefixes stream wave) lt none e =
    ap (λ xs. find (is_over p) (waves_of xs)) (around p.streams i d lt)
    ∙ ap (find (is_over p)) (waves_of-append (take i p.streams) (get_or p.streams i d ∷ drop (suc i) p.streams))
    ∙ find-later (is_over p) (waves_of (take i p.streams)) (stream_waves (get_or p.streams i d) ++ waves_of (drop (suc i) p.streams)) none
    ∙ find-before (is_over p) (stream_waves (get_or p.streams i d)) (waves_of (drop (suc i) p.streams)) (stream, wave) e

in_numbers : (xs : List Stream) (i : ℕ) (d : Stream) → i < length xs → In (get_or xs i d).number (map (λ (x : Stream). x.number) xs)
in_numbers [] i d lt = absurd (omega arith)
in_numbers (x ∷ xs) zero d lt = inl refl
in_numbers (x ∷ xs) (suc i) d lt = inr (in_numbers xs i d (omega arith))

-- streams of increasing numbers are found by their numbers
found_by_number : (xs : List Stream) (i : ℕ) (d : Stream) → IsStrictlyIncreasing (map (λ (x : Stream). x.number) xs) → i < length xs → find (λ x. x.number == (get_or xs i d).number) xs ≡ Some (get_or xs i d)
found_by_number [] i d up lt = absurd (omega arith)
found_by_number (x ∷ xs) zero d up lt = ap (λ b. cond b (Some x) (find (λ y. y.number == x.number) xs)) (eqb_self x.number)
found_by_number (x ∷ xs) (suc i) d up lt =
    let here : i < length xs = omega arith in
    let above = up.0 (get_or xs i d).number (in_numbers xs i d here) in
    ap (λ b. cond b (Some x) (find (λ y. y.number == (get_or xs i d).number) xs)) (differs x.number (get_or xs i d).number above) ∙ found_by_number xs i d up.1 here
  where
    differs : (a b : ℕ) → a < b → (a == b) ≡ false
    differs a b lt = elim (cases_Bool (a == b)) [ (inl same) ↦ absurd (let e = eqb-true a b same in omega (arith, lt, e)) | (inr other) ↦ other ]

-- a stream of a job is found by its number
pub stream_found : (p : Plan) (i : ℕ) (d : Stream) → IsJob p → i < length p.streams → stream_of p (get_or p.streams i d).number ≡ Some (get_or p.streams i d)
unfolding stream_of
stream_found p i d job lt = found_by_number p.streams i d job.script.streams_increase lt

-- what holds of all holds of each
pub all_in : {X : Type 0} (P : X → Type 0) (xs : List X) (x : X) → AllByRecursion P xs → In x xs → P x
all_in P [] x all i = absurd i
all_in P (y ∷ ys) x all (inl e) = subst P (sym e) all.0
all_in P (y ∷ ys) x all (inr i) = all_in P ys x all.1 i

-- each of some nodes is a node
pub node_below : (p : Plan) (numbers : List ℕ) (k : ℕ) → AreNodes p numbers → k < length numbers → get_or numbers k 0 < nodes p
node_below p numbers k all lt = all_in (λ n. n < nodes p) numbers (get_or numbers k 0) all (in_at numbers k 0 lt)

-- the daemons of a stream of a job are nodes
pub daemons_are_nodes : (p : Plan) (i : ℕ) (d : Stream) → IsJob p → i < length p.streams → (n : ℕ) → In n (get_or p.streams i d).daemons → n < nodes p
daemons_are_nodes p i d job lt n there = (all_in (IsDaemon (nodes_of p)) (get_or p.streams i d).daemons n (all_element (λ (x : Stream). AllByRecursion (IsDaemon (nodes_of p)) x.daemons) p.streams i d job.script_fits.daemons lt) there).0

-- what is found is in the list
pub found_in : {X : Type 0} (test : X → Bool) (xs : List X) (x : X) → find test xs ≡ Some x → In x xs
found_in test [] x e = absurd (Rattle.std.proofs.lemmas.Option.none-some x e)
found_in {X} test (y ∷ ys) x e = by (found_in test ys x) (test y) e
  where
    by : (find test ys ≡ Some x → In x ys) → (b : Bool) → cond b (Some y) (find test ys) ≡ Some x → In x (y ∷ ys)
    by later true e = inl (sym (ap (λ (o : Option X). elim o as (λ _. X) [ None ↦ y | (Some z) ↦ z ]) e))
    by later false e = inr (later e)
