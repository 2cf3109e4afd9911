-- Each wave of the generated job has few prefixes.
use Rattle.std.proofs.Common.{◌≡◌, ℕ, zero, suc, ◌+◌, ◌*◌, ◌/◌, ◌%◌, ◌≤◌, ◌<◌, ◌⊎◌, inl, inr, Bool, true, false, ◌||◌, ◌==◌, cond, List, [], ◌∷◌, ◌++◌, length, map, Option, None, Some, refl, sym, ap, ◌∙◌, subst, arith, rules, codes}
use Rattle.std.specs.Fmt.{decimal}
use Rattle.std.specs.List.{range_with_len, AllByRecursion, list_any, flat_map}
use Rattle.std.specs.Prelude.{find}
use Rattle.std.specs.Ordering.{eq_by_cmp, nat_cmp}
use Rattle.std.specs.Cmp.Lexicographic.{slice_cmp}
use Rattle.std.proofs.lemmas.Bool.{true≢false, and_parts, or_cases, or_left, or_right, le-leb}
use Rattle.std.proofs.lemmas.Cmp.{eq_by_cmp_equiv}
use Rattle.std.proofs.lemmas.List.Folds.{list_any-append}
use Rattle.std.proofs.lemmas.Map.Made.{length-le_from_is_member}
use Rattle.rank_set.specs.Ranks.{Ranks, in_order}
use Rattle.call_path.specs.Pairs.{Pairs, pairs_at, prefixes_of}
use Rattle.call_path.specs.Path.{Path, is_path, is_prefix, path_cmp_total}
use Rattle.call_path.proofs.PathLemmas.{is_path-itself}
use Rattle.prefix_tree.proofs.PairLemmas.{any-flat_map}
use Rattle.prefix_tree.proofs.GoodPaths.{same_frame}
use Rattle.overlay_setup.specs.Scripts.{Scripted, Stream, is_in_wave}
use Rattle.overlay_setup.specs.Topologies.{Nodes}
use Rattle.overlay_setup.specs.declared.script.Grain.{Grain}
use Rattle.overlay_setup.specs.declared.script.Grain.TheVariants.{Line}
use Rattle.stat_plan.specs.Limits.{wave_is_within, first_over, RefusesAt}
use Rattle.stat_plan.specs.Plans.{Sampled, plan_of, samples, stream_of, stream_ranks, sample_count, grain}
use Rattle.stat_plan.specs.Samples.{SampleLine, samples_of, wave_lines, path_by, seen_by, prefix_count}
use Rattle.stat_plan.specs.declared.plan_error.PlanError.{PlanError}
use Rattle.stat_plan.specs.declared.plan_error.PlanError.TheVariants.{TooManyPrefixes}
use Rattle.stat_plan.proofs.Counting.{dedup}
use Rattle.stat_plan.proofs.WavePrefixes.{any-prefixes_of}
use Rattle.stat_plan.proofs.Elements.{all_append}
use Rattle.generated_job.specs.Texts.{numbers, path_with, sampled_path}
use Rattle.generated_job.specs.Job.{job_plan, job_nodes, job_samples, job_script, sample_of}
use Rattle.generated_job.proofs.Rows.{row_all}

-- a path of one of the 12 kinds
pub record IsKnown (path : Path) : Type 0 where
  pub a : ℕ
  pub b : ℕ
  pub a_low : a < 4
  pub b_low : b < 3
  pub is : path ≡ path_with a b

-- the 17 prefixes of these paths, the empty one aside
abbrev pub heads : List Path
heads =
    (codes "main" ∷ []) ∷ map (λ a. codes "main" ∷ (102 ∷ decimal a) ∷ []) (numbers 4)
    ++ flat_map (λ a. map (path_with a) (numbers 3)) (numbers 4)

-- something in a row passes a test
in_row : {X : Type 0} (test : X → Bool) (f : ℕ → X) (j a n : ℕ) → a ≤ j → j < a + n → test (f j) ≡ true → list_any test (map f (range_with_len a n)) ≡ true
in_row test f j a zero le lt e = absurd (omega arith)
in_row test f j a (suc n) le lt e = by (either a j) (λ low. in_row test f j (a + 1) n (omega arith) (omega arith) e)
  where
    either : (n m : ℕ) → (n < m) ⊎ (m ≤ n)
    either n m = search rules

    by : (a < j) ⊎ (j ≤ a) → (a < j → list_any test (map f (range_with_len (a + 1) n)) ≡ true) → (test (f a) || list_any test (map f (range_with_len (a + 1) n))) ≡ true
    by (inl low) later = or_right (test (f a)) _ (later low)
    by (inr high) later = or_left (test (f a)) _ (let same : a ≡ j = omega arith in ap (λ k. test (f k)) same ∙ e)

in_two : (test : Path → Bool) (a : ℕ) → a < 4 → test (codes "main" ∷ (102 ∷ decimal a) ∷ []) ≡ true → list_any test heads ≡ true
in_two test a low e =
    or_right (test (codes "main" ∷ [])) _ (list_any-append test (map (λ a. codes "main" ∷ (102 ∷ decimal a) ∷ []) (numbers 4)) (flat_map (λ a. map (path_with a) (numbers 3)) (numbers 4))
    ∙ or_left (list_any test (map (λ a. codes "main" ∷ (102 ∷ decimal a) ∷ []) (numbers 4))) _ (in_row test (λ a. codes "main" ∷ (102 ∷ decimal a) ∷ []) a 0 4 (omega arith) (omega arith) e))

in_three : (test : Path → Bool) (a b : ℕ) → a < 4 → b < 3 → test (path_with a b) ≡ true → list_any test heads ≡ true
in_three test a b low few e =
    or_right (test (codes "main" ∷ [])) _ (list_any-append test (map (λ a. codes "main" ∷ (102 ∷ decimal a) ∷ []) (numbers 4)) (flat_map (λ a. map (path_with a) (numbers 3)) (numbers 4))
    ∙ or_right (list_any test (map (λ a. codes "main" ∷ (102 ∷ decimal a) ∷ []) (numbers 4))) _ (any-flat_map test (λ a. map (path_with a) (numbers 3)) (numbers 4) ∙ one))
  where
    one : list_any (λ a. list_any test (map (path_with a) (numbers 3))) (numbers 4) ≡ true
    one = ap (list_any (λ a. list_any test (map (path_with a) (numbers 3)))) (same_numbers 4 0) ∙ in_row (λ a. list_any test (map (path_with a) (numbers 3))) (λ a. a) a 0 4 (omega arith) (omega arith) (in_row test (path_with a) b 0 3 (omega arith) (omega arith) e)
      where
        same_numbers : (n a : ℕ) → range_with_len a n ≡ map (λ x. x) (range_with_len a n)
        same_numbers zero a = refl
        same_numbers (suc n) a = ap (λ t. a ∷ t) (same_numbers n (a + 1))

is_itself : (p q : Path) → p ≡ q → is_path p q ≡ true
is_itself p q e = subst (λ x. is_path p x ≡ true) e (is_path-itself p)

-- a prefix of such a path is one of the 17
among : (f : List ℕ) (q : Path) (a b : ℕ) → a < 4 → b < 3 → is_prefix (f ∷ q) (path_with a b) ≡ true → list_any (is_path (f ∷ q)) heads ≡ true
among f [] a b low few e =
    let one = and_parts (eq_by_cmp (slice_cmp nat_cmp) f (codes "main")) true e in
    or_left (is_path (f ∷ []) (codes "main" ∷ [])) _ (is_itself (f ∷ []) (codes "main" ∷ []) (ap (λ x. x ∷ []) (same_frame f (codes "main") one.0)))
among f (g ∷ []) a b low few e =
    let one = and_parts (eq_by_cmp (slice_cmp nat_cmp) f (codes "main")) _ e in
    let two = and_parts (eq_by_cmp (slice_cmp nat_cmp) g (102 ∷ decimal a)) true one.1 in
    in_two (is_path (f ∷ g ∷ [])) a low (is_itself (f ∷ g ∷ []) (codes "main" ∷ (102 ∷ decimal a) ∷ []) (λ i. same_frame f (codes "main") one.0 i ∷ same_frame g (102 ∷ decimal a) two.0 i ∷ []))
among f (g ∷ h ∷ []) a b low few e =
    let one = and_parts (eq_by_cmp (slice_cmp nat_cmp) f (codes "main")) _ e in
    let two = and_parts (eq_by_cmp (slice_cmp nat_cmp) g (102 ∷ decimal a)) _ one.1 in
    let three = and_parts (eq_by_cmp (slice_cmp nat_cmp) h (103 ∷ decimal b)) true two.1 in
    in_three (is_path (f ∷ g ∷ h ∷ [])) a b low few (is_itself (f ∷ g ∷ h ∷ []) (path_with a b) (λ i. same_frame f (codes "main") one.0 i ∷ same_frame g (102 ∷ decimal a) two.0 i ∷ same_frame h (103 ∷ decimal b) three.0 i ∷ []))
among f (g ∷ h ∷ x ∷ q) a b low few e =
    let one = and_parts (eq_by_cmp (slice_cmp nat_cmp) f (codes "main")) _ e in
    let two = and_parts (eq_by_cmp (slice_cmp nat_cmp) g (102 ∷ decimal a)) _ one.1 in
    let three = and_parts (eq_by_cmp (slice_cmp nat_cmp) h (103 ∷ decimal b)) false two.1 in
    absurd (true≢false (sym three.1))

-- a prefix of one of some such paths is one of the 17
known_head : (f : List ℕ) (q : Path) (P : Pairs) → AllByRecursion (λ e. IsKnown e.1) P → list_any (is_prefix (f ∷ q)) (map (λ e. e.1) P) ≡ true → list_any (is_path (f ∷ q)) heads ≡ true
known_head f q [] all e = absurd (true≢false (sym e))
known_head f q (pair ∷ P) all e = by (or_cases (is_prefix (f ∷ q) pair.1) (list_any (is_prefix (f ∷ q)) (map (λ e. e.1) P)) e) (known_head f q P all.1)
  where
    by : (is_prefix (f ∷ q) pair.1 ≡ true) ⊎ (list_any (is_prefix (f ∷ q)) (map (λ e. e.1) P) ≡ true) → (list_any (is_prefix (f ∷ q)) (map (λ e. e.1) P) ≡ true → list_any (is_path (f ∷ q)) heads ≡ true) → list_any (is_path (f ∷ q)) heads ≡ true
    by (inl here) later = among f q all.0.a all.0.b all.0.a_low all.0.b_low (ap (is_prefix (f ∷ q)) (sym all.0.is) ∙ here)
    by (inr there) later = later there

-- samples of such paths have at most 17 prefixes
module _ (P : Pairs) (all : AllByRecursion (λ e. IsKnown e.1) P) where
  each : (x : Path) → list_any (is_path x) (prefixes_of P) ≡ true → list_any (is_path x) heads ≡ true
  each [] there = absurd (true≢false (sym there ∙ any-prefixes_of P []))
  each (f ∷ q) there = known_head f q P all (sym (any-prefixes_of P (f ∷ q)) ∙ there)

  few_prefixes : prefix_count P ≤ 17
  few_prefixes =
      let some = dedup (prefixes_of P) in
      let fewer : length some.keys ≤ length heads = length-le_from_is_member (eq_by_cmp_equiv path_cmp_total) some.keys heads some.distinct (λ x there. each x (sym (some.members x) ∙ there)) in
      let number = some.number in
      omega (arith, fewer, number)

-- ---- the paths of the job

known_pairs : (rs : List ℕ) (p : Path) → IsKnown p → AllByRecursion (λ (e : ℕ × Path). IsKnown e.1) (pairs_at rs p)
known_pairs [] p known = tt
known_pairs (r ∷ rs) p known = (known, known_pairs rs p known)

known_samples : (lines : List SampleLine) → AllByRecursion (λ line. IsKnown line.path) lines → AllByRecursion (λ (e : ℕ × Path). IsKnown e.1) (samples_of lines)
known_samples [] all = tt
known_samples (line ∷ lines) all = all_append (λ (e : ℕ × Path). IsKnown e.1) (pairs_at (in_order line.ranks) line.path) (samples_of lines) (known_pairs (in_order line.ranks) line.path all.0) (known_samples lines all.1)

known_in_wave : (k w : ℕ) (lines : List SampleLine) → AllByRecursion (λ line. IsKnown line.path) lines → AllByRecursion (λ line. IsKnown line.path) (wave_lines k w lines)
known_in_wave k w [] all = tt
known_in_wave k w (line ∷ lines) all = by (is_in_wave k w line.time) (known_in_wave k w lines all.1)
  where
    by : (b : Bool) → AllByRecursion (λ (line : SampleLine). IsKnown line.path) (wave_lines k w lines) → AllByRecursion (λ (line : SampleLine). IsKnown line.path) (cond b (line ∷ wave_lines k w lines) (wave_lines k w lines))
    by true later = (all.0, later)
    by false later = later

-- a stream by lines sees the paths as they are
known_seen : (g : Grain) (own : Ranks) (lines : List SampleLine) → g ≡ Line → AllByRecursion (λ line. IsKnown line.path) lines → AllByRecursion (λ line. IsKnown line.path) (map (seen_by g own) lines)
known_seen g own [] by_line all = tt
known_seen g own (line ∷ lines) by_line all = (subst (λ h. IsKnown (path_by h line.path)) (sym by_line) all.0, known_seen g own lines by_line all.1)

grain_by : (s : ℕ) (xs : List Stream) → AllByRecursion (λ x. x.grain ≡ Line) xs → elim (find (λ x. x.number == s) xs) as (λ _. Grain) [ None ↦ Line | (Some x) ↦ x.grain ] ≡ Line
grain_by s [] all = refl
grain_by s (x ∷ xs) all = by (x.number == s) (grain_by s xs all.1)
  where
    by : (b : Bool) → elim (find (λ x. x.number == s) xs) as (λ _. Grain) [ None ↦ Line | (Some x) ↦ x.grain ] ≡ Line → elim (cond b (Some x) (find (λ x. x.number == s) xs)) as (λ _. Grain) [ None ↦ Line | (Some x) ↦ x.grain ] ≡ Line
    by true later = all.0
    by false later = later

grain_is : (seed size s : ℕ) → grain (job_plan seed size) s ≡ Line
unfolding grain stream_of
grain_is seed size s = grain_by s (job_plan seed size).streams (refl, (refl, tt))

known_lines : (seed size : ℕ) → AllByRecursion (λ line. IsKnown line.path) (job_samples seed size).lines
known_lines seed size =
    all_append (λ (line : SampleLine). IsKnown line.path) (map (sample_of seed 0) (numbers (64 * size))) (map (sample_of seed 1) (numbers (64 * size)))
    (row_all (λ (line : SampleLine). IsKnown line.path) (sample_of seed 0) 0 (64 * size) (λ r le lt. known 0 r))
    (row_all (λ (line : SampleLine). IsKnown line.path) (sample_of seed 1) 0 (64 * size) (λ r le lt. known 1 r))
  where
    known : (t r : ℕ) → IsKnown (sampled_path seed t r)
    known t r = record { a = r / 16 % 4; b = (r + t + seed % 3) % 3; a_low = omega arith; b_low = omega arith; is = refl }

-- a wave of the job has at most 17 prefixes
pub waves_have_few : (seed size s w : ℕ) → prefix_count (samples (job_plan seed size) s w) ≤ 17
unfolding samples
waves_have_few seed size s w =
    few_prefixes (samples (job_plan seed size) s w)
    (known_samples _
    (known_seen (grain (job_plan seed size) s) (stream_ranks (job_plan seed size) s) _ (grain_is seed size s)
    (known_in_wave (sample_count (job_plan seed size) s) w (job_samples seed size).lines (known_lines seed size))))

within : (seed size s w : ℕ) → wave_is_within (job_plan seed size) (s, w) ≡ true
unfolding wave_is_within
within seed size s w = let few = waves_have_few seed size s w in le-leb _ 2048 (omega arith)

-- no wave of the job has too many
pub none_over : (seed size : ℕ) → first_over (job_plan seed size) ≡ None
none_over seed size = rw (within seed size 0 0) (rw (within seed size 1 0) refl)

-- a plan of the job's parts isn't refused for its prefixes
pub not_refused : (seed size : ℕ) (t : Nodes) (s : Sampled) (c : Scripted) (e : PlanError) (stream wave : ℕ) → t ≡ job_nodes size → s ≡ job_samples seed size → c ≡ job_script size → RefusesAt (first_over (plan_of t s c)) e → e ≡ TooManyPrefixes stream wave → ⊥
not_refused seed size t s c e stream wave nodes samples script refuses is =
    some_none (stream, wave) (first_over (plan_of t s c)) (subst (RefusesAt (first_over (plan_of t s c))) is refuses) ((λ i. first_over (plan_of (nodes i) (samples i) (script i))) ∙ none_over seed size)
  where
    some_none : (v : ℕ × ℕ) (o : Option (ℕ × ℕ)) → o ≡ Some v → o ≡ None → ⊥
    some_none v o p q = cc
