-- In a summary each stream has one line.
use Rattle.std.proofs.Common.{◌≡◌, ℕ, zero, suc, ◌<◌, inl, inr, Bool, true, false, ◌&&◌, nat_eq, cond, List, [], ◌∷◌, ◌++◌, filter, refl, sym, ap, ◌∙◌, arith, append-nil}
use Rattle.std.specs.List.{flat_map}
use Rattle.stat_plan.specs.Invariants.{IsPlan}
use Rattle.overlay_setup.specs.NodeSets.{In}
use Rattle.stat_plan.specs.Plans.{Plan}
use Rattle.overlay_event.specs.declared.event.Event.{Event}
use Rattle.overlay_core.specs.Nodes.{Release}
use Rattle.overlay_core.specs.Runs.{after, IsWhole}
use Rattle.overlay_core.specs.History.{of_wave}
use Rattle.overlay_core.specs.TreeReleases.{TreeRelease, bare_release, bare_releases}
use Rattle.overlay_core.specs.Whole.{EndsFinally}
use Rattle.overlay_core.specs.declared.release.Kind.TheVariants.{Partial, Final}
use Rattle.stat_plan.proofs.PlanFacts.{plan_facts}
use Rattle.overlay_core.proofs.Ended.{whole_has_ended}
use Rattle.generated_job.specs.Job.{job_plan}
use Rattle.generated_job.specs.Summary.{is_final, ends_stream, release_line, wave_lines, HasOneLine}

-- whether a release is of the first wave of a stream
abbrev is_of : ℕ → TreeRelease → Bool
is_of s r = nat_eq r.stream s && nat_eq r.wave 0

bare_of : (s : ℕ) (rs : List TreeRelease) → of_wave s 0 (bare_releases rs) ≡ bare_releases (filter (is_of s) rs)
bare_of s [] = refl
bare_of s (r ∷ rs) = by (is_of s r) (bare_of s rs)
  where
    by : (b : Bool) → of_wave s 0 (bare_releases rs) ≡ bare_releases (filter (is_of s) rs) → cond b (bare_release r ∷ of_wave s 0 (bare_releases rs)) (of_wave s 0 (bare_releases rs)) ≡ bare_releases (cond b (r ∷ filter (is_of s) rs) (filter (is_of s) rs))
    by true same = ap (λ t. bare_release r ∷ t) same
    by false same = same

in_two : (s : ℕ) (rs : List TreeRelease) → filter (ends_stream s) rs ≡ filter (λ r. is_final r.kind) (filter (is_of s) rs)
in_two s [] = refl
in_two s (r ∷ rs) = by (is_final r.kind) (is_of s r) refl (in_two s rs)
  where
    by : (final of : Bool) → is_final r.kind ≡ final → filter (ends_stream s) rs ≡ filter (λ r. is_final r.kind) (filter (is_of s) rs) → cond (final && of) (r ∷ filter (ends_stream s) rs) (filter (ends_stream s) rs) ≡ filter (λ r. is_final r.kind) (cond of (r ∷ filter (is_of s) rs) (filter (is_of s) rs))
    by true true e same = ap (λ t. r ∷ t) same ∙ sym (ap (λ b. cond b (r ∷ filter (λ r. is_final r.kind) (filter (is_of s) rs)) (filter (λ r. is_final r.kind) (filter (is_of s) rs))) e)
    by true false e same = same
    by false true e same = same ∙ sym (ap (λ b. cond b (r ∷ filter (λ r. is_final r.kind) (filter (is_of s) rs)) (filter (λ r. is_final r.kind) (filter (is_of s) rs))) e)
    by false false e same = same

no_more : (rs : List TreeRelease) → bare_releases rs ≡ [] → rs ≡ []
no_more [] e = refl
no_more (r ∷ rs) e = cc

-- of releases of which the last alone is final
last_one : (rs : List TreeRelease) (before : List Release) (final : Release) → bare_releases rs ≡ before ++ final ∷ [] → ((r : Release) → In r before → r.kind ≡ Partial) → final.kind ≡ Final → (r : TreeRelease) × ((filter (λ r. is_final r.kind) rs ≡ r ∷ []) × (bare_release r ≡ final))
last_one [] [] final e partial kind = cc
last_one [] (b ∷ before) final e partial kind = cc
last_one (r ∷ rs) [] final e partial kind =
    let same : bare_release r ≡ final = cc in
    let none : bare_releases rs ≡ [] = cc in
    let k : r.kind ≡ Final = ap (λ x. x.kind) same ∙ kind in
    (r, ((λ i. cond (is_final (k i)) (r ∷ filter (λ r. is_final r.kind) (no_more rs none i)) (filter (λ r. is_final r.kind) (no_more rs none i))), same))
last_one (r ∷ rs) (b ∷ before) final e partial kind =
    let same : bare_release r ≡ b = cc in
    let rest : bare_releases rs ≡ before ++ final ∷ [] = cc in
    let k : r.kind ≡ Partial = ap (λ x. x.kind) same ∙ partial b (inl refl) in
    let later = last_one rs before final rest (λ x there. partial x (inr there)) kind in
    (later.0, (ap (λ kind. cond (is_final kind) (r ∷ filter (λ r. is_final r.kind) rs) (filter (λ r. is_final r.kind) rs)) k ∙ later.1.0, later.1.1))

lines_of : (s : ℕ) (rs : List TreeRelease) → wave_lines s rs ≡ flat_map release_line (filter (ends_stream s) rs)
lines_of s [] = refl
lines_of s (r ∷ rs) = by (ends_stream s r) (lines_of s rs)
  where
    by : (b : Bool) → wave_lines s rs ≡ flat_map release_line (filter (ends_stream s) rs) → cond b (release_line r) [] ++ wave_lines s rs ≡ flat_map release_line (cond b (r ∷ filter (ends_stream s) rs) (filter (ends_stream s) rs))
    by true same = ap (λ t. release_line r ++ t) same
    by false same = same

-- a stream whose wave has ended has one line
pub one_line : (p : Plan) (journal : List Event) (s : ℕ) (releases : List TreeRelease) → EndsFinally p journal s (of_wave s 0 (after p journal).releases) → bare_releases releases ≡ (after p journal).releases → HasOneLine s releases
one_line p journal s releases ends same =
    let of : bare_releases (filter (is_of s) releases) ≡ ends.before ++ ends.final ∷ [] = sym (bare_of s releases) ∙ ap (of_wave s 0) same ∙ ends.all in
    let one = last_one (filter (is_of s) releases) ends.before ends.final of ends.partial ends.kind in
    record {
      release = one.0;
      ends = in_two s releases ∙ one.1.0;
      line = lines_of s releases ∙ ap (flat_map release_line) (in_two s releases ∙ one.1.0) ∙ append-nil (release_line one.0);
    }

-- each of the job's streams
pub streams_have_one : (seed n s : ℕ) (journal : List Event) (releases : List TreeRelease) → s < 2 → IsPlan (job_plan seed n) → IsWhole (job_plan seed n) journal → bare_releases releases ≡ (after (job_plan seed n) journal).releases → HasOneLine s releases
streams_have_one seed n zero journal releases low plan whole same = one_line (job_plan seed n) journal 0 releases ((whole_has_ended (job_plan seed n) journal (plan_facts (job_plan seed n) plan) whole).final 0 0 (inl refl)) same
streams_have_one seed n (suc zero) journal releases low plan whole same = one_line (job_plan seed n) journal 1 releases ((whole_has_ended (job_plan seed n) journal (plan_facts (job_plan seed n) plan) whole).final 1 0 (inr (inl refl))) same
streams_have_one seed n (suc (suc s)) journal releases low plan whole same = absurd (omega arith)
