-- The summary of some releases is that of their journal.
use Rattle.std.proofs.Common.{◌≡◌, ℕ, Bool, true, false, cond, List, [], ◌∷◌, ◌++◌, length, map, filter, codes, suc, refl, sym, ap, ◌∙◌}
use Rattle.std.specs.List.{AllByRecursion}
use Rattle.stat_plan.specs.Plans.{Plan}
use Rattle.overlay_event.specs.declared.event.Event.{Event}
use Rattle.overlay_core.specs.Runs.{after}
use Rattle.overlay_core.specs.TreeReleases.{TreeRelease, bare_releases}
use Rattle.generated_job.specs.Job.{job_plan}
use Rattle.generated_job.specs.Summary.{is_final, is_partial, is_loss, parts_line, job_line, plan_line, end_line, wave_lines, summary_text, release_of_samples, summary_of, HasTreeOfSamples}

-- a release without its number
abbrev unnumbered : TreeRelease → TreeRelease
unnumbered r = record { stream = r.stream; wave = r.wave; number = 0; kind = r.kind; tree = r.tree; lost = r.lost }

-- releases of samples, without their numbers, are those of the machine with their trees
shown : (p : Plan) (rs : List TreeRelease) → AllByRecursion (HasTreeOfSamples p) rs → map unnumbered rs ≡ map (release_of_samples p) (bare_releases rs)
shown p [] all = refl
shown p (r ∷ rs) all = (λ i. record { stream = r.stream; wave = r.wave; number = 0; kind = r.kind; tree = all.0 i; lost = r.lost } ∷ shown p rs all.1 i)

module _ (test : TreeRelease → Bool) (same : (r : TreeRelease) → test (unnumbered r) ≡ test r) where
  count_same : (rs : List TreeRelease) → length (filter test (map unnumbered rs)) ≡ length (filter test rs)
  count_same [] = refl
  count_same (r ∷ rs) = ap (λ b. length (cond b (unnumbered r ∷ filter test (map unnumbered rs)) (filter test (map unnumbered rs)))) (same r) ∙ by (test r) (count_same rs)
    where
      by : (b : Bool) → length (filter test (map unnumbered rs)) ≡ length (filter test rs) → length (cond b (unnumbered r ∷ filter test (map unnumbered rs)) (filter test (map unnumbered rs))) ≡ length (cond b (r ∷ filter test rs) (filter test rs))
      by true e = ap (λ n. suc n) e
      by false e = e

lines_same : (s : ℕ) (rs : List TreeRelease) → wave_lines s (map unnumbered rs) ≡ wave_lines s rs
lines_same s [] = refl
lines_same s (r ∷ rs) = ap (λ t. end_line s r ++ t) (lines_same s rs)

-- numbers don't show in a summary
no_numbers : (seed size : ℕ) (journal : List Event) (rs : List TreeRelease) → summary_text seed size journal (map unnumbered rs) ≡ summary_text seed size journal rs
no_numbers seed size journal rs = (λ i. text (count_same (λ r. is_partial r.kind) (λ r. refl) rs i) (count_same (λ r. is_final r.kind) (λ r. refl) rs i) (lines_same 0 rs i) (lines_same 1 rs i))
  where
    text : ℕ → ℕ → List ℕ → List ℕ → List ℕ
    text partial final first second =
        job_line seed size ++ (plan_line (job_plan seed size) ++ (parts_line ((codes "events ", length journal) ∷ (codes " partial ", partial) ∷ (codes " final ", final) ∷ (codes " lost ", length (filter is_loss journal)) ∷ []) ++ (first ++ (second ++ codes "end\n"))))

pub is_of_journal : (seed n : ℕ) (journal : List Event) (releases : List TreeRelease) → bare_releases releases ≡ (after (job_plan seed n) journal).releases → AllByRecursion (HasTreeOfSamples (job_plan seed n)) releases → summary_text seed n journal releases ≡ summary_of seed n journal
is_of_journal seed n journal releases left trees =
    sym (no_numbers seed n journal releases)
    ∙ ap (summary_text seed n journal) (shown (job_plan seed n) releases trees ∙ ap (map (release_of_samples (job_plan seed n))) left)
