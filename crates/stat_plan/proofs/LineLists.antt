-- Packed lines of samples, with a line more.
use Rattle.std.proofs.Common.{◌≡◌, ◌∙◌, ℕ, List, [], ◌∷◌, ◌++◌, get_or, length, refl, ap, arith}
use Rattle.std.specs.Prelude.{Result, Ok, Err, OnErr}
use Rattle.std.proofs.lemmas.List.{get_or_append_left, length-append, map-append}
use Rattle.rank_set.specs.Ranks.{Ranks, none}
use Rattle.stat_plan.specs.LineLists.{AreEntriesOf, IsEntryOf, entry_line, entry_lines, entry_ranks, stack_line}
use Rattle.stat_plan.specs.declared.line_list.EntryRanks.{EntryRanks}
use Rattle.stat_plan.specs.declared.line_list.EntryRanks.TheVariants as entry
use Rattle.stat_plan.specs.declared.line_list.LineEntry.{LineEntry}
use Rattle.std.proofs.Math.Seq.{get_or-append_seam}

pub on_err : {A E P : Type 0} (result : Result A E) → P → OnErr result P
on_err (Ok x) p = tt
on_err (Err e) p = p

module _ (sets : List Ranks) (more : Ranks) where
  same_ranks : (ranks : EntryRanks) → IsEntryOf sets ranks → entry_ranks (sets ++ more ∷ []) ranks ≡ entry_ranks sets ranks
  same_ranks (entry.One rank) fits = refl
  same_ranks (entry.Several number) fits = get_or_append_left sets (more ∷ []) none number fits

  still_fits : (ranks : EntryRanks) → IsEntryOf sets ranks → IsEntryOf (sets ++ more ∷ []) ranks
  still_fits (entry.One rank) fits = fits
  still_fits (entry.Several number) fits = let long = length-append sets (more ∷ []) in omega (arith, fits, long)

  -- with a set more, entries stand for the same lines
  pub same_lines : (entries : List LineEntry) → AreEntriesOf sets entries → entry_lines (sets ++ more ∷ []) entries ≡ entry_lines sets entries
  same_lines [] fit = refl
  same_lines (e ∷ entries) fit = λ i. stack_line e.time e.path (same_ranks e.ranks fit.0 i) ∷ same_lines entries fit.1 i

  -- an entry more, with the number of that set
  pub fit_more : (entries : List LineEntry) (time path number : ℕ) → number ≡ length sets → AreEntriesOf sets entries → AreEntriesOf (sets ++ more ∷ []) (entries ++ record { time = time; path = path; ranks = entry.Several number } ∷ [])
  fit_more [] time path number is fit = (let long = length-append sets (more ∷ []) in omega (arith, is, long), tt)
  fit_more (e ∷ entries) time path number is fit = (still_fits e.ranks fit.0, fit_more entries time path number is fit.1)

  pub lines_more : (entries : List LineEntry) (time path number : ℕ) → number ≡ length sets → AreEntriesOf sets entries
      → entry_lines (sets ++ more ∷ []) (entries ++ record { time = time; path = path; ranks = entry.Several number } ∷ []) ≡ entry_lines sets entries ++ stack_line time path more ∷ []
  lines_more entries time path number is fit =
      map-append (entry_line (sets ++ more ∷ [])) entries (record { time = time; path = path; ranks = entry.Several number } ∷ [])
      ∙ (λ i. same_lines entries fit i ++ stack_line time path (here i) ∷ [])
    where
      here : get_or (sets ++ more ∷ []) number none ≡ more
      here = ap (λ n. get_or (sets ++ more ∷ []) n none) is ∙ get_or-append_seam sets more [] none
