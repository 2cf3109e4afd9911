-- The limits of two files, and what the promises refuse: each row behind the first two is a case of which one of them does
-- not hold.
use Rattle.std.specs.Prelude.{◌≡◌, refl, codes, ℕ, Bool, true, false, List, [], ◌∷◌, ◌++◌, Some, None, Ok}
use Rattle.std.proofs.Common.{ap, sym, subst, ◌∙◌, inl, inr}
use Rattle.std.proofs.lemmas.Bool.{true≢false}
use Rattle.rank_set.specs.Ranks.{has, none, set_of, with_rank}
use Rattle.text_lines.specs.Lines.{lines, pieces}
use Rattle.overlay_event.specs.declared.event.Event.{Event}
use Rattle.overlay_event.specs.declared.event.Event.TheVariants.{Tick}
use Rattle.stat_plan.specs.Plans.{Plan}
use Rattle.overlay_core.specs.Nodes.{Release}
use Rattle.overlay_core.specs.Refused.{is_final, no_last, the_last}
use Rattle.overlay_core.specs.Rows.{final, partial}
use Rattle.journal_text.specs.Reading.{ReadJournal, events_before}
use Rattle.stat_desk.specs.Change.{Change}
use Rattle.stat_desk.specs.Desk.{DeskSeen}
use Rattle.stat_desk.specs.Faults.{Rose}
use Rattle.stat_desk.specs.Sink.{SinkSeen}
use Rattle.front_end.specs.Report.{report_text}
use Rattle.stat_words.specs.Words.{Gen}
use Rattle.stat_words.specs.declared.words.ReportForm.TheVariants.{Text}
use Rattle.stat_words.specs.declared.words.RunReport.{RunReport}
use Rattle.stat_tool.specs.Call.{IsDetermined, Written}
use Rattle.job_files.specs.Files.{limit_of}
use Rattle.job_files.specs.Tasks.{RunOutput}
use Rattle.stat_tool.specs.Outputs.{IsReplay, IsReplayed}
use Rattle.stat_tool.specs.Reports.{CoveragesGrow, EndsWithAll, IsReportOf}
use Rattle.job_files.specs.declared.status.FileRole.TheVariants.{Capture, Journal, Topology}
use Rattle.job_files.specs.declared.status.Status.{Status}
use Rattle.job_files.specs.declared.status.Status.TheVariants.{DeskFault, Done}

journal_limit : limit_of Journal ≡ 1073741824
journal_limit = refl

capture_limit : limit_of Capture ≡ 1073741824
capture_limit = refl

-- ---- coverages

-- a final release that covers less than the partial one before it
shrinks : CoveragesGrow none (partial (set_of (0 ∷ 1 ∷ [])) [] ∷ final (set_of (0 ∷ [])) [] ∷ []) → ⊥
unfolding has with_rank
shrinks h = true≢false (sym (h.2.0 1 refl))

-- a partial release that covers what the one before it covers
stays : CoveragesGrow none (partial (set_of (0 ∷ [])) [] ∷ partial (set_of (0 ∷ [])) [] ∷ []) → ⊥
stays h = h.2.1 refl refl

-- ---- what was written

abbrev is_some : {A : Type 0} → List A → Bool
is_some [] = false
is_some (x ∷ xs) = true

-- whether there is an item behind the first
abbrev has_second : {A : Type 0} → List A → Bool
has_second [] = false
has_second (x ∷ xs) = is_some xs

-- a call is not done where the sink of the report took a prefix of it alone
took_a_prefix : (output : RunOutput) (out journal : Change SinkSeen) → output.report ≡ codes "ab" → out.before.took ≡ [] → out.now.took ≡ codes "a" → Written output out journal Done → ⊥
took_a_prefix output out journal report before now h =
    let took : codes "a" ≡ codes "ab" =
    sym now ∙ h.1.0.took ∙ ap (λ bytes. bytes ++ output.report) before ∙ report in
    true≢false (sym (ap has_second took))

-- nor where an event may still come
may_go_on : (output : RunOutput) (out journal : Change SinkSeen) (e : Event) → output.unfinished ≡ Some e → Written output out journal Done → ⊥
may_go_on output out journal e next h = let none : Some e ≡ None = sym next ∙ h.0 in cc

-- ---- replays

-- an event is missing
lacks_an_event : (p : Plan) (wanted : RunReport) (output : RunOutput) → output.journal ≡ Tick 0 ∷ [] → IsReplay p (Tick 0 ∷ Tick 0 ∷ []) wanted output → ⊥
lacks_an_event p wanted output journal h = true≢false (sym (ap has_second (sym journal ∙ h.journal)))

-- a line is missing in the text of the journal
lacks_a_line : (p : Plan) (wanted : RunReport) (output : RunOutput) → output.journal ≡ Tick 0 ∷ [] → output.journal_text ≡ [] → IsReplayed p wanted output → ⊥
unfolding pieces events_before
lacks_a_line p wanted output journal text h =
    let read : events_before p (lines []) ≡ Tick 0 ∷ [] =
    subst (λ t. events_before p (lines t) ≡ Tick 0 ∷ []) text
    (ap (λ (r : ReadJournal). r.events) h.read_back ∙ journal) in
    true≢false (sym (ap is_some read))

-- ---- how a wave ends

-- no release at all
ends_with_none : (p : Plan) (s : ℕ) → EndsWithAll p s [] → ⊥
ends_with_none p s h = no_last h.last h.before h.all

-- a last release that is partial
ends_with_a_part : (p : Plan) (s : ℕ) → EndsWithAll p s (partial none [] ∷ []) → ⊥
ends_with_a_part p s h = true≢false (sym (ap (λ (r : Release). is_final r.kind) (the_last (partial none []) h.last h.before h.all) ∙ ap is_final h.final))

-- ---- reports

-- a text has an end
has_an_end : (text : List ℕ) → [] ≡ text ++ codes "end\n" → ⊥
has_an_end [] e = true≢false (sym (ap is_some e))
has_an_end (x ∷ xs) e = true≢false (sym (ap is_some e))

-- the empty text is no report
reports_nothing : (p : Plan) (journal : List Event) → IsReportOf p Text journal [] → ⊥
unfolding report_text
reports_nothing p journal h = has_an_end _ h.text.is

-- ---- what the texts determine

abbrev is_fault : Status → Bool
is_fault (DeskFault role) = true
is_fault status = false

-- where nothing failed, a command without files does not answer that a file failed
fails_without_a_file : (desk : Change DeskSeen) (out journal : Change SinkSeen) → ¬ Rose desk.before.faults desk.now.faults → ¬ Rose out.before.faults out.now.faults → ¬ Rose journal.before.faults journal.now.faults
    → IsDetermined (Ok (Gen 1 0)) desk out journal (DeskFault Topology) → ⊥
fails_without_a_file desk out journal good_desk good_out good_journal h = elim (h (λ f there. absurd there) good_desk good_out good_journal) [
  | (inl done) ↦ true≢false (ap is_fault done)
  | (inr memory) ↦ true≢false (ap is_fault memory)
]
