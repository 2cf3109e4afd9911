-- From why a call gives a status to what its texts determine, where nothing fails.
use Rattle.std.proofs.Common.{◌≡◌, ◌≤◌, inl, inr, ℕ, Bool, List, [], ◌∷◌, Option, Some, None, Ok, Err, length, refl, sym, ap, subst, ◌∙◌, arith}
use Rattle.std.specs.Prelude.{Result, if◌then◌else◌}
use Rattle.std.proofs.lemmas.Bool.{le-leb, lt-leb}
use Rattle.std.proofs.lemmas.List.{length-append}
use Rattle.overlay_setup.specs.Scripts.{Scripted}
use Rattle.overlay_setup.specs.Topologies.{Nodes}
use Rattle.stat_desk.specs.Change.{Change}
use Rattle.stat_desk.specs.Desk.{Agrees, Bytes, DeskSeen, ReadResult, TooLong}
use Rattle.stat_desk.specs.Sink.{SinkSeen}
use Rattle.stat_plan.specs.Plans.{Plan, Sampled, plan_of}
use Rattle.stat_plan.specs.Limits.{first_over}
use Rattle.text_lines.specs.declared.text_error.TextError.{TextError}
use Rattle.overlay_event.specs.declared.event.Event.{Event}
use Rattle.stat_words.specs.Words.{Asked, AskedSums}
use Rattle.stat_words.specs.Words.{Run, Sim, Replay, Direct, Gen, Cast, Sums, View, Frames}
use Rattle.stat_words.specs.declared.words.RunReport.{RunReport}
use Rattle.stat_words.specs.declared.words.WordFault.{WordFault}
use Rattle.topology_text.specs.Whole.{topology_of}
use Rattle.sample_text.specs.Whole.{samples_of_text}
use Rattle.script_text.specs.Whole.{script_of}
use Rattle.stat_tool.specs.Call.{Answered, AreKnown, Finishes, IsDetermined, all_given, answer_of, answer_of_task, end_of, given}
use Rattle.job_files.specs.Files.{NamedFile, files_of, limit_of}
use Rattle.job_files.specs.Tasks.{Task, RunTask, SimTask, ReplayTask, DirectTask, GenTask, CastTask, SumsTask, ViewTask, CaptureTask, RunOutput}
use Rattle.job_files.specs.NextStep.{AfterPlan, Answers, Does, AreReadResults, Step, Wants, at_capture, at_journal, at_samples, at_script, at_values, by_limit, by_samples, by_script, by_topology, next_step, plan_step}
use Rattle.stat_tool.specs.Outputs.{HasOutput}
use Rattle.job_files.specs.declared.status.Target.TheVariants.{Report, Journal}
use Rattle.job_files.specs.declared.status.Status.{Status}
use Rattle.job_files.specs.declared.status.Status.TheVariants.{Done, BadWords, DeskFault, BadInput, OverLimit, SinkFault, OutOfMemory, BadJournal, Unfinished, BadFrames}

-- ---- the texts that the desk can tell determine what is read

-- reads that lead on alike: the same bytes, or both of a text that is too long
abbrev AreAlike : ReadResult → ReadResult → Type 0
AreAlike (Bytes bytes) (Bytes others) = bytes ≡ others
AreAlike (TooLong bytes) (TooLong others) = Unit {0}
AreAlike (Bytes bytes) (TooLong others) = ⊥
AreAlike (TooLong bytes) (Bytes others) = ⊥

alike_given : (text : List ℕ) (limit : ℕ) (g : ReadResult) → Agrees (Some text) limit g → AreAlike g (given limit text)
alike_given text limit (Bytes bytes) agrees =
    let within = le-leb (length text) limit (subst (λ (b : List ℕ). length b ≤ limit) agrees.whole agrees.within) in
    subst (λ (b : Bool). AreAlike (Bytes bytes) (if b then Bytes text else TooLong text)) (sym within) agrees.whole
alike_given text limit (TooLong bytes) agrees =
    let all = ap length agrees.front.1 ∙ length-append bytes agrees.front.0 in
    let over = lt-leb (length text) limit (omega (arith, agrees.more, all)) in
    subst (λ (b : Bool). AreAlike (TooLong bytes) (if b then Bytes text else TooLong text)) (sym over) tt

-- a step that rests on no byte of a text that is too long is the same
alike_first : (next : ReadResult → Step) → ((bytes others : List ℕ) → next (TooLong bytes) ≡ next (TooLong others)) → (g h : ReadResult) → AreAlike g h → next h ≡ next g
alike_first next long (Bytes bytes) (Bytes others) same = ap (λ (b : List ℕ). next (Bytes b)) (sym same)
alike_first next long (TooLong bytes) (TooLong others) same = long others bytes
alike_first next long (Bytes bytes) (TooLong others) same = absurd same
alike_first next long (TooLong bytes) (Bytes others) same = absurd same

-- one list begins as another
abbrev BeginsAs : List ReadResult → List ReadResult → Type 0
BeginsAs [] all = Unit {0}
BeginsAs (g ∷ results) [] = ⊥
BeginsAs (g ∷ results) (h ∷ all) = AreAlike g h × BeginsAs results all

given_first : (contents : List ℕ → Option (List ℕ)) (f : NamedFile) (files : List NamedFile) (text : List ℕ) → contents f.1 ≡ Some text
    → all_given contents (f ∷ files) ≡ given (limit_of f.0) text ∷ all_given contents files
given_first contents f files text is =
    ap (λ (o : Option (List ℕ)). elim o [ None ↦ [] | Some text ↦ given (limit_of f.0) text ∷ all_given contents files ]) is

-- what is read is the first part of what the texts give
results_begin : (contents : List ℕ → Option (List ℕ)) (files : List NamedFile) (results : List ReadResult) → AreKnown contents files → AreReadResults contents files results → BeginsAs results (all_given contents files)
results_begin contents files [] told read = tt
results_begin contents [] (g ∷ results) told read = absurd read
results_begin contents (f ∷ files) (g ∷ results) told read =
    let text = told f (inl refl) in
    subst (BeginsAs (g ∷ results)) (sym (given_first contents f files text.0 text.1)) (
      alike_given text.0 (limit_of f.0) g (subst (λ (o : Option (List ℕ)). Agrees o (limit_of f.0) g) text.1 read.0),
      results_begin contents files results (λ h there. told h (inr there)) read.1,
    )

-- ---- what is read later doesn't change an answer

-- a step that wants no further file
abbrev IsSettled : Step → Type 0
IsSettled (Wants role) = ⊥
IsSettled (Answers status) = Unit {0}
IsSettled (Does task) = Unit {0}

-- after a plan, too
abbrev IsStable : AfterPlan → Type 0
IsStable after = (p : Plan) (rest all : List ReadResult) → BeginsAs rest all → IsSettled (after p rest) → after p all ≡ after p rest

module _ (after : AfterPlan) (stable : IsStable after) where
  limit_stays : (p : Plan) (over : Option (ℕ × ℕ)) (rest all : List ReadResult) → BeginsAs rest all → IsSettled (by_limit p over rest after) → by_limit p over all after ≡ by_limit p over rest after
  limit_stays p None rest all front settled = stable p rest all front settled
  limit_stays p (Some v) rest all front settled = refl

  by_script_stays : (t : Nodes) (s : Sampled) (c : Result Scripted TextError) (rest all : List ReadResult) → BeginsAs rest all → IsSettled (by_script t s c rest after) → by_script t s c all after ≡ by_script t s c rest after
  by_script_stays t s (Err e) rest all front settled = refl
  by_script_stays t s (Ok c) rest all front settled = limit_stays (plan_of t s c) (first_over (plan_of t s c)) rest all front settled

  same_script : (t : Nodes) (s : Sampled) (g : ReadResult) (rest all : List ReadResult) → BeginsAs rest all → IsSettled (at_script t s (g ∷ rest) after) → at_script t s (g ∷ all) after ≡ at_script t s (g ∷ rest) after
  same_script t s (TooLong bytes) rest all front settled = refl
  same_script t s (Bytes bytes) rest all front settled = by_script_stays t s (script_of t bytes) rest all front settled

  script_stays : (t : Nodes) (s : Sampled) (rest all : List ReadResult) → BeginsAs rest all → IsSettled (at_script t s rest after) → at_script t s all after ≡ at_script t s rest after
  script_stays t s [] all front settled = absurd settled
  script_stays t s (g ∷ rest) [] front settled = absurd front
  script_stays t s (g ∷ rest) (h ∷ all) front settled = alike_first (λ x. at_script t s (x ∷ all) after) (λ bytes others. refl) g h front.0 ∙ same_script t s g rest all front.1 settled

  by_samples_stays : (t : Nodes) (s : Result Sampled TextError) (rest all : List ReadResult) → BeginsAs rest all → IsSettled (by_samples t s rest after) → by_samples t s all after ≡ by_samples t s rest after
  by_samples_stays t (Err e) rest all front settled = refl
  by_samples_stays t (Ok s) rest all front settled = script_stays t s rest all front settled

  same_samples : (t : Nodes) (g : ReadResult) (rest all : List ReadResult) → BeginsAs rest all → IsSettled (at_samples t (g ∷ rest) after) → at_samples t (g ∷ all) after ≡ at_samples t (g ∷ rest) after
  same_samples t (TooLong bytes) rest all front settled = refl
  same_samples t (Bytes bytes) rest all front settled = by_samples_stays t (samples_of_text t bytes) rest all front settled

  samples_stay : (t : Nodes) (rest all : List ReadResult) → BeginsAs rest all → IsSettled (at_samples t rest after) → at_samples t all after ≡ at_samples t rest after
  samples_stay t [] all front settled = absurd settled
  samples_stay t (g ∷ rest) [] front settled = absurd front
  samples_stay t (g ∷ rest) (h ∷ all) front settled = alike_first (λ x. at_samples t (x ∷ all) after) (λ bytes others. refl) g h front.0 ∙ same_samples t g rest all front.1 settled

  by_topology_stays : (t : Result Nodes TextError) (rest all : List ReadResult) → BeginsAs rest all → IsSettled (by_topology t rest after) → by_topology t all after ≡ by_topology t rest after
  by_topology_stays (Err e) rest all front settled = refl
  by_topology_stays (Ok t) rest all front settled = samples_stay t rest all front settled

  same_topology : (g : ReadResult) (rest all : List ReadResult) → BeginsAs rest all → IsSettled (plan_step (g ∷ rest) after) → plan_step (g ∷ all) after ≡ plan_step (g ∷ rest) after
  same_topology (TooLong bytes) rest all front settled = refl
  same_topology (Bytes bytes) rest all front settled = by_topology_stays (topology_of bytes) rest all front settled

  plan_stays : (rest all : List ReadResult) → BeginsAs rest all → IsSettled (plan_step rest after) → plan_step all after ≡ plan_step rest after
  plan_stays [] all front settled = absurd settled
  plan_stays (g ∷ rest) [] front settled = absurd front
  plan_stays (g ∷ rest) (h ∷ all) front settled = alike_first (λ x. plan_step (x ∷ all) after) (λ bytes others. refl) g h front.0 ∙ same_topology g rest all front.1 settled

same_journal : (wanted : RunReport) (p : Plan) (g : ReadResult) (rest all : List ReadResult) → at_journal wanted p (g ∷ all) ≡ at_journal wanted p (g ∷ rest)
same_journal wanted p (TooLong bytes) rest all = refl
same_journal wanted p (Bytes bytes) rest all = refl

journal_stays : (wanted : RunReport) → IsStable (at_journal wanted)
journal_stays wanted p [] all front settled = absurd settled
journal_stays wanted p (g ∷ rest) [] front settled = absurd front
journal_stays wanted p (g ∷ rest) (h ∷ all) front settled = alike_first (λ x. at_journal wanted p (x ∷ all)) (λ bytes others. refl) g h front.0 ∙ same_journal wanted p g rest all

same_values : (seed : ℕ) (wanted : AskedSums) (p : Plan) (g : ReadResult) (rest all : List ReadResult) → at_values seed wanted p (g ∷ all) ≡ at_values seed wanted p (g ∷ rest)
same_values seed wanted p (TooLong bytes) rest all = refl
same_values seed wanted p (Bytes bytes) rest all = refl

values_stay : (seed : ℕ) (wanted : AskedSums) → IsStable (at_values seed wanted)
values_stay seed wanted p [] all front settled = absurd settled
values_stay seed wanted p (g ∷ rest) [] front settled = absurd front
values_stay seed wanted p (g ∷ rest) (h ∷ all) front settled = alike_first (λ x. at_values seed wanted p (x ∷ all)) (λ bytes others. refl) g h front.0 ∙ same_values seed wanted p g rest all

same_capture : (g : ReadResult) (rest all : List ReadResult) → at_capture (g ∷ all) ≡ at_capture (g ∷ rest)
same_capture (TooLong bytes) rest all = refl
same_capture (Bytes bytes) rest all = refl

capture_stays : (rest all : List ReadResult) → BeginsAs rest all → IsSettled (at_capture rest) → at_capture all ≡ at_capture rest
capture_stays [] all front settled = absurd settled
capture_stays (g ∷ rest) [] front settled = absurd front
capture_stays (g ∷ rest) (h ∷ all) front settled = alike_first (λ x. at_capture (x ∷ all)) (λ bytes others. refl) g h front.0 ∙ same_capture g rest all

step_stays : (asked : Asked) (results all : List ReadResult) → BeginsAs results all → IsSettled (next_step asked results) → next_step asked all ≡ next_step asked results
step_stays (Run names workers wanted) results all front settled = plan_stays (λ p rest. Does (RunTask p wanted)) (λ p rest all front settled. refl) results all front settled
step_stays (Sim names seed wanted) results all front settled = plan_stays (λ p rest. Does (SimTask p seed wanted)) (λ p rest all front settled. refl) results all front settled
step_stays (Replay names journal wanted) results all front settled = plan_stays (at_journal wanted) (journal_stays wanted) results all front settled
step_stays (Direct names workers form) results all front settled = plan_stays (λ p rest. Does (DirectTask p form)) (λ p rest all front settled. refl) results all front settled
step_stays (Gen size seed) results all front settled = refl
step_stays (Cast names seed commands) results all front settled = plan_stays (λ p rest. Does (CastTask p seed commands)) (λ p rest all front settled. refl) results all front settled
step_stays (Sums names seed wanted) results all front settled = plan_stays (at_values seed wanted) (values_stay seed wanted) results all front settled
step_stays (View names seed wanted) results all front settled = plan_stays (λ p rest. Does (ViewTask p seed wanted)) (λ p rest all front settled. refl) results all front settled
step_stays (Frames capture) results all front settled = capture_stays results all front settled

-- ---- the answers

-- a job ends as its output says
end_of_task : (task : Task) (output : RunOutput) → HasOutput task output → end_of output.unfinished ≡ answer_of_task task
end_of_task (RunTask p wanted) output has = ap end_of has.finished
end_of_task (SimTask p seed wanted) output has = ap end_of has.0.finished
end_of_task (ReplayTask p events wanted) output has = ap end_of has.unfinished
end_of_task (DirectTask p form) output has = ap end_of has.finished
end_of_task (GenTask size seed) output has = ap end_of has.finished
end_of_task (CastTask p seed commands) output has = ap end_of has.finished
end_of_task (SumsTask p v seed f form) output has = ap end_of has.finished
end_of_task (ViewTask p seed wanted) output has = ap end_of has.finished
end_of_task (CaptureTask bytes) output has = ap end_of has.finished

module _ (asked : Asked) (contents : List ℕ → Option (List ℕ)) (told : AreKnown contents (files_of asked)) where
  answers : (results : List ReadResult) (next : Step) → AreReadResults contents (files_of asked) results → next_step asked results ≡ next → IsSettled next → answer_of next ≡ answer_of (next_step asked (all_given contents (files_of asked)))
  answers results next read is settled =
      ap answer_of (sym is)
      ∙ ap answer_of (sym (step_stays asked results (all_given contents (files_of asked)) (results_begin contents (files_of asked) results told read) (subst IsSettled (sym is) settled)))

  finishes : (results : List ReadResult) (out journal : Change SinkSeen) (events : List Event) (status : Status) (f : Finishes (next_step asked results) out journal events status) → AreReadResults contents (files_of asked) results → status ≡ end_of f.output.unfinished
      → status ≡ answer_of (next_step asked (all_given contents (files_of asked)))
  finishes results out journal events status f read ends = ends ∙ end_of_task f.task f.output f.is_output ∙ answers results (Does f.task) read f.step tt

-- the texts determine the answer, where nothing fails
pub determined : (asked : Asked) (desk : Change DeskSeen) (out journal : Change SinkSeen) (events : List Event) (status : Status) → Answered (Ok asked) desk out journal events status → IsDetermined (Ok asked) desk out journal status
determined asked desk out journal events Done a told no_fault no_loss no_journal_loss =
    inl (finishes asked desk.before.contents told a.0 out journal events Done a.1.1 a.1.0.contents (ap end_of (sym a.1.1.written.0)))
determined asked desk out journal events (Unfinished e) a told no_fault no_loss no_journal_loss =
    inl (finishes asked desk.before.contents told a.0 out journal events (Unfinished e) a.1.1 a.1.0.contents (ap end_of (sym a.1.1.written.0)))
determined asked desk out journal events OutOfMemory a told no_fault no_loss no_journal_loss = inr refl
determined asked desk out journal events (BadInput file line reason) a told no_fault no_loss no_journal_loss =
    inl (answers asked desk.before.contents told a.0 (Answers (BadInput file line reason)) a.1.0.contents a.1.1.0 tt)
determined asked desk out journal events (OverLimit file line what most) a told no_fault no_loss no_journal_loss =
    inl (answers asked desk.before.contents told a.0 (Answers (OverLimit file line what most)) a.1.0.contents a.1.1.0 tt)
determined asked desk out journal events (BadJournal i) a told no_fault no_loss no_journal_loss =
    inl (answers asked desk.before.contents told a.0 (Answers (BadJournal i)) a.1.0.contents a.1.1.0 tt)
determined asked desk out journal events (BadFrames at reason) a told no_fault no_loss no_journal_loss =
    inl (answers asked desk.before.contents told a.0 (Answers (BadFrames at reason)) a.1.0.contents a.1.1.0 tt)
determined asked desk out journal events (DeskFault role) a told no_fault no_loss no_journal_loss = absurd (no_fault (omega (arith, a.1.1.0.1.counted)))
determined asked desk out journal events (SinkFault Report) a told no_fault no_loss no_journal_loss = absurd (no_loss a.1.1.written.0.rose)
determined asked desk out journal events (SinkFault Journal) a told no_fault no_loss no_journal_loss = absurd (no_journal_loss a.1.1.written.1.rose)
determined asked desk out journal events (BadWords fault) a told no_fault no_loss no_journal_loss = absurd a.1.1.0

-- the same, for any words
pub all_determined : (asked : Result Asked WordFault) (desk : Change DeskSeen) (out journal : Change SinkSeen) (events : List Event) (status : Status) → Answered asked desk out journal events status → IsDetermined asked desk out journal status
all_determined (Err fault) desk out journal events status a = tt
all_determined (Ok command) desk out journal events status a = determined command desk out journal events status a
