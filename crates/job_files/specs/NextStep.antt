-- What a call does next, by the files that it has read, one after another.
use Rattle.std.specs.Prelude.{ℕ, suc, List, [], ◌∷◌, Option, Some, None, Result, Ok, Err, option_map, if◌then◌else◌}
use Rattle.stat_desk.specs.Desk.{Agrees, Bytes, ReadResult, TooLong}
use Rattle.overlay_event.specs.declared.event.Event.{Event}
use Rattle.stat_plan.specs.Limits.{first_over}
use Rattle.stat_plan.specs.Plans.{Plan, Sampled, plan_of}
use Rattle.overlay_setup.specs.Scripts.{Scripted}
use Rattle.overlay_setup.specs.Topologies.{Nodes}
use Rattle.overlay_core.specs.Machine.{State, start, step, is_enabled}
use Rattle.text_lines.specs.declared.text_error.TextError.{TextError}
use Rattle.text_lines.specs.declared.text_error.Quantity.TheVariants.{Bytes as TheBytes, Prefixes}
use Rattle.topology_text.specs.Whole.{topology_of}
use Rattle.sample_text.specs.Whole.{samples_of_text}
use Rattle.script_text.specs.Whole.{script_of}
use Rattle.journal_text.specs.Reading.{ReadJournal, journal_of}
use Rattle.packet_frame.specs.Fields.{Refusal}
use Rattle.packet_frame.specs.Frame.{Message}
use Rattle.capture_text.specs.Captures.{capture_of}
use Rattle.value_text.specs.Numbers.{Numbers}
use Rattle.value_text.specs.Steps.{values_of_text}
use Rattle.stat_plan.specs.Samples.{all_ranks}
use Rattle.stat_words.specs.Words.{Asked, AskedSums}
use Rattle.stat_words.specs.Words.{Run, Sim, Replay, Direct, Gen, Cast, Sums, View, Frames}
use Rattle.stat_words.specs.declared.words.RunReport.{RunReport}
use Rattle.job_files.specs.Files.{NamedFile, limit_of}
use Rattle.job_files.specs.Tasks.{Task, RunTask, SimTask, ReplayTask, DirectTask, GenTask, CastTask, SumsTask, ViewTask, CaptureTask}
use Rattle.job_files.specs.Status.{refusal_of}
use Rattle.job_files.specs.declared.status.FileRole.{FileRole}
use Rattle.job_files.specs.declared.status.FileRole.TheVariants.{Topology, Samples, Script, Journal, Capture, Values}
use Rattle.job_files.specs.declared.status.Status.{Status}
use Rattle.job_files.specs.declared.status.Status.TheVariants.{OverLimit, BadJournal, BadFrames}

-- what comes next: this file is read, this is the answer, or this task is done
pub data Step : Type 0 where
  Wants : FileRole → Step
  Answers : Status → Step
  Does : Task → Step

-- what comes after a plan, by what was read after its three files
abbrev pub AfterPlan : Type 0
AfterPlan = Plan → List ReadResult → Step

-- a file of more bytes than its limit
abbrev pub too_long : FileRole → Status
too_long role = OverLimit role 0 TheBytes (limit_of role)

-- ---- the plan

-- a plan whose first wave over the limit of prefixes is this one
abbrev pub by_limit : Plan → Option (ℕ × ℕ) → List ReadResult → AfterPlan → Step
by_limit p None rest after = after p rest
by_limit p (Some v) rest after = Answers (OverLimit Samples 0 Prefixes 2048)

-- a plan: the call goes on, where it is within the limit of prefixes
abbrev pub with_plan : Plan → List ReadResult → AfterPlan → Step
with_plan p rest after = by_limit p (first_over p) rest after

-- by what the script was read as
abbrev pub by_script : Nodes → Sampled → Result Scripted TextError → List ReadResult → AfterPlan → Step
by_script t s (Err e) rest after = Answers (refusal_of Script e)
by_script t s (Ok c) rest after = with_plan (plan_of t s c) rest after

abbrev pub at_script : Nodes → Sampled → List ReadResult → AfterPlan → Step
at_script t s [] after = Wants Script
at_script t s (TooLong bytes ∷ rest) after = Answers (too_long Script)
at_script t s (Bytes script ∷ rest) after = by_script t s (script_of t script) rest after

-- by what the samples were read as
abbrev pub by_samples : Nodes → Result Sampled TextError → List ReadResult → AfterPlan → Step
by_samples t (Err e) rest after = Answers (refusal_of Samples e)
by_samples t (Ok s) rest after = at_script t s rest after

abbrev pub at_samples : Nodes → List ReadResult → AfterPlan → Step
at_samples t [] after = Wants Samples
at_samples t (TooLong bytes ∷ rest) after = Answers (too_long Samples)
at_samples t (Bytes samples ∷ rest) after = by_samples t (samples_of_text t samples) rest after

-- by what the topology was read as
abbrev pub by_topology : Result Nodes TextError → List ReadResult → AfterPlan → Step
by_topology (Err e) rest after = Answers (refusal_of Topology e)
by_topology (Ok t) rest after = at_samples t rest after

-- the topology, the samples, the script: each file is tested before the next one is read
abbrev pub plan_step : List ReadResult → AfterPlan → Step
plan_step [] after = Wants Topology
plan_step (TooLong bytes ∷ rest) after = Answers (too_long Topology)
plan_step (Bytes topology ∷ rest) after = by_topology (topology_of topology) rest after

-- ---- the journal

-- the number of the first of these events that is not enabled where it comes
abbrev pub first_refused : Plan → State → List Event → Option ℕ
first_refused p st [] = None
first_refused p st (e ∷ es) = if is_enabled p st e then option_map suc (first_refused p (step p st e) es) else Some 0

-- events that may all come: they are replayed, where no line was bad
abbrev pub by_bad_line : Plan → RunReport → List Event → Option ℕ → Step
by_bad_line p wanted events None = Does (ReplayTask p events wanted)
by_bad_line p wanted events (Some i) = Answers (BadJournal i)

-- an event that may not come comes before the bad line
abbrev pub by_refused : Plan → RunReport → ReadJournal → Option ℕ → Step
by_refused p wanted read None = by_bad_line p wanted read.events read.bad
by_refused p wanted read (Some i) = Answers (BadJournal i)

-- by what the journal was read as
abbrev pub replay_step : Plan → RunReport → ReadJournal → Step
replay_step p wanted read = by_refused p wanted read (first_refused p (start p) read.events)

abbrev pub at_journal : RunReport → AfterPlan
at_journal wanted p [] = Wants Journal
at_journal wanted p (TooLong bytes ∷ rest) = Answers (too_long Journal)
at_journal wanted p (Bytes journal ∷ rest) = replay_step p wanted (journal_of p journal)

-- ---- the numbers of the ranks

-- what a values text says of the ranks of a plan, or its first error
abbrev pub values_of : Plan → List ℕ → Result Numbers TextError
values_of p text = values_of_text (all_ranks p.placed) text

-- by what the numbers were read as
abbrev pub by_values : Plan → ℕ → AskedSums → Result Numbers TextError → Step
by_values p seed wanted (Err e) = Answers (refusal_of Values e)
by_values p seed wanted (Ok v) = Does (SumsTask p v seed wanted.fold wanted.form)

abbrev pub at_values : ℕ → AskedSums → AfterPlan
at_values seed wanted p [] = Wants Values
at_values seed wanted p (TooLong bytes ∷ rest) = Answers (too_long Values)
at_values seed wanted p (Bytes text ∷ rest) = by_values p seed wanted (values_of p text)

-- ---- the capture

-- the bytes are printed, where they are frames to the last byte
abbrev pub by_capture : List ℕ → Result (List (Message × ℕ)) Refusal → Step
by_capture bytes (Ok frames) = Does (CaptureTask bytes)
by_capture bytes (Err refusal) = Answers (BadFrames refusal.at refusal.reason)

abbrev pub at_capture : List ReadResult → Step
at_capture [] = Wants Capture
at_capture (TooLong bytes ∷ rest) = Answers (too_long Capture)
at_capture (Bytes bytes ∷ rest) = by_capture bytes (capture_of bytes)

-- ---- the modes

-- what is asked for, by what the files gave
abbrev pub next_step : Asked → List ReadResult → Step
next_step (Run names workers wanted) results = plan_step results (λ p rest. Does (RunTask p wanted))
next_step (Sim names seed wanted) results = plan_step results (λ p rest. Does (SimTask p seed wanted))
next_step (Replay names journal wanted) results = plan_step results (at_journal wanted)
next_step (Direct names workers form) results = plan_step results (λ p rest. Does (DirectTask p form))
next_step (Gen size seed) results = Does (GenTask size seed)
next_step (Cast names seed commands) results = plan_step results (λ p rest. Does (CastTask p seed commands))
next_step (Sums names seed wanted) results = plan_step results (at_values seed wanted)
next_step (View names seed wanted) results = plan_step results (λ p rest. Does (ViewTask p seed wanted))
next_step (Frames capture) results = at_capture results

-- ---- what the files gave

-- these are what the first of these files gave, where their contents are known
abbrev pub AreReadResults : (List ℕ → Option (List ℕ)) → List NamedFile → List ReadResult → Type 0
AreReadResults contents files [] = Unit {0}
AreReadResults contents [] (g ∷ gs) = ⊥
AreReadResults contents (f ∷ files) (g ∷ gs) = Agrees (contents f.1) (limit_of f.0) g × AreReadResults contents files gs
