-- What the output of a task may be.
use Rattle.std.specs.Prelude.{◌≡◌, ℕ, List, [], slice_get, None}
use Rattle.stat_plan.specs.Invariants.{IsPlan}
use Rattle.stat_plan.specs.Plans.{Plan}
use Rattle.overlay_event.specs.declared.event.Event.{Event}
use Rattle.overlay_core.specs.Machine.{enabled_events}
use Rattle.overlay_core.specs.Pick.{picked}
use Rattle.overlay_core.specs.Runs.{after}
use Rattle.overlay_core.specs.Whole.{LosesNoDaemon}
use Rattle.front_end.specs.Report.{AllStreamsWait}
use Rattle.wide_merge.specs.Waves.{direct_releases}
use Rattle.journal_text.specs.Reading.{ReadJournal, journal_of}
use Rattle.journal_text.specs.Text.{journal_text}
use Rattle.packet_frame.specs.Frame.{Message}
use Rattle.packet_frame.specs.Streams.{Begins}
use Rattle.capture_text.specs.CaptureText.{text_of_capture}
use Rattle.control_cast.specs.Casts.{ObeysAll, ObeysInOrder}
use Rattle.control_cast.specs.Machine as cast
use Rattle.control_cast.specs.Picked as cast_pick
use Rattle.cast_text.specs.CastText as cast_text
use Rattle.generated_job.specs.Job.{job_plan}
use Rattle.generated_job.specs.Summary.{summary_of}
use Rattle.value_text.specs.Numbers.{Numbers}
use Rattle.rank_sums.specs.declared.fold.Fold.{Fold}
use Rattle.stat_words.specs.Words.{AskedView}
use Rattle.stat_words.specs.declared.words.ReportForm.{ReportForm}
use Rattle.stat_words.specs.declared.words.RunReport.{RunReport}
use Rattle.job_files.specs.Tasks.{Task, RunTask, SimTask, ReplayTask, DirectTask, GenTask, CastTask, SumsTask, ViewTask, CaptureTask, RunOutput}
use Rattle.job_files.specs.NextStep.{Does, replay_step}
use Rattle.stat_tool.specs.Reports.{EndsWaves, IsDirectIn, IsReportIn, IsSumsOf, IsViewOf, IsWrittenOf}

-- A given journal, done event by event: what is wanted of it, and the first event that may still come. No journal is written.
-- Where nothing may come, each wave has ended.
pub record IsReplay (p : Plan) (events : List Event) (wanted : RunReport) (output : RunOutput) : Type 0 where
  pub plan : IsPlan p
  pub journal : output.journal ≡ events
  pub report : IsWrittenOf p wanted events output.report
  pub unfinished : output.unfinished ≡ slice_get (enabled_events p (after p events)) 0
  pub ended : output.unfinished ≡ None → EndsWaves p events
  pub unwritten : output.journal_text ≡ []

-- One thread that replays the text of a journal prints the same report: the text is read as that journal with no bad line,
-- its events may come, and whatever the replay's output is, it is finished and its report is the same, byte for byte.
pub record IsReplayed (p : Plan) (wanted : RunReport) (output : RunOutput) : Type 0 where
  pub read_back : journal_of p output.journal_text ≡ record { events = output.journal; bad = None }
  pub accepted : replay_step p wanted (journal_of p output.journal_text) ≡ Does (ReplayTask p output.journal wanted)
  pub same : (replay : RunOutput) → IsReplay p output.journal wanted replay → (replay.unfinished ≡ None) × (replay.report ≡ output.report)

-- The headline: what a run of a plan returns, on however many workers, and in whatever order they have done its events.
pub record HasRun (p : Plan) (wanted : RunReport) (output : RunOutput) : Type 0 where
  pub plan : IsPlan p
  -- the report is what is wanted of the journal, each wave has ended, and no event may come
  pub report : IsWrittenOf p wanted output.journal output.report
  pub ended : EndsWaves p output.journal
  pub finished : output.unfinished ≡ None
  -- the journal is written, and one thread that replays it prints the same report
  pub written : output.journal_text ≡ journal_text p output.journal
  pub replayed : IsReplayed p wanted output
  -- where every stream waits for all and no daemon is lost, the report is that of the direct merge of each wave, whatever
  -- the journal is, with the journal's losses
  pub all_wait : AllStreamsWait p → ((s : ℕ) → LosesNoDaemon p output.journal s)
      → IsDirectIn wanted p output.journal output.report

-- The direct merge of each wave over all ranks of its stream: no event, and no line of a fault.
pub record HasDirect (p : Plan) (form : ReportForm) (output : RunOutput) : Type 0 where
  pub plan : IsPlan p
  pub journal : output.journal ≡ []
  pub report : IsReportIn form p [] (direct_releases p) [] output.report
  pub finished : output.unfinished ≡ None
  pub unwritten : output.journal_text ≡ []

-- A generated job, run with events that its seed picks: the summary of this run.
pub record HasSummary (size seed : ℕ) (output : RunOutput) : Type 0 where
  pub journal : output.journal ≡ picked (job_plan seed size) seed
  pub ended : EndsWaves (job_plan seed size) output.journal
  pub report : output.report ≡ summary_of seed size output.journal
  pub finished : output.unfinished ≡ None
  pub unwritten : output.journal_text ≡ []

-- Commands to the nodes of a plan, whose events a seed picks: the report of the state after them, and their journal. They may
-- come in this order, none may come after them, and no event of a run is among them.
pub record HasCast (p : Plan) (seed commands : ℕ) (output : RunOutput) : Type 0 where
  pub plan : IsPlan p
  pub report : output.report ≡ cast_text.report_text p commands (cast.after p (cast_pick.picked p commands seed))
  pub written : output.journal_text ≡ cast_text.journal_text p (cast_pick.picked p commands seed)
  pub legal : cast.IsLegal p commands (cast_pick.picked p commands seed)
  pub quiet : cast.IsQuiet p commands (cast.after p (cast_pick.picked p commands seed))
  -- each node obeyed the commands from 1 on in order, each once, and each living node all of them
  pub in_order : ObeysInOrder p (cast.after p (cast_pick.picked p commands seed))
  pub all : ObeysAll p commands (cast.after p (cast_pick.picked p commands seed))
  pub finished : output.unfinished ≡ None
  pub journal : output.journal ≡ []

-- The fold of the ranks' numbers at each release of a run whose events a seed picks. Each wave has ended; the journal is returned
-- and not written.
pub record HasSums (p : Plan) (v : Numbers) (seed : ℕ) (f : Fold) (form : ReportForm) (output : RunOutput) : Type 0 where
  pub plan : IsPlan p
  pub journal : output.journal ≡ picked p seed
  pub report : IsSumsOf p v f form output.journal output.report
  pub ended : EndsWaves p output.journal
  pub finished : output.unfinished ≡ None
  pub unwritten : output.journal_text ≡ []

-- A view of each release of a run whose events a seed picks. Each wave has ended; the journal is returned and not written.
pub record HasView (p : Plan) (seed : ℕ) (wanted : AskedView) (output : RunOutput) : Type 0 where
  pub plan : IsPlan p
  pub journal : output.journal ≡ picked p seed
  pub report : IsViewOf p wanted output.journal output.report
  pub ended : EndsWaves p output.journal
  pub finished : output.unfinished ≡ None
  pub unwritten : output.journal_text ≡ []

-- The frames of a capture, printed. They are its bytes to the last one.
pub record HasCapture (bytes : List ℕ) (output : RunOutput) : Type 0 where
  pub frames : List (Message × ℕ)
  pub whole : Begins frames bytes []
  pub report : output.report ≡ text_of_capture frames
  pub journal : output.journal ≡ []
  pub finished : output.unfinished ≡ None
  pub unwritten : output.journal_text ≡ []

-- The table of the modes. In a simulation the seed picks the events.
abbrev pub HasOutput : Task → RunOutput → Type 0
HasOutput (RunTask p wanted) output = HasRun p wanted output
HasOutput (SimTask p seed wanted) output = HasRun p wanted output × (output.journal ≡ picked p seed)
HasOutput (ReplayTask p events wanted) output = IsReplay p events wanted output
HasOutput (DirectTask p form) output = HasDirect p form output
HasOutput (GenTask size seed) output = HasSummary size seed output
HasOutput (CastTask p seed commands) output = HasCast p seed commands output
HasOutput (SumsTask p v seed f form) output = HasSums p v seed f form output
HasOutput (ViewTask p seed wanted) output = HasView p seed wanted output
HasOutput (CaptureTask bytes) output = HasCapture bytes output

-- what was read of a journal leads to its replay, and this is that replay's output
abbrev pub ReplaysAs : Plan → RunReport → ReadJournal → RunOutput → Type 0
ReplaysAs p wanted read output = (replay_step p wanted read ≡ Does (ReplayTask p output.journal wanted)) × HasOutput (ReplayTask p output.journal wanted) output
