-- What the call answers, and why.
use Rattle.std.specs.Prelude.{◌≡◌, ◌⊎◌, ◌+◌, if◌then◌else◌, nat_le, length, ℕ, List, [], ◌∷◌, ◌++◌, slice_get, map, String, string_bytes, Option, Some, None, Result, Ok, Err}
use Rattle.std.specs.Global.{Global}
use Rattle.overlay_setup.specs.NodeSets.{In}
use Rattle.overlay_core.specs.Machine.{enabled_events}
use Rattle.overlay_core.specs.Runs.{after}
use Rattle.stat_desk.specs.Change.{Change}
use Rattle.stat_desk.specs.Desk.{Bytes, DeskSeen, HasGiven, ReadResult, TooLong}
use Rattle.stat_desk.specs.Faults.{Rose}
use Rattle.stat_desk.specs.Sink.{SinkSeen, TookNothing, TookPrefix, TookWhole}
use Rattle.overlay_event.specs.declared.event.Event.{Event}
use Rattle.stat_plan.specs.Plans.{Plan}
use Rattle.journal_text.specs.Reading.{ReadJournal, journal_of}
use Rattle.stat_words.specs.Words.{Asked, Run, Sim, Cast, asked}
use Rattle.stat_words.specs.declared.words.WordFault.{WordFault}
use Rattle.job_files.specs.Files.{NamedFile, files_of, limit_of, names_in}
use Rattle.job_files.specs.Tasks.{Task, RunTask, SimTask, ReplayTask, DirectTask, GenTask, CastTask, SumsTask, ViewTask, CaptureTask, RunOutput}
use Rattle.job_files.specs.Reading.{HasRead, Prevents, Refuses}
use Rattle.job_files.specs.NextStep.{Answers, Does, Step, Wants, next_step}
use Rattle.stat_tool.specs.Outputs.{HasOutput}
use Rattle.job_files.specs.declared.status.FileRole.TheVariants.{Journal as RoleJournal}
use Rattle.job_files.specs.declared.status.Target.TheVariants.{Report, Journal}
use Rattle.job_files.specs.declared.status.Status.{Status}
use Rattle.job_files.specs.declared.status.Status.TheVariants.{Done, BadWords, SinkFault, OutOfMemory, BadJournal, Unfinished, BadFrames}

-- what the words of a command line ask for
abbrev pub asked_by : List (String Global) → Result Asked WordFault
asked_by words = asked (map string_bytes words)

-- all these names were asked for, each once, in order
abbrev pub AreAllRead : List (List ℕ) → Change DeskSeen → Type 0
AreAllRead names desk = desk.now.reads ≡ desk.before.reads ++ names

-- What the sinks of the report and of the journal have of an output, by the status. The report is written first.
abbrev pub Written : RunOutput → Change SinkSeen → Change SinkSeen → Status → Type 0
Written output out journal Done = (output.unfinished ≡ None) × (TookWhole out output.report × TookWhole journal output.journal_text)
Written output out journal (Unfinished e) = (output.unfinished ≡ Some e) × (TookWhole out output.report × TookWhole journal output.journal_text)
Written output out journal (SinkFault Report) = TookPrefix out output.report × TookNothing journal
Written output out journal (SinkFault Journal) = TookWhole out output.report × TookPrefix journal output.journal_text
Written output out journal status = ⊥

-- The task was done: the files lead to it, and its output is the journal that is returned and what was written. What the
-- output of each task is says `HasOutput`.
pub record Finishes (next : Step) (out journal : Change SinkSeen) (events : List Event) (status : Status) : Type 0 where
  pub task : Task
  pub output : RunOutput
  pub step : next ≡ Does task
  pub is_output : HasOutput task output
  pub given : events ≡ output.journal
  pub written : Written output out journal status

-- nothing was written, and no event is returned
pub record StaysSame (out journal : Change SinkSeen) (events : List Event) : Type 0 where
  pub same_report : TookNothing out
  pub same_journal : TookNothing journal
  pub no_events : events ≡ []

-- Why a call has a status and returns events, and what it leaves in the sinks: it did the task, or it stopped before it wrote.
abbrev pub Explains : List NamedFile → Change DeskSeen → Change SinkSeen → Change SinkSeen → Step → List Event → Status → Type 0
Explains files desk out journal next events Done = Finishes next out journal events Done
Explains files desk out journal next events (Unfinished e) = Finishes next out journal events (Unfinished e)
Explains files desk out journal next events (SinkFault target) = Finishes next out journal events (SinkFault target)
Explains files desk out journal next events status = Prevents files desk next status × StaysSame out journal events

-- Good words: the answer rests on what some of the files gave, in order. Bad words are answered as such.
abbrev pub Answered : Result Asked WordFault → Change DeskSeen → Change SinkSeen → Change SinkSeen → List Event → Status → Type 0
Answered (Err fault) desk out journal events status = ((status ≡ BadWords fault) ⊎ (status ≡ OutOfMemory)) × StaysSame out journal events
Answered (Ok asked) desk out journal events status =
    (results : List ReadResult) × (HasRead (files_of asked) (next_step asked) desk results
    × Explains (files_of asked) desk out journal (next_step asked results) events status)

-- ---- what the texts determine

-- What a read of a text gives, where nothing fails. Of a text that is too long a desk may give fewer bytes; no step rests on
-- how many.
abbrev pub given : ℕ → List ℕ → ReadResult
given limit text = if nat_le (length text) limit then Bytes text else TooLong text

-- what reads of all these files return, where their contents are known and nothing fails
abbrev pub all_given : (List ℕ → Option (List ℕ)) → List NamedFile → List ReadResult
all_given contents [] = []
all_given contents (f ∷ files) = elim (contents f.1) [ None ↦ [] | Some text ↦ given (limit_of f.0) text ∷ all_given contents files ]

-- the contents of all these files are known
abbrev pub AreKnown : (List ℕ → Option (List ℕ)) → List NamedFile → Type 0
AreKnown contents files = (f : NamedFile) → In f files → (text : List ℕ) × (contents f.1 ≡ Some text)

-- a replay that ends early says which event may come next
abbrev pub end_of : Option Event → Status
end_of None = Done
end_of (Some e) = Unfinished e

-- the answer of a task, where nothing fails
abbrev pub answer_of_task : Task → Status
answer_of_task (RunTask p wanted) = Done
answer_of_task (SimTask p seed wanted) = Done
answer_of_task (ReplayTask p events wanted) = end_of (slice_get (enabled_events p (after p events)) 0)
answer_of_task (DirectTask p form) = Done
answer_of_task (GenTask size seed) = Done
answer_of_task (CastTask p seed commands) = Done
answer_of_task (SumsTask p v seed f form) = Done
answer_of_task (ViewTask p seed wanted) = Done
answer_of_task (CaptureTask bytes) = Done

-- the answer that a step leads to, where nothing fails
abbrev pub answer_of : Step → Status
answer_of (Does task) = answer_of_task task
answer_of (Answers status) = status
answer_of (Wants role) = OutOfMemory

-- Where the contents of the files are known and nothing fails, they determine the answer, running out of memory aside.
abbrev pub IsDetermined : Result Asked WordFault → Change DeskSeen → Change SinkSeen → Change SinkSeen → Status → Type 0
IsDetermined (Err fault) desk out journal status = Unit {0}
IsDetermined (Ok asked) desk out journal status = AreKnown desk.before.contents (files_of asked)
    → ¬ Rose desk.before.faults desk.now.faults → ¬ Rose out.before.faults out.now.faults
    → ¬ Rose journal.before.faults journal.now.faults
    → (status ≡ answer_of (next_step asked (all_given desk.before.contents (files_of asked)))) ⊎ (status ≡ OutOfMemory)

-- whether a status says that something was written
abbrev pub HasWritten : Status → Type 0
HasWritten Done = Unit {0}
HasWritten (Unfinished e) = Unit {0}
HasWritten (SinkFault target) = Unit {0}
HasWritten status = ⊥

-- the commands that write no journal, whatever they report: all but a run, a simulation and a cast
abbrev pub WritesNoJournal : Asked → Type 0
WritesNoJournal (Run names workers wanted) = ⊥
WritesNoJournal (Sim names seed wanted) = ⊥
WritesNoJournal (Cast names seed commands) = ⊥
WritesNoJournal command = Unit {0}

-- ---- the parts of the call: no clause of a public call cites what follows

-- these files were all read, and what they gave leads to this output
pub record LeadsTo (files : List NamedFile) (next : List ReadResult → Step) (desk : Change DeskSeen) (output : RunOutput) : Type 0 where
  pub results : List ReadResult
  pub read : HasRead files next desk results
  pub all_read : AreAllRead (names_in files) desk
  pub task : Task
  pub step : next results ≡ Does task
  pub is_output : HasOutput task output

-- what these files gave is why the call stops
abbrev pub IsWhyItStops : List NamedFile → (List ReadResult → Step) → Change DeskSeen → Status → Type 0
IsWhyItStops files next desk status =
    (results : List ReadResult) × (HasRead files next desk results × Prevents files desk (next results) status)

-- the same of the files that the words name
abbrev pub Prepared : Asked → Change DeskSeen → RunOutput → Type 0
Prepared asked = LeadsTo (files_of asked) (next_step asked)

abbrev pub Prevented : Asked → Change DeskSeen → Status → Type 0
Prevented asked = IsWhyItStops (files_of asked) (next_step asked)

-- why a task that the files lead to has no output: memory is out, or the journal is refused
abbrev pub IsJobRefusal : Step → Status → Type 0
IsJobRefusal next OutOfMemory = Unit {0}
IsJobRefusal next (BadJournal i) = next ≡ Answers (BadJournal i)
IsJobRefusal next status = ⊥

-- why a capture's bytes are not printed: memory is out, or they are refused
abbrev pub IsCaptureRefusal : Step → Status → Type 0
IsCaptureRefusal next OutOfMemory = Unit {0}
IsCaptureRefusal next (BadFrames at reason) = next ≡ Answers (BadFrames at reason)
IsCaptureRefusal next status = ⊥

-- why an event of a journal is not done, where this is the first that may not come: memory is out, or it is this one
abbrev pub IsEventRefusal : Option ℕ → Status → Type 0
IsEventRefusal refused OutOfMemory = Unit {0}
IsEventRefusal refused (BadJournal i) = refused ≡ Some i
IsEventRefusal refused status = ⊥

-- the journal of this name was read as this
abbrev pub HasJournal : Change DeskSeen → List ℕ → Plan → ReadJournal → Type 0
HasJournal desk name p read = (bytes : List ℕ) × (HasGiven desk name (limit_of RoleJournal) (Bytes bytes) × (journal_of p bytes ≡ read))

-- why a journal was not read: the file could not be read, or memory ran out after it
abbrev pub HasNoJournal : Change DeskSeen → List ℕ → Status → Type 0
HasNoJournal desk name status = Refuses RoleJournal name desk status
    ⊎ ((status ≡ OutOfMemory) × ((bytes : List ℕ) × HasGiven desk name (limit_of RoleJournal) (Bytes bytes)))
