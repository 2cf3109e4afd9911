-- What the status of a call says of its words, its files and its output.
use Rattle.std.proofs.Common.{◌≡◌, inr, List, [], Ok, Err, sym, subst, arith, append-nil}
use Rattle.std.specs.Prelude.{Result}
use Rattle.stat_desk.specs.Change.{Change}
use Rattle.stat_desk.specs.Desk.{DeskSeen}
use Rattle.stat_desk.specs.Sink.{SinkSeen, TookNothing}
use Rattle.overlay_event.specs.declared.event.Event.{Event}
use Rattle.stat_words.specs.Words.{Asked}
use Rattle.stat_words.specs.declared.words.WordFault.{WordFault}
use Rattle.stat_tool.specs.Call.{Answered, Explains, Prepared, Written}
use Rattle.job_files.proofs.Stopping.{from}
use Rattle.job_files.specs.Files.{files_of}
use Rattle.job_files.specs.Tasks.{RunOutput}
use Rattle.job_files.specs.NextStep.{next_step}
use Rattle.job_files.specs.declared.status.Status.{Status}
use Rattle.job_files.specs.declared.status.Status.TheVariants.{Done, BadWords, DeskFault, BadInput, OverLimit, SinkFault, OutOfMemory, BadJournal, Unfinished, BadFrames}

-- where the job that the files lead to was run, and its output was written
pub explained : (asked : Asked) (desk : Change DeskSeen) (out journal : Change SinkSeen) (events : List Event) (output : RunOutput) (status : Status)
    → Prepared asked desk output → Written output out journal status → events ≡ output.journal → Answered (Ok asked) desk out journal events status
explained asked desk out journal events output Done p w same =
    (p.results, (p.read, record { task = p.task; output = output; step = p.step; is_output = p.is_output; given = same; written = w }))
explained asked desk out journal events output (Unfinished e) p w same =
    (p.results, (p.read, record { task = p.task; output = output; step = p.step; is_output = p.is_output; given = same; written = w }))
explained asked desk out journal events output (SinkFault target) p w same =
    (p.results, (p.read, record { task = p.task; output = output; step = p.step; is_output = p.is_output; given = same; written = w }))
explained asked desk out journal events output OutOfMemory p w same = absurd w
explained asked desk out journal events output (BadWords fault) p w same = absurd w
explained asked desk out journal events output (DeskFault role) p w same = absurd w
explained asked desk out journal events output (BadInput file line reason) p w same = absurd w
explained asked desk out journal events output (OverLimit file line what most) p w same = absurd w
explained asked desk out journal events output (BadJournal i) p w same = absurd w
explained asked desk out journal events output (BadFrames at reason) p w same = absurd w

-- where memory ran out before the words were read
pub words_need_memory : (asked : Result Asked WordFault) (first : DeskSeen) (out journal : Change SinkSeen) (events : List Event) (status : Status)
    → status ≡ OutOfMemory → TookNothing out → TookNothing journal → events ≡ [] → Answered asked (from first first) out journal events status
words_need_memory (Err fault) first out journal events status is same_out same_journal none = (inr is, record { same_report = same_out; same_journal = same_journal; no_events = none })
words_need_memory (Ok command) first out journal events status is same_out same_journal none = (
  [],
  (
    record { gave = sym (append-nil first.gave); contents = tt; count = 0; asked = sym (append-nil first.reads); each_gave = (omega (arith), omega (arith)); in_turn = λ i lt. absurd (omega (arith, lt)) },
    subst (λ (s : Status). Explains (files_of command) (from first first) out journal (next_step command []) events s) (sym is)
        (tt, record { same_report = same_out; same_journal = same_journal; no_events = none }),
  ),
)
