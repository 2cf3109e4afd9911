-- How the program ends.
use Rattle.std.specs.Prelude.{◌≡◌, List, Option, Some, None, Result}
use Rattle.overlay_event.specs.declared.event.Event.{Event}
use Rattle.stat_desk.specs.Change.{Change}
use Rattle.stat_desk.specs.Desk.{DeskSeen}
use Rattle.stat_desk.specs.Sink.{SinkSeen}
use Rattle.stat_words.specs.Words.{Asked}
use Rattle.stat_words.specs.declared.words.WordFault.{WordFault}
use Rattle.stat_tool.specs.Call.{Answered}
use Rattle.job_files.specs.Status.{number_of, refusal_of_status}
use Rattle.stat_tool.specs.declared.program.Ending.{Ending}
use Rattle.job_files.specs.declared.status.Status.{Status}
use Rattle.job_files.specs.declared.status.Status.TheVariants.{Done}

-- the status of a program that ends with this line, or with none
abbrev pub ended_with : Option Status → Status
ended_with None = Done
ended_with (Some status) = status

-- the line and the number of an ending are those of this status
pub record IsEnding (status : Status) (ending : Ending) : Type 0 where
  pub refusal : ending.refusal ≡ refusal_of_status status
  pub number : ending.number ≡ number_of status

-- the program ends as a call that answers this, with some journal
abbrev pub EndsAs : Result Asked WordFault → Change DeskSeen → Change SinkSeen → Change SinkSeen → Ending → Type 0
EndsAs asked desk out journal ending = (events : List Event) × Answered asked desk out journal events (ended_with ending.refusal)
