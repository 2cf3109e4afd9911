-- What there is to do once the files are read, and what comes of it.
use Rattle.std.specs.Prelude.{ℕ, List, Option}
use Rattle.stat_plan.specs.Plans.{Plan}
use Rattle.overlay_event.specs.declared.event.Event.{Event}
use Rattle.value_text.specs.Numbers.{Numbers}
use Rattle.rank_sums.specs.declared.fold.Fold.{Fold}
use Rattle.stat_words.specs.Words.{AskedView}
use Rattle.stat_words.specs.declared.words.ReportForm.{ReportForm}
use Rattle.stat_words.specs.declared.words.RunReport.{RunReport}

-- A task, with all that its files and words say: a run of a plan, one whose events a seed picks, one by a given journal, the
-- direct merge of each wave, a generated job of a size and a seed, a number of commands to the nodes of a plan, whose events a
-- seed picks, the fold of the ranks' numbers and a view, at each release of a run whose events a seed picks, and the printing of
-- a capture's bytes.
pub data Task : Type 0 where
  RunTask : Plan → RunReport → Task
  SimTask : Plan → ℕ → RunReport → Task
  ReplayTask : Plan → List Event → RunReport → Task
  DirectTask : Plan → ReportForm → Task
  GenTask : ℕ → ℕ → Task
  CastTask : Plan → ℕ → ℕ → Task
  SumsTask : Plan → Numbers → ℕ → Fold → ReportForm → Task
  ViewTask : Plan → ℕ → AskedView → Task
  CaptureTask : List ℕ → Task

-- The output of a task: the event that may come next where its journal ends early, the events that happened, and what is
-- written to the sink of the report and to that of the journal.
pub record RunOutput : Type 0 where
  pub unfinished : Option Event
  pub journal : List Event
  pub report : List ℕ
  pub journal_text : List ℕ
