use Rattle.std.proofs.Common.{◌≡◌, refl, sym, ap, subst, ◌∙◌}
use Rattle.std.specs.Prelude.{map, string_bytes}
use Rattle.stat_words.specs.Words.{asked}
use Rattle.stat_desk.specs.Change.{change}
use Rattle.stat_tool.specs.Call.{Answered}
use Rattle.stat_tool.specs.Ending.{IsEnding, ended_with}
use Rattle.job_files.specs.Status.{refusal_of_status}
use Rattle.stat_tool.specs.declared.program.Ending.{Ending}
use Rattle.job_files.specs.declared.status.Status.{Status}
use Rattle.job_files.specs.declared.status.Status.TheVariants.{Done, BadWords, DeskFault, BadInput, OverLimit, SinkFault, OutOfMemory, BadJournal, Unfinished, BadFrames}
use Rattle.stat_tool.proofs.program.run_words.Goals as goal

-- each status is that of its line
status_of_line : (status : Status) → ended_with (refusal_of_status status) ≡ status
status_of_line Done = refl
status_of_line (BadWords fault) = refl
status_of_line (DeskFault role) = refl
status_of_line (BadInput file line reason) = refl
status_of_line (OverLimit file line what most) = refl
status_of_line (SinkFault target) = refl
status_of_line OutOfMemory = refl
status_of_line (BadJournal i) = refl
status_of_line (Unfinished e) = refl
status_of_line (BadFrames at reason) = refl

-- an ending with the line of a status is one of that status
same_status : (status : Status) (ending : Ending) → ending.refusal ≡ refusal_of_status status → status ≡ ended_with ending.refusal
same_status status ending line = sym (ap ended_with line ∙ status_of_line status)

pub returns-clause-answered : goal.returns-clause-answered
returns-clause-answered g c = (
  c.stat-outcome.result.journal,
  subst (λ (status : Status). Answered (asked (map string_bytes c.args.words.now))
      (change g.D.Desk.seen c.args.desk.now c.stat-outcome.new.desk)
      (change g.O.Sink.seen c.args.out.now c.stat-outcome.new.out)
      (change g.J.Sink.seen c.args.journal.now c.stat-outcome.new.journal) c.stat-outcome.result.journal status)
      (same_status c.stat-outcome.result.status c.ending_of.result c.ending_of.ensures.refusal) c.stat-outcome.ensures.answered,
)

pub returns-clause-ending : goal.returns-clause-ending
returns-clause-ending g c =
    subst (λ (status : Status). IsEnding status c.ending_of.result)
    (same_status c.stat-outcome.result.status c.ending_of.result c.ending_of.ensures.refusal)
    (record { refusal = c.ending_of.ensures.refusal; number = c.ending_of.ensures.number })
