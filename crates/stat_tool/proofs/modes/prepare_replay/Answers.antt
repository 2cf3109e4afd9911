use Rattle.journal_text.specs.Reading.{read_view}
use Rattle.stat_desk.specs.Change.{change}
use Rattle.stat_words.specs.Words.{names_of}
use Rattle.job_files.specs.NextStep.{at_journal}
use Rattle.stat_tool.specs.Views.{output_view}
use Rattle.stat_tool.proofs.Prepared.{journal_stops, last_stops, replay_prepared, replay_refused}
use Rattle.job_files.proofs.Stopping.{if_err, if_ok}
use Rattle.job_files.specs.declared.status.FileRole.TheVariants.{Journal}
use Rattle.stat_tool.proofs.modes.prepare_replay.Goals as goal

pub returns-in-Err-clause-err : goal.returns-in-Err-clause-err
returns-in-Err-clause-err g c =
    last_stops (names_of c.args.files) Journal c.args.journal.now (at_journal c.args.wanted) (change g.D.Desk.seen c.args.desk.now c.read_plan.new.desk) c.in-Err.status c.in-Err.ensures.err

pub returns-in-Err-read_events-clause-err : goal.returns-in-Err-read_events-clause-err
returns-in-Err-read_events-clause-err g c =
    journal_stops (names_of c.args.files) c.args.journal.now c.args.wanted (g.D.Desk.seen c.args.desk.now) (g.D.Desk.seen c.read_plan.new.desk) (g.D.Desk.seen c.read_events.new.desk)
    c.in-Ok.plan c.in-Ok.ensures.ok c.in-Err-read_events.status c.in-Err-read_events.ensures.err

pub returns-clause-ok : goal.returns-clause-ok
returns-clause-ok g c =
    if_ok c.replay_plan-ended.result _ _
    (λ output is. replay_prepared (names_of c.args.files) c.args.journal.now c.args.wanted (g.D.Desk.seen c.args.desk.now) (g.D.Desk.seen c.read_plan.new.desk) (g.D.Desk.seen c.read_events.new.desk)
    c.in-Ok.plan c.in-Ok.ensures.ok (read_view c.in-Ok-read_events.read) c.in-Ok-read_events.ensures.ok output.journal (output_view output) is.0 is.1)
    c.replay_plan-ended.ensures.ok

pub returns-clause-err : goal.returns-clause-err
returns-clause-err g c =
    if_err c.replay_plan-ended.result _ _
    (replay_refused (names_of c.args.files) c.args.journal.now c.args.wanted (g.D.Desk.seen c.args.desk.now) (g.D.Desk.seen c.read_plan.new.desk) (g.D.Desk.seen c.read_events.new.desk)
    c.in-Ok.plan c.in-Ok.ensures.ok (read_view c.in-Ok-read_events.read) c.in-Ok-read_events.ensures.ok)
    c.replay_plan-ended.ensures.err
