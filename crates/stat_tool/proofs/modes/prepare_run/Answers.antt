use Rattle.stat_desk.specs.Change.{change}
use Rattle.stat_words.specs.Words.{names_of}
use Rattle.job_files.specs.Tasks.{RunTask}
use Rattle.stat_tool.specs.Views.{output_view}
use Rattle.stat_tool.proofs.Prepared.{task_no_memory, task_prepared, task_stops}
use Rattle.stat_tool.proofs.modes.prepare_run.Goals as goal

pub returns-in-Err-clause-err : goal.returns-in-Err-clause-err
returns-in-Err-clause-err g c =
    let desk = change g.D.Desk.seen c.args.desk.now c.read_plan.new.desk in
    task_stops (names_of c.args.files) (λ p. RunTask p c.args.wanted) desk c.in-Err.status c.in-Err.ensures.err

pub returns-in-Ok-run_output-clause-ok : goal.returns-in-Ok-run_output-clause-ok
returns-in-Ok-run_output-clause-ok g c =
    let desk = change g.D.Desk.seen c.args.desk.now c.read_plan.new.desk in
    task_prepared (names_of c.args.files) (λ p. RunTask p c.args.wanted) desk c.in-Ok.plan (output_view c.in-Ok-run_output.output) c.in-Ok.ensures.ok c.in-Ok-run_output.ensures

pub returns-in-Err-run_workers-clause-err : goal.returns-in-Err-run_workers-clause-err
returns-in-Err-run_workers-clause-err g c =
    task_no_memory (names_of c.args.files) (λ p. RunTask p c.args.wanted) (change g.D.Desk.seen c.args.desk.now c.read_plan.new.desk) c.in-Ok.plan c.in-Ok.ensures.ok

pub returns-in-Err-run_output-clause-err : goal.returns-in-Err-run_output-clause-err
returns-in-Err-run_output-clause-err g c =
    task_no_memory (names_of c.args.files) (λ p. RunTask p c.args.wanted) (change g.D.Desk.seen c.args.desk.now c.read_plan.new.desk) c.in-Ok.plan c.in-Ok.ensures.ok
