use Rattle.stat_words.specs.Words.{names_of, view_asked}
use Rattle.stat_desk.specs.Change.{change}
use Rattle.job_files.specs.Tasks.{ViewTask}
use Rattle.stat_tool.specs.Views.{output_view}
use Rattle.stat_tool.proofs.Prepared.{task_no_memory, task_prepared, task_stops}
use Rattle.stat_tool.proofs.modes.prepare_view.Goals as goal

pub returns-in-Err-clause-err : goal.returns-in-Err-clause-err
returns-in-Err-clause-err g c =
    let desk = change g.D.Desk.seen c.args.desk.now c.read_plan.new.desk in
    task_stops (names_of c.args.files) (λ p. ViewTask p c.args.seed (view_asked c.args.view)) desk c.in-Err.status c.in-Err.ensures.err

pub returns-in-Ok-view_plan-clause-ok : goal.returns-in-Ok-view_plan-clause-ok
returns-in-Ok-view_plan-clause-ok g c =
    let desk = change g.D.Desk.seen c.args.desk.now c.read_plan.new.desk in
    task_prepared (names_of c.args.files) (λ p. ViewTask p c.args.seed (view_asked c.args.view)) desk c.in-Ok.plan (output_view c.in-Ok-view_plan.output) c.in-Ok.ensures.ok c.in-Ok-view_plan.ensures

pub returns-in-Err-view_plan-clause-err : goal.returns-in-Err-view_plan-clause-err
returns-in-Err-view_plan-clause-err g c =
    task_no_memory (names_of c.args.files) (λ p. ViewTask p c.args.seed (view_asked c.args.view)) (change g.D.Desk.seen c.args.desk.now c.read_plan.new.desk) c.in-Ok.plan c.in-Ok.ensures.ok
