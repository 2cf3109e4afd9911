use Rattle.stat_desk.specs.Change.{change}
use Rattle.stat_words.specs.Words.{names_of}
use Rattle.job_files.specs.Tasks.{CastTask}
use Rattle.stat_tool.specs.Views.{output_view}
use Rattle.stat_tool.proofs.Prepared.{task_no_memory, task_prepared, task_stops}
use Rattle.stat_tool.proofs.modes.prepare_cast.Goals as goal

pub returns-in-Err-clause-err : goal.returns-in-Err-clause-err
returns-in-Err-clause-err g c =
    let desk = change g.D.Desk.seen c.args.desk.now c.read_plan.new.desk in
    task_stops (names_of c.args.files) (λ p. CastTask p c.args.seed c.args.commands) desk c.in-Err.status c.in-Err.ensures.err

pub returns-in-Ok-cast_plan-clause-ok : goal.returns-in-Ok-cast_plan-clause-ok
returns-in-Ok-cast_plan-clause-ok g c =
    let desk = change g.D.Desk.seen c.args.desk.now c.read_plan.new.desk in
    task_prepared (names_of c.args.files) (λ p. CastTask p c.args.seed c.args.commands) desk c.in-Ok.plan (output_view c.in-Ok-cast_plan.output) c.in-Ok.ensures.ok c.in-Ok-cast_plan.ensures

pub returns-in-Err-cast_plan-clause-err : goal.returns-in-Err-cast_plan-clause-err
returns-in-Err-cast_plan-clause-err g c =
    task_no_memory (names_of c.args.files) (λ p. CastTask p c.args.seed c.args.commands) (change g.D.Desk.seen c.args.desk.now c.read_plan.new.desk) c.in-Ok.plan c.in-Ok.ensures.ok
