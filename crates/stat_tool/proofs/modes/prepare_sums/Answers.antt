use Rattle.stat_desk.specs.Change.{change}
use Rattle.stat_words.specs.Words.{names_of, sums_asked}
use Rattle.job_files.specs.NextStep.{at_values}
use Rattle.stat_tool.specs.Views.{output_view}
use Rattle.stat_tool.proofs.Prepared.{last_stops, sums_no_memory, sums_prepared, values_stop}
use Rattle.job_files.specs.declared.status.FileRole.TheVariants.{Values}
use Rattle.stat_tool.proofs.modes.prepare_sums.Goals as goal

pub returns-in-Err-clause-err : goal.returns-in-Err-clause-err
returns-in-Err-clause-err g c =
    last_stops (names_of c.args.files) Values c.args.sums.values.now (at_values c.args.seed (sums_asked c.args.sums)) (change g.D.Desk.seen c.args.desk.now c.read_plan.new.desk) c.in-Err.status c.in-Err.ensures.err

pub returns-in-Err-read_values-clause-err : goal.returns-in-Err-read_values-clause-err
returns-in-Err-read_values-clause-err g c =
    values_stop (names_of c.args.files) c.args.seed (sums_asked c.args.sums) (g.D.Desk.seen c.args.desk.now) (g.D.Desk.seen c.read_plan.new.desk) (g.D.Desk.seen c.read_values.new.desk)
    c.in-Ok.plan c.in-Ok.ensures.ok c.in-Err-read_values.status c.in-Err-read_values.ensures.err

pub returns-in-Ok-sums_plan-clause-ok : goal.returns-in-Ok-sums_plan-clause-ok
returns-in-Ok-sums_plan-clause-ok g c =
    sums_prepared (names_of c.args.files) c.args.seed (sums_asked c.args.sums) (g.D.Desk.seen c.args.desk.now) (g.D.Desk.seen c.read_plan.new.desk) (g.D.Desk.seen c.read_values.new.desk)
    c.in-Ok.plan c.in-Ok.ensures.ok c.in-Ok-read_values.values c.in-Ok-read_values.ensures.ok (output_view c.in-Ok-sums_plan.output) c.in-Ok-sums_plan.ensures

pub returns-in-Err-sums_plan-clause-err : goal.returns-in-Err-sums_plan-clause-err
returns-in-Err-sums_plan-clause-err g c =
    sums_no_memory (names_of c.args.files) c.args.seed (sums_asked c.args.sums) (g.D.Desk.seen c.args.desk.now) (g.D.Desk.seen c.read_plan.new.desk) (g.D.Desk.seen c.read_values.new.desk)
    c.in-Ok.plan c.in-Ok.ensures.ok c.in-Ok-read_values.values c.in-Ok-read_values.ensures.ok
