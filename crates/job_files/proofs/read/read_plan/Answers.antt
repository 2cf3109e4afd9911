use Rattle.stat_words.specs.Words.{names_of}
use Rattle.job_files.proofs.Stopping.{if_err, if_ok, planned, stops_plan, stops_samples, stops_script, stops_topology}
use Rattle.job_files.proofs.read.read_plan.Goals as goal

pub returns-in-Err-clause-err : goal.returns-in-Err-clause-err
returns-in-Err-clause-err g c =
    stops_topology (names_of c.args.files) (g.D.Desk.seen c.args.desk.now) (g.D.Desk.seen c.read_topology.new.desk) c.in-Err.status c.in-Err.ensures.err

pub returns-in-Err-read_samples-clause-err : goal.returns-in-Err-read_samples-clause-err
returns-in-Err-read_samples-clause-err g c =
    stops_samples (names_of c.args.files) (g.D.Desk.seen c.args.desk.now) (g.D.Desk.seen c.read_topology.new.desk) c.in-Ok.topology c.in-Ok.ensures.ok
    (g.D.Desk.seen c.read_samples.new.desk) c.in-Err-read_samples.status c.in-Err-read_samples.ensures.err

pub returns-in-Err-read_script-clause-err : goal.returns-in-Err-read_script-clause-err
returns-in-Err-read_script-clause-err g c =
    stops_script (names_of c.args.files) (g.D.Desk.seen c.args.desk.now) (g.D.Desk.seen c.read_topology.new.desk) c.in-Ok.topology c.in-Ok.ensures.ok
    (g.D.Desk.seen c.read_samples.new.desk) c.in-Ok-read_samples.samples c.in-Ok-read_samples.ensures.ok
    (g.D.Desk.seen c.read_script.new.desk) c.in-Err-read_script.status c.in-Err-read_script.ensures.err

pub returns-clause-ok : goal.returns-clause-ok
returns-clause-ok g c =
    if_ok c.plan_of_files.result _ _
    (planned (names_of c.args.files) (g.D.Desk.seen c.args.desk.now) (g.D.Desk.seen c.read_topology.new.desk) c.in-Ok.topology c.in-Ok.ensures.ok
    (g.D.Desk.seen c.read_samples.new.desk) c.in-Ok-read_samples.samples c.in-Ok-read_samples.ensures.ok
    (g.D.Desk.seen c.read_script.new.desk) c.in-Ok-read_script.script c.in-Ok-read_script.ensures.ok)
    c.plan_of_files.ensures.ok

pub returns-clause-err : goal.returns-clause-err
returns-clause-err g c =
    if_err c.plan_of_files.result _ _
    (stops_plan (names_of c.args.files) (g.D.Desk.seen c.args.desk.now) (g.D.Desk.seen c.read_topology.new.desk) c.in-Ok.topology c.in-Ok.ensures.ok
    (g.D.Desk.seen c.read_samples.new.desk) c.in-Ok-read_samples.samples c.in-Ok-read_samples.ensures.ok
    (g.D.Desk.seen c.read_script.new.desk) c.in-Ok-read_script.script c.in-Ok-read_script.ensures.ok)
    c.plan_of_files.ensures.err
