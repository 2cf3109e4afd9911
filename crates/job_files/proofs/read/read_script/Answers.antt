use Rattle.std.proofs.Common.{inl, sym, ap, ◌∙◌}
use Rattle.script_text.specs.Whole.{script_of}
use Rattle.stat_desk.specs.Change.{change}
use Rattle.job_files.proofs.Stopping.{stops_refused}
use Rattle.job_files.specs.declared.status.FileRole.TheVariants.{Script}
use Rattle.job_files.proofs.read.read_script.Goals as goal

pub returns-in-Err-clause-err : goal.returns-in-Err-clause-err
returns-in-Err-clause-err g c =
    inl c.in-Err.ensures.err

pub returns-in-Ok-read-clause-ok : goal.returns-in-Ok-read-clause-ok
returns-in-Ok-read-clause-ok g c = (c.in-Ok.bytes.items, (c.in-Ok.ensures.ok, ap (script_of c.args.topology.now) (sym c.as_slice.ensures.value) ∙ c.in-Ok-read.ensures.ok))

pub returns-clause-err : goal.returns-clause-err
returns-clause-err g c =
    let desk = change g.D.Desk.seen c.args.desk.now c.read_file.new.desk in
    stops_refused (script_of c.args.topology.now) Script c.args.name.now desk c.in-Err-read.error c.in-Ok.bytes.items c.as_slice.result.now c.refusal.result c.refusal.ensures c.in-Ok.ensures.ok c.as_slice.ensures.value c.in-Err-read.ensures.err
