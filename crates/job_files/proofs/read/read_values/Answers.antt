use Rattle.std.proofs.Common.{inl, sym, ap, ◌∙◌}
use Rattle.stat_desk.specs.Change.{change}
use Rattle.job_files.specs.NextStep.{values_of}
use Rattle.job_files.proofs.Stopping.{stops_refused}
use Rattle.job_files.specs.declared.status.FileRole.TheVariants.{Values}
use Rattle.job_files.proofs.read.read_values.Goals as goal

pub returns-in-Err-clause-err : goal.returns-in-Err-clause-err
returns-in-Err-clause-err g c =
    inl c.in-Err.ensures.err

pub returns-in-Ok-read_values-clause-ok : goal.returns-in-Ok-read_values-clause-ok
returns-in-Ok-read_values-clause-ok g c = (c.in-Ok.bytes.items, (c.in-Ok.ensures.ok, ap (values_of c.args.plan.now) (sym c.as_slice.ensures.value) ∙ c.in-Ok-read_values.ensures.ok))

pub returns-clause-err : goal.returns-clause-err
returns-clause-err g c =
    let desk = change g.D.Desk.seen c.args.desk.now c.read_file.new.desk in
    stops_refused (values_of c.args.plan.now) Values c.args.name.now desk c.in-Err-read_values.error c.in-Ok.bytes.items c.as_slice.result.now c.refusal.result c.refusal.ensures c.in-Ok.ensures.ok c.as_slice.ensures.value c.in-Err-read_values.ensures.err
