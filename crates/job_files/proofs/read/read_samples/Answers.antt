use Rattle.std.proofs.Common.{◌≡◌, ◌≢◌, Ok, Err, inl, refl, subst, arith}
use Rattle.stat_plan.specs.Invariants.{SamplesFit}
use Rattle.text_lines.specs.declared.text_error.TextError.TheVariants.{OutOfMemory}
use Rattle.sample_text.specs.Feeding.{nodes_of}
use Rattle.sample_text.specs.Whole.{samples_of_text}
use Rattle.stat_desk.specs.Change.{change}
use Rattle.job_files.proofs.Stopping.{stops_refused}
use Rattle.job_files.specs.declared.status.FileRole.TheVariants.{Samples}
use Rattle.job_files.proofs.read.read_samples.Goals as goal

pub returns-in-Err-feed_file-clause-err : goal.returns-in-Err-feed_file-clause-err
returns-in-Err-feed_file-clause-err g c =
    inl c.in-Err-feed_file.ensures.err

pub returns-in-Err-clause-err : goal.returns-in-Err-clause-err
returns-in-Err-clause-err g c = inl (inl refl)

pub finish-requires : goal.finish-requires
finish-requires g c =
    let fed = c.in-Ok-feed_file.ensures.ok in
    (nodes_of c.in-Ok.feeder, (fed.0, (fed.1.0, omega (arith, fed.1.1.agrees.within))))

pub returns-in-Ok-finish-clause-ok : goal.returns-in-Ok-finish-clause-ok
returns-in-Ok-finish-clause-ok g c =
    let fed = c.in-Ok-feed_file.ensures.ok in
    (fed.0, (fed.1.1, subst (λ n. samples_of_text n fed.0 ≡ Ok c.in-Ok-finish.samples) c.in-Ok.ensures.nodes (c.in-Ok-finish.ensures.ok (nodes_of c.in-Ok.feeder) fed.0 fed.1.0)))

pub returns-in-Ok-finish-clause-fits : goal.returns-in-Ok-finish-clause-fits
returns-in-Ok-finish-clause-fits g c =
    let fed = c.in-Ok-feed_file.ensures.ok in
    subst (λ n. SamplesFit n c.in-Ok-finish.samples) c.in-Ok.ensures.nodes (c.in-Ok-finish.ensures.fits (nodes_of c.in-Ok.feeder) fed.0 fed.1.0)

pub returns-in-Err-finish-clause-err : goal.returns-in-Err-finish-clause-err
returns-in-Err-finish-clause-err g c =
    let fed = c.in-Ok-feed_file.ensures.ok in
    let e = c.in-Err-finish.error in
    let desk = change g.D.Desk.seen c.args.desk.now c.feed_file.new.desk in
    stops_refused (samples_of_text c.args.topology.now) Samples c.args.name.now desk e fed.0 fed.0 c.refusal.result c.refusal.ensures fed.1.1 refl
    (subst (λ n. e ≢ OutOfMemory → samples_of_text n fed.0 ≡ Err e) c.in-Ok.ensures.nodes (c.in-Err-finish.ensures.err (nodes_of c.in-Ok.feeder) fed.0 fed.1.0))
