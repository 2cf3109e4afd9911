use Rattle.std.proofs.Common.{List, ℕ, sym, subst}
use Rattle.stat_desk.specs.Change.{change}
use Rattle.stat_desk.specs.Desk.{Bytes, HasGiven}
use Rattle.job_files.specs.Files.{limit_of}
use Rattle.stat_tool.specs.Views.{output_view}
use Rattle.job_files.specs.declared.status.FileRole.TheVariants.{Capture}
use Rattle.stat_tool.proofs.Prepared.{capture_prepared, capture_refused, capture_stops}
use Rattle.job_files.proofs.Stopping.{if_err, if_ok}
use Rattle.stat_tool.proofs.modes.prepare_frames.Goals as goal

pub returns-in-Err-clause-err : goal.returns-in-Err-clause-err
returns-in-Err-clause-err g c =
    capture_stops c.args.capture.now (g.D.Desk.seen c.args.desk.now) (g.D.Desk.seen c.read_file.new.desk) c.in-Err.status c.in-Err.ensures.err

pub returns-clause-ok : goal.returns-clause-ok
returns-clause-ok g c =
    let desk = change g.D.Desk.seen c.args.desk.now c.read_file.new.desk in
    let given : HasGiven desk c.args.capture.now (limit_of Capture) (Bytes c.as_slice.result.now)
    = subst (λ (b : List ℕ). HasGiven desk c.args.capture.now (limit_of Capture) (Bytes b)) (sym c.as_slice.ensures.value) c.in-Ok.ensures.ok in
    if_ok c.capture_output.result _ _
    (λ output is. capture_prepared c.args.capture.now (g.D.Desk.seen c.args.desk.now) (g.D.Desk.seen c.read_file.new.desk) c.as_slice.result.now given (output_view output) is.0 is.1)
    c.capture_output.ensures.ok

pub returns-clause-err : goal.returns-clause-err
returns-clause-err g c =
    let desk = change g.D.Desk.seen c.args.desk.now c.read_file.new.desk in
    let given : HasGiven desk c.args.capture.now (limit_of Capture) (Bytes c.as_slice.result.now)
    = subst (λ (b : List ℕ). HasGiven desk c.args.capture.now (limit_of Capture) (Bytes b)) (sym c.as_slice.ensures.value) c.in-Ok.ensures.ok in
    if_err c.capture_output.result _ _
    (capture_refused c.args.capture.now (g.D.Desk.seen c.args.desk.now) (g.D.Desk.seen c.read_file.new.desk) c.as_slice.result.now given)
    c.capture_output.ensures.err
