use Rattle.std.proofs.Common.{None, refl}
use Rattle.capture_text.specs.Captures.{capture_of}
use Rattle.job_files.specs.Tasks.{RunOutput}
use Rattle.stat_tool.proofs.Captures.{printed, refused}
use Rattle.stat_tool.proofs.output.capture_output.Goals as goal

pub returns-in-Ok-clause-ok : goal.returns-in-Ok-clause-ok
returns-in-Ok-clause-ok g c =
    let output : RunOutput = record { unfinished = None; journal = c.new.result; report = c.in-Ok.report.items; journal_text = c.new-in-Ok.result.items } in
    printed c.args.bytes.now c.in-Ok.report.items output (capture_of c.args.bytes.now) c.captures_are_frames.ensures refl c.in-Ok.ensures.text refl c.new.ensures refl c.new-in-Ok.ensures.items

pub returns-in-Err-clause-err : goal.returns-in-Err-clause-err
returns-in-Err-clause-err g c = refused c.args.bytes.now c.in-Err.error c.capture_refusal.result c.capture_refusal.ensures c.in-Err.ensures.refusal
