use Rattle.std.proofs.Common.{◌∙◌, ap, sym, arith, length}
use Rattle.call_path.specs.Reading.{frames, first_error}
use Rattle.call_path.proofs.Errors.{good_text, frames_some}
use Rattle.call_path.proofs.CallPath.read.Goals as goal

pub of-requires : goal.of-requires
of-requires c = good_text c.args.text.now (sym (ap (λ t. first_error 0 0 (frames t)) c.as_bytes.ensures.value) ∙ c.in-Ok.ensures.ok)

pub invariant_of-result : goal.invariant_of-result
invariant_of-result c = omega (arith, ap length c.in_ok-frames.ensures, frames_some c.args.text.now)
