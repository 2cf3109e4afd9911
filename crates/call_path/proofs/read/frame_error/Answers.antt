use Rattle.std.proofs.Common.{◌∙◌, length, sym, arith}
use Rattle.std.proofs.lemmas.Bool.{eqb-false}
use Rattle.call_path.proofs.ControlBytes.{clean_frame}
use Rattle.call_path.proofs.read.frame_error.Goals as goal

pub returns-then-clean : goal.returns-then-clean
returns-then-clean c =
    let some = eqb-false (length c.args.frame.now) 0 (sym c.is_empty.ensures ∙ c.if-is_empty.false) in
    record {
      error = sym (clean_frame c.args.i c.args.offset c.args.frame.now (omega (arith, c.if-i-ge-FRAME_LIMIT.false)) (omega (arith, some)) (omega (arith, c.if-frame-gt-FRAME_BYTES.false)) (c.requires.clean c.if-clean.true));
      within_limit = omega (arith, c.if-i-ge-FRAME_LIMIT.false);
    }
