use Rattle.std.proofs.Common.{◌∙◌, ◌<◌, length, ap, arith, ◌++◌, ◌∷◌, []}
use Rattle.stack_path.proofs.RemarkSteps.{fits_with}
use Rattle.stack_path.proofs.remarks.with_remark.Goals as goal

pub returns : goal.returns
returns c =
    let below : length c.args.path < 128 = omega (arith, c.len.ensures.len, c.len.ensures.within_limit, c.if-len-eq-FRAME_LIMIT.false) in
    c.into_path.ensures ∙ fits_with c.args.path c.push.new.self c.args.remark.now below
    (c.in_ok-push.ensures.ok ∙ ap (λ p. p ++ c.args.remark.now ∷ []) c.into_builder-frames.ensures)
