use Rattle.std.proofs.Common.{◌∙◌, ◌++◌, ap, arith}
use Rattle.std.specs.Prelude.{string_bytes}
use Rattle.json_text.proofs.Frames.{frames_begin, frames_next}
use Rattle.json_text.proofs.path_text.Goals as goal

pub loop-i-init : goal.loop-i-init
loop-i-init c =
    frames_begin c.args.path.now c.frame.result.now (string_bytes c.push_str.new.self) c.len-frames.ensures.not_empty c.frame.ensures.frame
    (c.in_ok-push_str.ensures.bytes ∙ ap (λ ys. ys ++ c.frame.result.now) c.new-text.ensures.bytes)

pub loop-i-preserved : goal.loop-i-preserved
loop-i-preserved c =
    let frame = c.frame-in-loop-i.result.now in
    frames_next c.args.path.now c.loop-i.i frame (string_bytes c.loop-i.text) (string_bytes c.push_str-in-loop-i-2.new.self) (omega (arith, c.loop-i-test.true, c.len-frames.ensures.len)) c.frame-in-loop-i.ensures.frame
    (c.in_ok-push_str-3.ensures.bytes ∙ ap (λ ys. ys ++ frame) c.in_ok-push_str-2.ensures.bytes) c.loop-i.invariant
