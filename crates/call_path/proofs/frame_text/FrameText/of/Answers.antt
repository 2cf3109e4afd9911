use Rattle.std.proofs.Common.{◌∙◌, ap, arith, length, string_bytes}
use Rattle.call_path.specs.Reading.{frames}
use Rattle.call_path.specs.Cuts.{ends_from}
use Rattle.call_path.proofs.Texts.{text_short}
use Rattle.call_path.proofs.Errors.{text-frames}
use Rattle.call_path.proofs.Held.{cuts_of, cut_is}
use Rattle.call_path.proofs.frame_text.FrameText.of.Goals as goal

pub frame_ends-requires : goal.frame_ends-requires
frame_ends-requires c = omega (arith, ap length c.as_bytes.ensures.value, ap length (text-frames c.args.text.now), text_short (frames c.args.text.now) c.requires.good, c.requires.within_limit)

pub invariant_of-result : goal.invariant_of-result
invariant_of-result c =
    cuts_of (frames c.args.text.now) (string_bytes c.in_ok-text.text) c.in_ok-ends.ends.items (c.in_ok-text.ensures.ok ∙ text-frames c.args.text.now) (c.in_ok-ends.ensures ∙ ap (λ t. ends_from 0 (frames t)) c.as_bytes.ensures.value) c.requires

pub returns : goal.returns
returns c =
    cut_is (frames c.args.text.now) (string_bytes c.in_ok-text.text) c.in_ok-ends.ends.items (c.in_ok-text.ensures.ok ∙ text-frames c.args.text.now) (c.in_ok-ends.ensures ∙ ap (λ t. ends_from 0 (frames t)) c.as_bytes.ensures.value)
