use Rattle.frame_name.specs.CallViews.{call_view}
use Rattle.frame_name.proofs.GoodFrames.{cut_is}
use Rattle.std.specs.Prelude.{string_bytes}
use Rattle.frame_name.proofs.frame.Frame.of.Goals as goal

pub invariant_of-result : goal.invariant_of-result
invariant_of-result c =
    cut_is c.args.rules.now.keeps_lines c.args.is_innermost (call_view c.args.call.now) c.in_ok-shown.shown.name_len (string_bytes c.in_ok-shown.shown.text)
    c.in_ok-shown.ensures.text c.in_ok-shown.ensures.len
