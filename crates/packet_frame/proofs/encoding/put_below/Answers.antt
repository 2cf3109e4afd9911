use Rattle.std.proofs.Common.{arith}
use Rattle.std.proofs.lemmas.Str.{is_utf8-from_IsUtf8}
use Rattle.packet_frame.proofs.Written.{below_more, all_text}
use Rattle.packet_frame.proofs.encoding.put_below.Goals as goal

pub loop-i-preserved : goal.loop-i-preserved
loop-i-preserved c =
    let chain = c.args.chain.now in
    let i = c.loop-i.i in
    record {
      bytes = below_more chain.frames.now chain.depth chain.skip i c.frame.result.now _ c.loop-i.out.items c.put_name_below.new.out.items (omega (arith, c.loop-i.auto.i)) c.frame.ensures.frame c.in_ok-put_name_below.ensures c.loop-i.invariant.bytes;
      text = λ rest. c.loop-i.invariant.text (all_text chain.frames.now i c.frame.result.now c.frame.ensures.frame (is_utf8-from_IsUtf8 c.frame.result.now c.frame.utf8) rest);
    }
