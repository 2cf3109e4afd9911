use Rattle.std.proofs.lemmas.Result.{on_ok_weaker}
use Rattle.std.proofs.lemmas.Str.{is_utf8-from_IsUtf8}
use Rattle.packet_frame.proofs.Written.{chain_written, all_text}
use Rattle.packet_frame.proofs.encoding.put_chain.Goals as goal

pub returns-clause-bytes : goal.returns-clause-bytes
returns-clause-bytes c =
    on_ok_weaker c.put_ends.result
    (chain_written c.args.places.now c.args.chain.now c.frame.result.now c.args.out.now.items c.put_name.new.out.items c.put_below.new.out.items c.put_ends.new.out.items c.frame.ensures.frame c.in_ok-put_name.ensures c.in_ok-put_below.ensures.bytes)
    c.put_ends.ensures

pub returns-clause-text : goal.returns-clause-text
returns-clause-text c =
    on_ok_weaker c.put_ends.result
    (λ _. all_text c.args.chain.now.frames.now c.args.chain.now.skip c.frame.result.now c.frame.ensures.frame (is_utf8-from_IsUtf8 c.frame.result.now c.frame.utf8) c.in_ok-put_below.ensures.text)
    c.put_ends.ensures
