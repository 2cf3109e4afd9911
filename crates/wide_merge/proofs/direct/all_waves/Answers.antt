use Rattle.std.proofs.Common.{◌<◌, ◌∙◌, List, ap, length, subst}
use Rattle.std.specs.Prelude.{get_or}
use Rattle.overlay_setup.specs.Scripts.{Stream}
use Rattle.wide_merge.proofs.Waves.{one_stream_more}
use Rattle.wide_merge.proofs.direct.all_waves.Goals as goal

pub loop-stream-preserved : goal.loop-stream-preserved
loop-stream-preserved c =
    let item = c.stream-item.result in
    let i = c.loop-stream.stream-index in
    one_stream_more c.args.plan.now.streams i item c.loop-stream.waves.items c.push_waves.new.waves.items
    (subst (λ (xs : List Stream). i < length xs) c.streams-stream-items.ensures c.loop-stream-test.true) (c.stream-item.is ∙ ap (λ (xs : List Stream). get_or xs i item) c.streams-stream-items.ensures)
    c.in_ok-push_waves.ensures c.loop-stream.invariant
