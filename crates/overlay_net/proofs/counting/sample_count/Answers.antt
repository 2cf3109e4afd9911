use Rattle.std.proofs.Common.{◌≡◌, ◌<◌, ◌≤◌, List, length, arith, subst}
use Rattle.overlay_setup.specs.NodeSets.{In}
use Rattle.overlay_setup.specs.Scripts.{Stream}
use Rattle.overlay_net.proofs.Offers.{in_read}
use Rattle.stat_plan.proofs.FewWaves.{streams_within_limit}
use Rattle.overlay_net.proofs.counting.sample_count.Goals as goal

pub next_wave-requires-clause-stream : goal.next_wave-requires-clause-stream
next_wave-requires-clause-stream g c κs within =
    let seen : c.streams-stream-items.result.now ≡ c.args.plan.now.streams = c.streams-stream-items.ensures in
    subst (λ (xs : List Stream). In c.stream-item.result xs) seen (in_read c.streams-stream-items.result.now c.loop-stream.stream-index c.stream-item.result c.loop-stream-test.true c.stream-item.is)

pub overflow_add-count : goal.overflow_add-count
overflow_add-count g c =
    let few : c.loop-stream.count ≤ c.loop-stream.stream-index = c.loop-stream.invariant.few in
    let within : c.loop-stream.stream-index < length c.args.plan.now.streams = subst (λ (xs : List Stream). c.loop-stream.stream-index < length xs) c.streams-stream-items.ensures c.loop-stream-test.true in
    let limit : length c.args.plan.now.streams ≤ 8 = streams_within_limit c.args.plan.now.streams c.invariant.ensures.script.streams c.invariant.ensures.script.streams_increase in
    omega (arith, few, within, limit)

pub returns-clause-few : goal.returns-clause-few
returns-clause-few g c =
    let few : c.loop-stream.count ≤ c.loop-stream.stream-index = c.loop-stream.invariant.few in
    let within : c.loop-stream.stream-index ≤ length c.args.plan.now.streams = subst (λ (xs : List Stream). c.loop-stream.stream-index ≤ length xs) c.streams-stream-items.ensures c.loop-stream.auto.stream-index-end in
    let limit : length c.args.plan.now.streams ≤ 8 = streams_within_limit c.args.plan.now.streams c.invariant.ensures.script.streams c.invariant.ensures.script.streams_increase in
    omega (arith, few, within, limit)
