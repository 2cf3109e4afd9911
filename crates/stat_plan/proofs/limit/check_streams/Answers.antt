use Rattle.std.proofs.Common.{◌≡◌, ◌<◌, ℕ, None, Some, sym, ap, subst, ◌∙◌, length, map, take, get_or, List}
use Rattle.std.specs.Prelude.{find}
use Rattle.std.specs.Borrow.{Bor}
use Rattle.overlay_setup.specs.NodeSets.{In}
use Rattle.stat_plan.specs.Limits.{RefusesAt, is_over, stream_waves}
use Rattle.stat_plan.specs.Plans.{nodes, stream_of, waves_of}
use Rattle.overlay_setup.specs.Scripts.{Stream}
use Rattle.stat_plan.proofs.FirstOver.{none_over_streams, refuses, stream_found, daemons_are_nodes}
use Rattle.stat_plan.specs.PathOrder.{IsOrderOf}
use Rattle.stat_plan.specs.Samples.{path_by}
use Rattle.overlay_setup.specs.declared.script.Grain.TheVariants.{Line, Function}
use Rattle.stat_plan.proofs.WavePrefixes.{by_line}
use Rattle.stat_plan.specs.Files.{plan_in}
use Rattle.stat_plan.proofs.limit.check_streams.Goals as goal
use Rattle.stat_plan.proofs.limit.check_streams.Goals.{in-Line, in-Function}

pub check_stream-requires-clause-stream : goal.check_stream-requires-clause-stream
check_stream-requires-clause-stream c =
    let lt : c.loop-stream.stream-index < length (plan_in c.args.files).streams = subst (λ xs. c.loop-stream.stream-index < length xs) c.streams-stream-items.ensures c.loop-stream-test.true in
    let is = c.stream-item.is ∙ ap (λ xs. get_or xs c.loop-stream.stream-index c.stream-item.result) c.streams-stream-items.ensures in
    subst (λ (x : Stream). stream_of (plan_in c.args.files) x.number ≡ Some x) (sym is) (stream_found (plan_in c.args.files) c.loop-stream.stream-index c.stream-item.result c.invariant.ensures lt)

pub check_stream-requires-clause-daemons : goal.check_stream-requires-clause-daemons
check_stream-requires-clause-daemons c =
    let lt : c.loop-stream.stream-index < length (plan_in c.args.files).streams = subst (λ xs. c.loop-stream.stream-index < length xs) c.streams-stream-items.ensures c.loop-stream-test.true in
    let is = c.stream-item.is ∙ ap (λ xs. get_or xs c.loop-stream.stream-index c.stream-item.result) c.streams-stream-items.ensures in
    subst (λ (x : Stream). (n : ℕ) → In n x.daemons → n < nodes (plan_in c.args.files)) (sym is) (daemons_are_nodes (plan_in c.args.files) c.loop-stream.stream-index c.stream-item.result c.invariant.ensures lt)

pub returns-in-Err-clause-err : goal.returns-in-Err-clause-err
returns-in-Err-clause-err c =
    let lt : c.loop-stream.stream-index < length (plan_in c.args.files).streams = subst (λ xs. c.loop-stream.stream-index < length xs) c.streams-stream-items.ensures c.loop-stream-test.true in
    let is = c.stream-item.is ∙ ap (λ xs. get_or xs c.loop-stream.stream-index c.stream-item.result) c.streams-stream-items.ensures in
    refuses (plan_in c.args.files) c.loop-stream.stream-index c.stream-item.result c.in-Err.e lt
    (subst (λ xs. find (is_over (plan_in c.args.files)) (waves_of (take c.loop-stream.stream-index xs)) ≡ None) c.streams-stream-items.ensures c.loop-stream.invariant)
    (subst (λ (x : Stream). RefusesAt (find (is_over (plan_in c.args.files)) (stream_waves x)) c.in-Err.e) is c.in-Err.ensures.err)

pub loop-stream-preserved : goal.loop-stream-preserved
loop-stream-preserved c =
    none_over_streams (plan_in c.args.files) c.streams-stream-items.result.now c.loop-stream.stream-index c.stream-item.result c.loop-stream-test.true c.loop-stream.invariant
    (subst (λ (x : Stream). find (is_over (plan_in c.args.files)) (stream_waves x) ≡ None) c.stream-item.is c.in-Ok.ensures.ok)

pub check_stream-requires-clause-order : goal.check_stream-requires-clause-order
check_stream-requires-clause-order c =
    let paths = c.args.all.paths.now in
    elim c.match-grain.branch [
      | (in-Line w) ↦
          let grain : Line ≡ c.stream-item.result.grain = sym w.in-Line.is ∙ c.grain.ensures in
          subst (λ g. IsOrderOf (map (path_by g) paths) c.match-grain.order.now) grain
          (subst (IsOrderOf (map (path_by Line) paths)) (ap (λ (o : Bor (List ℕ)). o.now) (sym w.order-is)) (subst (λ ps. IsOrderOf ps c.args.all.order.now) (sym (by_line paths)) c.requires.order))
      | (in-Function w) ↦
          let grain : Function ≡ c.stream-item.result.grain = sym w.in-Function.is ∙ c.grain.ensures in
          subst (λ g. IsOrderOf (map (path_by g) paths) c.match-grain.order.now) grain
          (subst (IsOrderOf (map (path_by Function) paths)) (ap (λ (o : Bor (List ℕ)). o.now) (sym w.order-is)) (subst (λ ps. IsOrderOf ps c.args.by_function.now) c.requires.functions c.requires.by_function))
    ]
