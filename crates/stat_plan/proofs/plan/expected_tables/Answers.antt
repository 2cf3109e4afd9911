use Rattle.std.proofs.Common.{◌≡◌, ◌<◌, ◌++◌, ◌∷◌, [], ℕ, sym, ap, subst, ◌∙◌, length, get_or, Vec, Global}
use Rattle.std.proofs.lemmas.List.{map-append}
use Rattle.rank_set.specs.Ranks.{Ranks}
use Rattle.overlay_setup.specs.NodeSets.{In}
use Rattle.stat_plan.specs.Plans.{nodes}
use Rattle.overlay_setup.specs.Scripts.{Stream}
use Rattle.stat_plan.specs.Tables.{AreExpected, AreAllExpected}
use Rattle.overlay_setup.specs.Tables.{rows_view}
use Rattle.stat_plan.proofs.FirstOver.{daemons_are_nodes}
use Rattle.stat_plan.proofs.LookupLemmas.{expected_more}
use Rattle.stat_plan.specs.Files.{plan_in}
use Rattle.stat_plan.proofs.plan.expected_tables.Goals as goal

pub expected_sets-requires-clause-daemons : goal.expected_sets-requires-clause-daemons
expected_sets-requires-clause-daemons c =
    let lt : c.loop-stream.stream-index < length (plan_in c.args.files).streams = subst (λ xs. c.loop-stream.stream-index < length xs) c.streams-stream-items.ensures c.loop-stream-test.true in
    let is = c.stream-item.is ∙ ap (λ xs. get_or xs c.loop-stream.stream-index c.stream-item.result) c.streams-stream-items.ensures in
    subst (λ ds. (d : ℕ) → In d ds → d < nodes (plan_in c.args.files)) (ap (λ (x : Stream). x.daemons) (sym is) ∙ sym c.daemons.ensures) (daemons_are_nodes (plan_in c.args.files) c.loop-stream.stream-index c.stream-item.result c.invariant.ensures lt)

pub loop-stream-preserved : goal.loop-stream-preserved
loop-stream-preserved c =
    let one : rows_view c.push.new.self.items ≡ rows_view c.loop-stream.tables.items ++ c.in_ok-expected_sets.field-0.items ∷ [] =
    ap rows_view c.in_ok-push.ensures.items ∙ map-append (λ (r : Vec Ranks Global). r.items) c.loop-stream.tables.items (c.in_ok-expected_sets.field-0 ∷ []) in
    subst (AreAllExpected (plan_in c.args.files) _) (sym one)
    (expected_more (plan_in c.args.files) c.streams-stream-items.result.now c.loop-stream.stream-index c.stream-item.result (rows_view c.loop-stream.tables.items) c.in_ok-expected_sets.field-0.items c.loop-stream.invariant c.loop-stream-test.true
    (subst (λ ds. AreExpected (plan_in c.args.files) ds c.in_ok-expected_sets.field-0.items) (c.daemons.ensures ∙ ap (λ (x : Stream). x.daemons) c.stream-item.is) c.in_ok-expected_sets.ensures))
