use Rattle.std.proofs.Common.{◌≡◌, ◌∙◌, ap, sym, subst, ◌<◌}
use Rattle.std.specs.declared.cmp.Ordering.TheVariants.{Greater}
use Rattle.std.specs.Cmp.Lexicographic.{same_text}
use Rattle.arena_tree.specs.RowForest.{frame_cmp}
use Rattle.arena_tree.specs.ChainForest.{chain_node, count_nodes}
use Rattle.arena_tree.specs.Steps.{merge_steps}
use Rattle.arena_tree.specs.Reading.{frame_side}
use Rattle.arena_tree.specs.Targets.{target_forest}
use Rattle.arena_tree.proofs.Planning.{ReadsBehind, reads_behind, target_none, side_at, passes_on, shorter, after_forest, after_target}
use Rattle.arena_tree.proofs.GrowingPlaces.{after_grows}
use Rattle.arena_tree.proofs.Orders.{cmp_itself}
use Rattle.arena_tree.proofs.target.seek.Goals as goal

pub returns-then-eq-clause-side : goal.returns-then-eq-clause-side
returns-then-eq-clause-side c =
    let cs = c.args.nodes.now.items in
    let t = c.loop-into.into in
    let g = c.args.frame.now in
    let same : g ≡ c.frame-own.result.now = same_text g c.frame-own.result.now (sym (sym c.eq.ensures ∙ c.if-eq.true)) in
    side_at cs t.node t.place t.skip c.get-node.result.now c.frame-own.result.now
    (reads_behind cs t.node t.place t.skip c.get-node.result.now c.frame-own.result.now c.loop-into.invariant.target c.get-node.ensures c.frame-own.ensures.frame) g
    ∙ ap (frame_cmp g) (sym same) ∙ cmp_itself g

pub returns-in-Less-clause-side : goal.returns-in-Less-clause-side
returns-in-Less-clause-side c =
    let cs = c.args.nodes.now.items in
    let t = c.loop-into.into in
    side_at cs t.node t.place t.skip c.get-node.result.now c.frame-own.result.now
    (reads_behind cs t.node t.place t.skip c.get-node.result.now c.frame-own.result.now c.loop-into.invariant.target c.get-node.ensures c.frame-own.ensures.frame) c.args.frame.now
    ∙ sym c.cmp.ensures ∙ c.in-Less.is

pub returns-in-Equal-clause-side : goal.returns-in-Equal-clause-side
returns-in-Equal-clause-side c =
    let cs = c.args.nodes.now.items in
    let t = c.loop-into.into in
    side_at cs t.node t.place t.skip c.get-node.result.now c.frame-own.result.now
    (reads_behind cs t.node t.place t.skip c.get-node.result.now c.frame-own.result.now c.loop-into.invariant.target c.get-node.ensures c.frame-own.ensures.frame) c.args.frame.now
    ∙ sym c.cmp.ensures ∙ c.in-Equal.is

pub loop-into-smaller : goal.loop-into-smaller
loop-into-smaller c =
    let cs = c.args.nodes.now.items in
    let t = c.loop-into.into in
    let it : ReadsBehind cs t.node t.place t.skip c.get-node.result.now c.frame-own.result.now =
    reads_behind cs t.node t.place t.skip c.get-node.result.now c.frame-own.result.now c.loop-into.invariant.target c.get-node.ensures c.frame-own.ensures.frame in
    subst (λ k. count_nodes k < count_nodes (target_forest cs t))
    (sym (after_forest cs t c.after.result c.get-node.result.now.next (subst (λ next. Rattle.arena_tree.specs.Targets.IsAfter t next c.after.result) c.next.ensures c.after.ensures)))
    (shorter cs t.node t.place t.skip c.get-node.result.now c.frame-own.result.now it c.args.frame.now)

pub loop-into-preserved : goal.loop-into-preserved
loop-into-preserved c =
    let cs = c.args.nodes.now.items in
    let t = c.loop-into.into in
    let it : ReadsBehind cs t.node t.place t.skip c.get-node.result.now c.frame-own.result.now =
    reads_behind cs t.node t.place t.skip c.get-node.result.now c.frame-own.result.now c.loop-into.invariant.target c.get-node.ensures c.frame-own.ensures.frame in
    let after : Rattle.arena_tree.specs.Targets.IsAfter t c.get-node.result.now.next c.after.result = subst (λ next. Rattle.arena_tree.specs.Targets.IsAfter t next c.after.result) c.next.ensures c.after.ensures in
    let greater : frame_cmp c.args.frame.now c.frame-own.result.now ≡ Greater = sym c.cmp.ensures ∙ c.in-Greater.is in
    record {
      target = after_target cs t c.after.result c.get-node.result.now.next after it.next;
      grows = λ grows. after_grows cs t c.after.result c.get-node.result.now c.get-node.ensures after (c.loop-into.invariant.grows grows);
      same = λ n x gs w u v. c.loop-into.invariant.same n x gs w u v
          ∙ passes_on cs t.node t.place t.skip c.get-node.result.now c.frame-own.result.now it c.args.frame.now greater t.link n x gs w u v
          ∙ (λ i. merge_steps (sym after.link i) n (sym (after_forest cs t c.after.result c.get-node.result.now.next after) i) (chain_node x c.args.frame.now gs w u v));
    }

pub returns-clause-side : goal.returns-clause-side
returns-clause-side c =
    let t = c.loop-into.into in
    ap (frame_side c.args.frame.now) (target_none c.args.nodes.now.items t.node t.place t.skip c.loop-into.invariant.target c.loop-into-test.false)
