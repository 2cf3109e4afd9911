use Rattle.std.proofs.Common.{◌≡◌, ◌<◌, ◌≤◌, ◌∙◌, ap, sym, subst, arith, refl, length}
use Rattle.call_path.specs.Path.{Path}
use Rattle.arena_tree.specs.Links.{linked}
use Rattle.arena_tree.specs.ChainForest.{no_chains}
use Rattle.arena_tree.specs.Targets.{target_forest, IsAfter}
use Rattle.arena_tree.specs.Growth.{grown, rows_grown}
use Rattle.arena_tree.proofs.Planning.{target_inside, target_none}
use Rattle.arena_tree.proofs.MergingIn.{frame_in, some_rows, later_leads, later_less, lower_leads, lower_less, nodes_below, rows_below, nodes_left, rows_left, rest_grows, turn_same, turn_rows, grown_none, rows_grown_none}
use Rattle.arena_tree.proofs.grow.Growth.+merge_in.Goals as goal

pub loop-other-init : goal.loop-other-init
loop-other-init t c = record { into = c.requires.into; other = c.requires.other; same = refl; rows = refl; few_nodes = omega arith; few_rows = omega arith; less = omega arith }

pub get-node-requires : goal.get-node-requires
get-node-requires t c = target_inside c.args.from.nodes.now.items c.loop-other.other.node c.loop-other.other.place c.loop-other.other.skip c.loop-other.invariant.other c.loop-other-test.true

pub enter-requires-clause-into : goal.enter-requires-clause-into
enter-requires-clause-into t c = c.loop-other.invariant.into

pub enter-requires-clause-skip : goal.enter-requires-clause-skip
enter-requires-clause-skip t c = subst (λ (p : Path). c.loop-other.other.skip < length p) (sym c.frames.ensures) (frame_in c.args.from.nodes.now.items c.loop-other.other c.loop-other.invariant.other c.get-node.result.now c.get-node.ensures)

pub enter-requires-clause-room : goal.enter-requires-clause-room
enter-requires-clause-room t c = let some = some_rows c.args.from.nodes.now.items c.loop-other.other c.loop-other.invariant.other c.get-node.result.now c.get-node.ensures in let few = c.loop-other.invariant.few_nodes in omega (arith, some, few, c.requires.room)

pub enter-requires-clause-rows : goal.enter-requires-clause-rows
enter-requires-clause-rows t c = let few = c.loop-other.invariant.few_rows in omega (arith, few, c.requires.rows)

pub merge_in-requires : goal.merge_in-requires
merge_in-requires t c =
    let less = lower_less c.args.from.nodes.now.items c.loop-other.other c.loop-other.invariant.other c.get-node.result.now c.get-node.ensures
    c.in_ok-below.kept c.behind.result c.behind.ensures c.in_ok-below.ensures.kept.0 (subst (λ (p : Path). c.in_ok-below.kept ≤ length p) c.frames.ensures c.in_ok-below.ensures.kept.1) in
    let nodes = nodes_below c.args.from.nodes.now.items c.loop-other.other c.loop-other.invariant.other c.get-node.result.now c.get-node.ensures
    c.in_ok-below.kept c.behind.result c.behind.ensures c.in_ok-below.ensures.kept.0 (subst (λ (p : Path). c.in_ok-below.kept ≤ length p) c.frames.ensures c.in_ok-below.ensures.kept.1)
    c.frames.result.now c.label.result.now c.ends.result.now c.frames.ensures c.label.ensures c.ends.ensures (linked c.loop-other.self.first c.loop-other.self.nodes.items) (linked c.enter.new.self.first c.enter.new.self.nodes.items) c.loop-other.into c.enter.new.into c.in_ok-below.below c.loop-other.self.rows c.enter.new.self.rows c.in_ok-below.ensures.enters in
    let rows = rows_below c.args.from.nodes.now.items c.loop-other.other c.loop-other.invariant.other c.get-node.result.now c.get-node.ensures
    c.in_ok-below.kept c.behind.result c.behind.ensures c.in_ok-below.ensures.kept.0 (subst (λ (p : Path). c.in_ok-below.kept ≤ length p) c.frames.ensures c.in_ok-below.ensures.kept.1)
    c.frames.result.now c.label.result.now c.ends.result.now c.frames.ensures c.label.ensures c.ends.ensures (linked c.loop-other.self.first c.loop-other.self.nodes.items) (linked c.enter.new.self.first c.enter.new.self.nodes.items) c.loop-other.into c.enter.new.into c.in_ok-below.below c.loop-other.self.rows c.enter.new.self.rows c.in_ok-below.ensures.enters in
    let leads = lower_leads c.args.from.nodes.now.items c.loop-other.other c.loop-other.invariant.other c.get-node.result.now c.get-node.ensures
    c.in_ok-below.kept c.behind.result c.behind.ensures c.in_ok-below.ensures.kept.0 (subst (λ (p : Path). c.in_ok-below.kept ≤ length p) c.frames.ensures c.in_ok-below.ensures.kept.1) in
    let i = c.loop-other.invariant in
    (omega (arith, less, i.less, c.decreases), (c.in_ok-below.ensures.enters.below_grows, (leads, (c.requires.no_ranks, (omega (arith, nodes, i.few_nodes, c.requires.room), omega (arith, rows, i.few_rows, c.requires.rows))))))

pub loop-other-smaller : goal.loop-other-smaller
loop-other-smaller t c = later_less c.args.from.nodes.now.items c.loop-other.other c.loop-other.invariant.other c.get-node.result.now c.get-node.ensures c.after-other.result (subst (λ next. IsAfter c.loop-other.other next c.after-other.result) c.next.ensures c.after-other.ensures)

pub loop-other-preserved : goal.loop-other-preserved
loop-other-preserved t c =
    let i = c.loop-other.invariant in
    let nodes = nodes_left c.args.from.nodes.now.items c.loop-other.other c.loop-other.invariant.other c.get-node.result.now c.get-node.ensures
    c.in_ok-below.kept c.behind.result c.behind.ensures c.in_ok-below.ensures.kept.0 (subst (λ (p : Path). c.in_ok-below.kept ≤ length p) c.frames.ensures c.in_ok-below.ensures.kept.1)
    c.frames.result.now c.label.result.now c.ends.result.now c.frames.ensures c.label.ensures c.ends.ensures (linked c.loop-other.self.first c.loop-other.self.nodes.items) (linked c.enter.new.self.first c.enter.new.self.nodes.items) c.loop-other.into c.enter.new.into c.in_ok-below.below c.loop-other.self.rows c.enter.new.self.rows c.in_ok-below.ensures.enters
    (linked c.merge_in.new.self.first c.merge_in.new.self.nodes.items) c.merge_in.new.self.rows c.in_ok-merge_in.ensures.made c.in_ok-merge_in.ensures.rows c.in_ok-merge_in.ensures.few_nodes c.in_ok-merge_in.ensures.few_rows c.after-other.result (subst (λ next. IsAfter c.loop-other.other next c.after-other.result) c.next.ensures c.after-other.ensures) in
    let rows = rows_left c.args.from.nodes.now.items c.loop-other.other c.loop-other.invariant.other c.get-node.result.now c.get-node.ensures
    c.in_ok-below.kept c.behind.result c.behind.ensures c.in_ok-below.ensures.kept.0 (subst (λ (p : Path). c.in_ok-below.kept ≤ length p) c.frames.ensures c.in_ok-below.ensures.kept.1)
    c.frames.result.now c.label.result.now c.ends.result.now c.frames.ensures c.label.ensures c.ends.ensures (linked c.loop-other.self.first c.loop-other.self.nodes.items) (linked c.enter.new.self.first c.enter.new.self.nodes.items) c.loop-other.into c.enter.new.into c.in_ok-below.below c.loop-other.self.rows c.enter.new.self.rows c.in_ok-below.ensures.enters
    (linked c.merge_in.new.self.first c.merge_in.new.self.nodes.items) c.merge_in.new.self.rows c.in_ok-merge_in.ensures.made c.in_ok-merge_in.ensures.rows c.in_ok-merge_in.ensures.few_nodes c.in_ok-merge_in.ensures.few_rows c.after-other.result (subst (λ next. IsAfter c.loop-other.other next c.after-other.result) c.next.ensures c.after-other.ensures) in
    let less = later_less c.args.from.nodes.now.items c.loop-other.other c.loop-other.invariant.other c.get-node.result.now c.get-node.ensures c.after-other.result (subst (λ next. IsAfter c.loop-other.other next c.after-other.result) c.next.ensures c.after-other.ensures) in
    record {
      into = rest_grows c.args.from.nodes.now.items c.loop-other.other c.loop-other.invariant.other c.get-node.result.now c.get-node.ensures
          c.in_ok-below.kept c.behind.result c.behind.ensures c.in_ok-below.ensures.kept.0 (subst (λ (p : Path). c.in_ok-below.kept ≤ length p) c.frames.ensures c.in_ok-below.ensures.kept.1)
          c.frames.result.now c.label.result.now c.ends.result.now c.frames.ensures c.label.ensures c.ends.ensures (linked c.loop-other.self.first c.loop-other.self.nodes.items) (linked c.enter.new.self.first c.enter.new.self.nodes.items) c.loop-other.into c.enter.new.into c.in_ok-below.below c.loop-other.self.rows c.enter.new.self.rows c.in_ok-below.ensures.enters
          (linked c.merge_in.new.self.first c.merge_in.new.self.nodes.items) c.merge_in.new.self.rows c.in_ok-merge_in.ensures.made c.in_ok-merge_in.ensures.rows c.in_ok-merge_in.ensures.few_nodes c.in_ok-merge_in.ensures.few_rows c.after-other.result (subst (λ next. IsAfter c.loop-other.other next c.after-other.result) c.next.ensures c.after-other.ensures) (omega (arith, nodes, i.few_nodes, c.requires.room));
      other = later_leads c.args.from.nodes.now.items c.loop-other.other c.loop-other.invariant.other c.get-node.result.now c.get-node.ensures c.after-other.result (subst (λ next. IsAfter c.loop-other.other next c.after-other.result) c.next.ensures c.after-other.ensures);
      same = turn_same c.args.from.nodes.now.items c.loop-other.other c.loop-other.invariant.other c.get-node.result.now c.get-node.ensures
          c.in_ok-below.kept c.behind.result c.behind.ensures c.in_ok-below.ensures.kept.0 (subst (λ (p : Path). c.in_ok-below.kept ≤ length p) c.frames.ensures c.in_ok-below.ensures.kept.1)
          c.frames.result.now c.label.result.now c.ends.result.now c.frames.ensures c.label.ensures c.ends.ensures (linked c.loop-other.self.first c.loop-other.self.nodes.items) (linked c.enter.new.self.first c.enter.new.self.nodes.items) c.loop-other.into c.enter.new.into c.in_ok-below.below c.loop-other.self.rows c.enter.new.self.rows c.in_ok-below.ensures.enters
          (linked c.merge_in.new.self.first c.merge_in.new.self.nodes.items) c.merge_in.new.self.rows c.in_ok-merge_in.ensures.made c.in_ok-merge_in.ensures.rows c.in_ok-merge_in.ensures.few_nodes c.in_ok-merge_in.ensures.few_rows c.after-other.result (subst (λ next. IsAfter c.loop-other.other next c.after-other.result) c.next.ensures c.after-other.ensures) (omega (arith, nodes, i.few_nodes, c.requires.room)) ∙ i.same;
      rows = turn_rows c.args.from.nodes.now.items c.loop-other.other c.loop-other.invariant.other c.get-node.result.now c.get-node.ensures
          c.in_ok-below.kept c.behind.result c.behind.ensures c.in_ok-below.ensures.kept.0 (subst (λ (p : Path). c.in_ok-below.kept ≤ length p) c.frames.ensures c.in_ok-below.ensures.kept.1)
          c.frames.result.now c.label.result.now c.ends.result.now c.frames.ensures c.label.ensures c.ends.ensures (linked c.loop-other.self.first c.loop-other.self.nodes.items) (linked c.enter.new.self.first c.enter.new.self.nodes.items) c.loop-other.into c.enter.new.into c.in_ok-below.below c.loop-other.self.rows c.enter.new.self.rows c.in_ok-below.ensures.enters
          (linked c.merge_in.new.self.first c.merge_in.new.self.nodes.items) c.merge_in.new.self.rows c.in_ok-merge_in.ensures.made c.in_ok-merge_in.ensures.rows c.in_ok-merge_in.ensures.few_nodes c.in_ok-merge_in.ensures.few_rows c.after-other.result (subst (λ next. IsAfter c.loop-other.other next c.after-other.result) c.next.ensures c.after-other.ensures) (omega (arith, nodes, i.few_nodes, c.requires.room)) ∙ i.rows;
      few_nodes = omega (arith, nodes, i.few_nodes);
      few_rows = omega (arith, rows, i.few_rows);
      less = omega (arith, less, i.less);
    }

none_left : (t : _) (c : goal.After-loop-other t) → target_forest c.args.from.nodes.now.items c.loop-other.other ≡ no_chains
none_left t c = target_none c.args.from.nodes.now.items c.loop-other.other.node c.loop-other.other.place c.loop-other.other.skip c.loop-other.invariant.other c.loop-other-test.false

pub returns-clause-made : goal.returns-clause-made
returns-clause-made t c =
    let h = linked c.loop-other.self.first c.loop-other.self.nodes.items in
    sym (ap (grown h c.loop-other.into) (none_left t c) ∙ grown_none h c.loop-other.into) ∙ c.loop-other.invariant.same

pub returns-clause-rows : goal.returns-clause-rows
returns-clause-rows t c =
    let h = linked c.loop-other.self.first c.loop-other.self.nodes.items in
    let none = ap (rows_grown h c.loop-other.into) (none_left t c) ∙ rows_grown_none h c.loop-other.into in
    omega (arith, none, c.loop-other.invariant.rows)

pub returns-clause-few_nodes : goal.returns-clause-few_nodes
returns-clause-few_nodes t c = omega (arith, c.loop-other.invariant.few_nodes)

pub returns-clause-few_rows : goal.returns-clause-few_rows
returns-clause-few_rows t c = omega (arith, c.loop-other.invariant.few_rows)
