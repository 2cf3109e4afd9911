use Rattle.std.proofs.Common.{◌≡◌, ℕ, ◌/◌, ◌<◌, ap, refl, ◌∙◌, subst, set, length, arith}
use Rattle.count_tree.specs.Sums.{IsTreeBut}
use Rattle.count_tree.proofs.Trees.{length_of_counts}
use Rattle.count_tree.proofs.Changes.{leaf_written, node_summed, sum_fits, counts_written, counts_kept, children_read}
use Rattle.count_tree.proofs.CountTree.set.Goals as goal
use Rattle.count_tree.proofs.CountTree.set.Goals.{Start, After-self}

pub overflow_add-index : goal.overflow_add-index
overflow_add-index c =
    let t = c.loop-node.self-inside in
    let node = c.loop-node in
    let p : ℕ = node.node / 2 in
    let some : 0 < p = omega (arith, c.loop-node-test.true) in
    let below : p < t.leaves = omega (arith, node.invariant.inside) in
    let read = children_read p t.sums.items t.leaves t.places node.invariant.tree p c.index-in-loop-node.result.now c.index-in-loop-node-2.result.now below c.index-in-loop-node.ensures c.index-in-loop-node-2.ensures in
    omega (arith, read, sum_fits p t.sums.items t.leaves t.places node.invariant.tree p some below)

pub loop-node-init : goal.loop-node-init
loop-node-init c =
    let t = c.self.inside in
    let lengths = ap length c.self.view_is in
    let within : c.args.place < t.places = omega (arith, c.requires, lengths, length_of_counts 0 t.sums.items t.leaves t.places c.self.invariant) in
    record {
      some = omega (arith, within, c.self.invariant.enough);
      inside = omega (arith, within, c.self.invariant.enough);
      tree = leaf_written t.sums.items t.leaves t.places c.args.place c.args.count c.self.invariant within c.ranges.count.fits;
      counts = refl;
    }

pub loop-node-preserved : goal.loop-node-preserved
loop-node-preserved c =
    let t = c.loop-node.self-inside in
    let node = c.loop-node in
    let p : ℕ = node.node / 2 in
    let some : 0 < p = omega (arith, c.loop-node-test.true) in
    let below : p < t.leaves = omega (arith, node.invariant.inside) in
    let read = children_read p t.sums.items t.leaves t.places node.invariant.tree p c.index-in-loop-node.result.now c.index-in-loop-node-2.result.now below c.index-in-loop-node.ensures c.index-in-loop-node-2.ensures in
    record {
      some = some;
      inside = omega (arith, below);
      tree = subst (λ v. IsTreeBut (p / 2) (set t.sums.items p v) t.leaves t.places) read (node_summed t.sums.items t.leaves t.places p node.invariant.tree some below);
      counts = counts_kept t.sums.items t.leaves t.places p _ below ∙ node.invariant.counts;
    }

pub invariant_of-self : goal.invariant_of-self
invariant_of-self c =
    let t = c.loop-node.self-inside in
    let top : c.loop-node.node / 2 ≡ 0 = omega (arith, c.loop-node-test.false) in
    subst (λ k. IsTreeBut k t.sums.items t.leaves t.places) top c.loop-node.invariant.tree

pub returns : goal.returns
returns c =
    let t = c.self.inside in
    let lengths = ap length c.self.view_is in
    let within : c.args.place < t.places = omega (arith, c.requires, lengths, length_of_counts 0 t.sums.items t.leaves t.places c.self.invariant) in
    c.loop-node.invariant.counts
    ∙ counts_written t.sums.items t.leaves t.places c.args.place c.args.count within
    ∙ ap (λ counts. set counts c.args.place c.args.count) c.self.view_is
