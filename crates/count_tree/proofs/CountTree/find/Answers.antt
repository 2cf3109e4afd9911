use Rattle.std.proofs.Common.{ap, sym, ◌∙◌, arith}
use Rattle.count_tree.specs.Places.{place_of}
use Rattle.count_tree.proofs.Places.{no_place}
use Rattle.count_tree.proofs.Trees.{root}
use Rattle.count_tree.proofs.Descents.{is_below_root, is_below_first, is_below_second, place_of_leaf}
use Rattle.count_tree.proofs.CountTree.find.Goals as goal

pub returns-then-i-index : goal.returns-then-i-index
returns-then-i-index c =
    let t = c.self.inside in
    let sum = root t.sums.items t.leaves t.places c.self.invariant c.index.result.now in
    sym (ap (λ counts. place_of counts c.args.i) (sym c.self.view_is) ∙ no_place _ c.args.i (omega (arith, c.index.ensures, sum, c.if-i-index.true)))

pub loop-node-init : goal.loop-node-init
loop-node-init c =
    let t = c.self.inside in
    is_below_root t.sums.items t.leaves t.places c.args.i c.index.result.now c.self.invariant c.index.ensures c.if-i-index.false

pub loop-node-preserved-then-left-first : goal.loop-node-preserved-then-left-first
loop-node-preserved-then-left-first c =
    let t = c.self.inside in
    is_below_second t.sums.items t.leaves t.places c.args.i c.loop-node.node c.loop-node.left c.index-first.result.now c.self.invariant c.loop-node.invariant c.loop-node-test.true c.index-first.ensures c.if-left-first.true

pub loop-node-preserved : goal.loop-node-preserved
loop-node-preserved c =
    let t = c.self.inside in
    is_below_first t.sums.items t.leaves t.places c.args.i c.loop-node.node c.loop-node.left c.index-first.result.now c.self.invariant c.loop-node.invariant c.loop-node-test.true c.index-first.ensures c.if-left-first.false

pub returns : goal.returns
returns c =
    let t = c.self.inside in
    let found = place_of_leaf t.sums.items t.leaves t.places c.args.i c.loop-node.node c.loop-node.left c.self.invariant c.loop-node.invariant c.loop-node-test.false in
    sym (ap (λ counts. place_of counts c.args.i) (sym c.self.view_is) ∙ found.1)
