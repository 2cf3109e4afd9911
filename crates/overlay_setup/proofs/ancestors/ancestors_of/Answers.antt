use Rattle.std.proofs.Common.{◌≡◌, ◌<◌, ◌+◌, ◌-◌, ◌++◌, length, sym, ap, ◌∙◌, arith, Some}
use Rattle.std.proofs.lemmas.List.{append-nil}
use Rattle.overlay_setup.specs.Trees.{climb, parent_of}
use Rattle.overlay_setup.proofs.Climbs.{climb-on, climb-end}
use Rattle.overlay_setup.proofs.ancestors.ancestors_of.Goals as goal
use Rattle.overlay_setup.proofs.ancestors.ancestors_of.Goals.{else-loop-test, then-loop-test+in_default}

pub loop-preserved : goal.loop-preserved
loop-preserved c =
    let is : parent_of c.args.topology.now.parents c.loop.at ≡ Some c.in-Some.parent = sym c.parent.ensures ∙ c.in-Some.is in
    let lt : c.loop.counter < length c.args.topology.now.parents = omega (arith, c.loop-test.true, c.nodes-end.ensures) in
    record {
      node = (c.invariant.ensures.tree.parents_are_nodes c.loop.at c.in-Some.parent is).1;
      above =
          ap (λ xs. xs ++ climb c.args.topology.now.parents (length c.args.topology.now.parents - (c.loop.counter + 1)) c.in-Some.parent) (c.in_ok-push.ensures.items)
          ∙ climb-on c.args.topology.now.parents c.loop.above.items c.loop.counter c.loop.at c.in-Some.parent lt is
          ∙ c.loop.invariant.above;
    }

pub returns : goal.returns
returns c =
    sym (append-nil c.loop.above.items)
    ∙ ap (λ xs. c.loop.above.items ++ xs) (elim c.loop-test.branch [
      | (else-loop-test w) ↦
          let out : length c.args.topology.now.parents - c.loop.counter ≡ 0 = omega (arith, w.loop-test.false, c.nodes-end.ensures) in
          sym (ap (λ k. climb c.args.topology.now.parents k c.loop.at) out)
      | (then-loop-test+in_default w) ↦ sym (climb-end c.args.topology.now.parents (length c.args.topology.now.parents - c.loop.counter) c.loop.at (sym w.parent.ensures ∙ w.in_default.is))
    ])
    ∙ c.loop.invariant.above
