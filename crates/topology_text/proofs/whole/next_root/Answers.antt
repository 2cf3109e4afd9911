use Rattle.std.proofs.Common.{◌≡◌, ◌∙◌, sym, ap, is_some, true, false, Bool, not}
use Rattle.topology_text.proofs.Roots.{root_here, other_here}
use Rattle.topology_text.proofs.whole.next_root.Goals as goal

flip : (b r : Bool) → b ≡ not r → r ≡ true → b ≡ false
flip b r e h = e ∙ ap not h

flip_back : (b r : Bool) → b ≡ not r → r ≡ false → b ≡ true
flip_back b r e h = e ∙ ap not h

pub returns-then-is_none-clause-root : goal.returns-then-is_none-clause-root
returns-then-is_none-clause-root c =
    sym c.loop-node.invariant ∙ root_here c.args.parents.now c.loop-node.node c.loop-node-test.true (ap is_some (sym c.parent_at.ensures) ∙ flip _ c.is_none.result c.is_none.ensures c.if-is_none.true)

pub loop-node-preserved : goal.loop-node-preserved
loop-node-preserved c =
    other_here c.args.parents.now c.loop-node.node c.loop-node-test.true (ap is_some (sym c.parent_at.ensures) ∙ flip_back _ c.is_none.result c.is_none.ensures c.if-is_none.false) ∙ c.loop-node.invariant
