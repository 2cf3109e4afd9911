use Rattle.std.proofs.Common.{◌∙◌, sym}
use Rattle.topology_text.proofs.Roots.{beyond_here, within_here, none_beyond}
use Rattle.topology_text.proofs.whole.first_beyond.Goals as goal

pub returns-then-not-is_within : goal.returns-then-not-is_within
returns-then-not-is_within c = sym (beyond_here c.args.parents.now c.args.links c.loop-node.node c.loop-node-test.true (sym c.is_within.ensures ∙ c.if-not-is_within.true)) ∙ c.loop-node.invariant

pub loop-node-preserved : goal.loop-node-preserved
loop-node-preserved c = within_here c.args.parents.now c.args.links c.loop-node.node c.loop-node-test.true (sym c.is_within.ensures ∙ c.if-not-is_within.false) ∙ c.loop-node.invariant

pub returns : goal.returns
returns c = sym (none_beyond c.args.parents.now c.args.links c.loop-node.node c.loop-node-test.false) ∙ c.loop-node.invariant
