use Rattle.std.proofs.Common.{◌-◌, length}
use Rattle.arena_tree.proofs.merge.+plan_chain.Given as goal

abbrev pub decreases-plan_chain : goal.decreases-plan_chain
decreases-plan_chain l = length l.chain.path.now - l.chain.skip
