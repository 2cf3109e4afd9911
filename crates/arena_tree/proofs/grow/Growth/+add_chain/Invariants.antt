use Rattle.std.proofs.Common.{◌-◌, length}
use Rattle.arena_tree.proofs.grow.Growth.+add_chain.Given as goal

abbrev pub decreases-add_chain : goal.decreases-add_chain
decreases-add_chain l = length l.chain.path.now - l.chain.skip
