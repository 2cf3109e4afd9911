use Rattle.std.proofs.Common.{◌-◌, length}
use Rattle.arena_tree.proofs.grow.Growth.+add_path.Given as goal

abbrev pub decreases-add_path : goal.decreases-add_path
decreases-add_path l = length l.chain.path.now - l.chain.skip
