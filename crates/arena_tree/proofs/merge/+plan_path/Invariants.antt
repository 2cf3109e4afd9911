use Rattle.std.proofs.Common.{◌-◌, length}
use Rattle.arena_tree.proofs.merge.+plan_path.Given as goal

abbrev pub decreases-plan_path : goal.decreases-plan_path
decreases-plan_path l = length l.chain.path.now - l.chain.skip
