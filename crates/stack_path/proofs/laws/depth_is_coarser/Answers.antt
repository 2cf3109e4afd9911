use Rattle.stack_path.proofs.Depths.{cut_twice, cut_len, ends_len}
use Rattle.stack_path.proofs.laws.depth_is_coarser.Goals as goal

pub returns-clause-twice : goal.returns-clause-twice
returns-clause-twice c = cut_twice

pub returns-clause-within : goal.returns-clause-within
returns-clause-within c = cut_len

pub returns-clause-both : goal.returns-clause-both
returns-clause-both c = ends_len
