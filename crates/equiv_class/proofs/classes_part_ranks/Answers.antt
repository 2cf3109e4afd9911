use Rattle.std.proofs.Common.{cond, ap, ◌∙◌}
use Rattle.equiv_class.proofs.Partition.{classes_with-classes_of}
use Rattle.equiv_class.proofs.classes_part_ranks.Goals as goal

pub returns-clause-covered : goal.returns-clause-covered
returns-clause-covered c = λ P C r there. classes_with-classes_of P C r ∙ ap (λ b. cond b 1 0) there

pub returns-clause-others : goal.returns-clause-others
returns-clause-others c = λ P C r distinct. classes_with-classes_of P C r ∙ ap (λ b. cond b 1 0) distinct
