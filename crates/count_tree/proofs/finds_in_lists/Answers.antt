use Rattle.std.proofs.Common.{subst}
use Rattle.count_tree.proofs.Lists.{IsItem, finds_item, sum_of_lengths}
use Rattle.count_tree.proofs.finds_in_lists.Goals as goal

pub returns-clause-place : goal.returns-clause-place
returns-clause-place g c = λ f xs i n j e. (subst (IsItem f xs i) e (finds_item f xs i)).0

pub returns-clause-item : goal.returns-clause-item
returns-clause-item g c = λ f xs i n j x e at. ((subst (IsItem f xs i) e (finds_item f xs i)).1 x at).0

pub returns-clause-within : goal.returns-clause-within
returns-clause-within g c = λ f xs i n j x e at. ((subst (IsItem f xs i) e (finds_item f xs i)).1 x at).1

pub returns-clause-none : goal.returns-clause-none
returns-clause-none g c = λ f xs i e. subst (IsItem f xs i) e (finds_item f xs i)

pub returns-clause-total : goal.returns-clause-total
returns-clause-total g c = λ f xs. sum_of_lengths f xs
