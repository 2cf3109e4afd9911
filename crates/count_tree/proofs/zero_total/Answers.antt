use Rattle.count_tree.proofs.Places.{zero_counts, zero_sum}
use Rattle.count_tree.proofs.zero_total.Goals as goal

pub returns : goal.returns
returns c = λ counts. (zero_counts counts, zero_sum counts)
