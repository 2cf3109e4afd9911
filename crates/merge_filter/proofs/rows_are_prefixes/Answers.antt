use Rattle.merge_filter.proofs.Prefixes.{rows_all, rows_within}
use Rattle.merge_filter.proofs.rows_are_prefixes.Goals as goal

pub returns-clause-within : goal.returns-clause-within
returns-clause-within c = rows_within

pub returns-clause-covered : goal.returns-clause-covered
returns-clause-covered c = rows_all
