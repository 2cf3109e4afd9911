use Rattle.front_end.proofs.Direct.{direct_json_where_all_wait, direct_where_all_wait}
use Rattle.front_end.proofs.laws.waiting_reports_are_direct.Goals as goal

pub returns-clause-text : goal.returns-clause-text
returns-clause-text c = λ p faults journal releases lost text plan waits safe run. direct_where_all_wait p journal releases plan waits safe run faults lost text

pub returns-clause-json : goal.returns-clause-json
returns-clause-json c = λ p faults journal releases lost text plan waits safe run. direct_json_where_all_wait p journal releases plan waits safe run faults lost text
