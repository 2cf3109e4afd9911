use Rattle.front_end.proofs.Orders.{json_reports_same, reports_same}
use Rattle.front_end.proofs.laws.reports_are_one.Goals as goal

pub returns-clause-text : goal.returns-clause-text
returns-clause-text c = reports_same

pub returns-clause-json : goal.returns-clause-json
returns-clause-json c = json_reports_same
