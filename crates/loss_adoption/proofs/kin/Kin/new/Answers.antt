use Rattle.loss_adoption.proofs.Adoption.{starts}
use Rattle.loss_adoption.proofs.kin.Kin.new.Goals as goal

pub returns-clause-fits : goal.returns-clause-fits
returns-clause-fits c = starts c.args.plan.now c.args.n c.parent_of.result c.in_ok-children.children.items c.new.result.items c.requires c.parent_of.ensures c.in_ok-children.ensures c.new.ensures.items
