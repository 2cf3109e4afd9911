use Rattle.std.proofs.lemmas.Result.{on_ok_weaker}
use Rattle.loss_adoption.proofs.Adoption.{attached}
use Rattle.loss_adoption.proofs.kin.Kin.on_attach.Goals as goal

pub returns-clause-fits : goal.returns-clause-fits
returns-clause-fits c = on_ok_weaker c.insert_number.result
    (λ added p fits lt. attached p c.args.self.now c.self.inside.node c.self.inside.parent c.self.inside.children.items c.insert_number.new.numbers.items c.self.inside.lost.items c.args.child c.self.view_is added fits lt)
    c.insert_number.ensures.ok
