use Rattle.std.proofs.Common.{◌≡◌, subst}
use Rattle.control_cast.specs.Machine.{start, after}
use Rattle.control_cast.specs.Picked.{picked}
use Rattle.control_cast.specs.CastStates.{state_of}
use Rattle.control_cast.specs.CastViews.{NetView, cast_state}
use Rattle.control_cast.proofs.CastPicks.{picked_at_start}
use Rattle.control_cast.proofs.net.CastNet.run_picked.Goals as goal

pub returns-in-Ok-clause-start : goal.returns-in-Ok-clause-start
returns-in-Ok-clause-start c =
    let p = c.self.inside.plan.now in
    let new = state_of p c.run_picked.new.self in
    subst (λ (v : NetView). cast_state v ≡ start v.plan → (c.in-Ok.journal ≡ picked v.plan v.commands c.args.seed) × (new ≡ after v.plan c.in-Ok.journal)) c.self.view_is
    (picked_at_start p c.self.inside.commands (state_of p c.self.inside.state) new c.args.seed c.in-Ok.journal c.invariant.ensures c.in-Ok.ensures.picked)
