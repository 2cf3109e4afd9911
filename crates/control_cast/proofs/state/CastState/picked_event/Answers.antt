use Rattle.std.proofs.Common.{◌∙◌}
use Rattle.control_cast.specs.CastStates.{state_of}
use Rattle.control_cast.specs.Machine.{enabled_events}
use Rattle.stat_plan.proofs.Journals.{none_to_pick, one_picked}
use Rattle.control_cast.proofs.Counting.{all_counted}
use Rattle.control_cast.proofs.state.CastState.picked_event.Goals as goal

pub returns-then-count-eq0 : goal.returns-then-count-eq0
returns-then-count-eq0 c =
    let p = c.args.plan.now in
    let st = state_of p c.args.self.now in
    none_to_pick (enabled_events p c.args.commands st) c.args.number c.total-count.result (c.total-count.ensures ∙ all_counted p c.args.commands st c.args.self.now.counts c.requires.counted) c.if-count-eq0.true

pub returns : goal.returns
returns c =
    let p = c.args.plan.now in
    let st = state_of p c.args.self.now in
    one_picked (enabled_events p c.args.commands st) c.args.number c.total-count.result c.nth_enabled.result (c.total-count.ensures ∙ all_counted p c.args.commands st c.args.self.now.counts c.requires.counted) c.nth_enabled.ensures
