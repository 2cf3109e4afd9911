use Rattle.std.proofs.Common.{◌∙◌, sym}
use Rattle.control_cast.specs.CastStates.{state_of}
use Rattle.control_cast.proofs.Counting.{found_below, found_event, found_none}
use Rattle.control_cast.proofs.state.CastState.nth_enabled.Goals as goal

pub returns-in_default : goal.returns-in_default
returns-in_default c = found_none c.args.plan.now c.args.commands (state_of c.args.plan.now c.args.self.now) c.args.self.now.counts c.requires.counted c.args.i c.in_default.ensures

pub node_event-requires-clause-below : goal.node_event-requires-clause-below
node_event-requires-clause-below c = found_below c.args.plan.now c.args.commands (state_of c.args.plan.now c.args.self.now) c.args.self.now.counts c.requires.counted c.args.i c.in-Some.n c.in-Some.own (sym c.in-Some.ensures)

pub returns : goal.returns
returns c = c.node_event.ensures ∙ found_event c.args.plan.now c.args.commands (state_of c.args.plan.now c.args.self.now) c.args.self.now.counts c.requires.counted c.args.i c.in-Some.n c.in-Some.own (sym c.in-Some.ensures)
