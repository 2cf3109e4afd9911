use Rattle.control_cast.specs.CastPicks.{HasCome}
use Rattle.control_cast.specs.CastStates.{IsNetState, state_of}
use Rattle.control_cast.proofs.Short.{cast_weight}
use Rattle.control_cast.proofs.state.CastState.run_picked.Given as goal

abbrev pub invariant-loop-event : goal.invariant-loop-event
invariant-loop-event l = record {
  net : IsNetState l.plan l.commands l.self;
  come : HasCome l.plan l.commands (state_of l.plan l.fn.self) l.seed l.journal l.number (state_of l.plan l.self);
}

abbrev pub decreases-loop-event : goal.decreases-loop-event
decreases-loop-event l = cast_weight l.plan l.commands (state_of l.plan l.self)
