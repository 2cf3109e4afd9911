use Rattle.std.proofs.Common.{drop}
use Rattle.control_cast.specs.CastEvents.{AreCountedBut}
use Rattle.control_cast.specs.CastStates.{nodes_state}
use Rattle.control_cast.proofs.nodes.CastNodes.count.Given as goal

abbrev pub invariant-loop-number : goal.invariant-loop-number
invariant-loop-number l = record {
  counted : AreCountedBut l.plan l.commands (nodes_state l.plan l.self) (drop l.number-index l.numbers) l.counts;
}
