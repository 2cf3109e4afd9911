use Rattle.std.proofs.Common.{drop}
use Rattle.overlay_net.specs.States.{AreClaimsCountedBut}
use Rattle.overlay_net.proofs.nodes.NetNodes.count_nodes.Given as goal

abbrev pub invariant-loop-number : goal.invariant-loop-number
invariant-loop-number g l = record {
  counted : AreClaimsCountedBut l.plan l.self (drop l.number-index l.numbers) l.counts;
}
