use Rattle.control_cast.proofs.Starting.{AreFirst}
use Rattle.control_cast.proofs.nodes.CastNodes.new.Given as goal

abbrev pub invariant-loop-n : goal.invariant-loop-n
invariant-loop-n l = record {
  first : AreFirst l.plan l.n l.alive.items l.members.items l.inboxes.items;
}
