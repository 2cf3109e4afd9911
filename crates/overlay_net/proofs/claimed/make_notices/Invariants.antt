use Rattle.std.proofs.Common.{◌≡◌}
use Rattle.overlay_node.specs.Outputs.{AreFrames, packets_of}
use Rattle.overlay_net.proofs.Working.{notices_below}
use Rattle.overlay_net.proofs.claimed.make_notices.Given as goal

abbrev pub invariant-loop-b : goal.invariant-loop-b
invariant-loop-b g l = record {
  sent : packets_of l.sends.items ≡ notices_below l.plan l.n l.b;
  frames : AreFrames l.plan l.sends.items;
}
