use Rattle.std.proofs.Common.{◌≡◌, false, take}
use Rattle.overlay_net.specs.Nets.{AllHome, IsReachedBy}
use Rattle.tool_tests.proofs.sums_tests.redo.Given as goal

abbrev pub invariant-loop-number : goal.invariant-loop-number
invariant-loop-number g l = record {
  plan : l.net.plan ≡ l.fn.net.plan;
  usable : l.net.failed ≡ false;
  home : AllHome l.net;
  reached : IsReachedBy l.net (take l.number l.journal);
}
