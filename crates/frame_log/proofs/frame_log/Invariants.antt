use Rattle.std.proofs.Common.{◌≡◌, false, take}
use Rattle.overlay_net.specs.Nets.{AllHome, IsReachedBy}
use Rattle.frame_log.specs.FrameLog.{frame_log}
use Rattle.frame_log.proofs.frame_log.Given as goal

abbrev pub invariant-loop-number : goal.invariant-loop-number
invariant-loop-number g l = record {
  plan : l.net.plan ≡ l.plan;
  usable : l.net.failed ≡ false;
  home : AllHome l.net;
  reached : IsReachedBy l.net (take l.number l.journal);
  log : l.log.items ≡ frame_log l.plan (take l.number l.journal);
}
