use Rattle.std.proofs.Common.{◌≡◌, ◌+◌, drop}
use Rattle.overlay_node.specs.Acting.{held_index}
use Rattle.overlay_node.proofs.work.NodeWork.held_index.Given as goal

abbrev pub invariant-loop-i : goal.invariant-loop-i
invariant-loop-i g l = held_index l.s l.w l.self.held.items ≡ l.i + held_index l.s l.w (drop l.i l.self.held.items)
