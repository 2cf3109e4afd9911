use Rattle.std.proofs.Common.{◌≡◌, ◌<◌, ℕ, false, length, get_or, take}
use Rattle.overlay_setup.specs.Trees.{is_daemon}
use Rattle.overlay_setup.proofs.topology.daemon_flags.Given as goal

abbrev pub invariant-loop-parent : goal.invariant-loop-parent
invariant-loop-parent l = record {
  paired : length l.flags.items ≡ length l.parents;
  each : (n : ℕ) → n < length l.flags.items → get_or l.flags.items n false ≡ is_daemon (take l.parent-index l.parents) n;
}
