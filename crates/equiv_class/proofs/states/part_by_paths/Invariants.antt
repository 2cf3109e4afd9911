use Rattle.std.proofs.Common.{◌≡◌, ℕ, ◌&&◌, ◌++◌, nat_eq, get_or, drop, length}
use Rattle.equiv_class.specs.SeenPaths.{entries_view, paths_to, same_paths}
use Rattle.equiv_class.specs.Origins.{AreOrigins, paths_before}
use Rattle.equiv_class.specs.States.{AreTables}
use Rattle.equiv_class.proofs.states.part_by_paths.Given as goal

abbrev pub invariant-loop-i : goal.invariant-loop-i
invariant-loop-i l = record {
  long : length l.states ≡ length l.fn.states;
  tables : AreTables l.states l.next.items;
  origins : AreOrigins l.next.items l.origins.items;
  same : (r s : ℕ) → (nat_eq (get_or l.states r 0) (get_or l.states s 0) && same_paths r s (entries_view (drop l.i l.seen))) ≡ same_paths r s (entries_view l.seen);
  paths : (r : ℕ) → paths_before (entries_view l.seen) l.origins.items (get_or l.states r 0) ++ paths_to r (entries_view (drop l.i l.seen)) ≡ paths_to r (entries_view l.seen);
}
