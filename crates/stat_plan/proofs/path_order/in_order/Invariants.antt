use Rattle.std.proofs.Common.{◌≡◌, ℕ, map, take}
use Rattle.std.specs.Borrow.{Bor}
use Rattle.call_path.specs.Path.{Path}
use Rattle.overlay_setup.specs.NodeSets.{up_to}
use Rattle.stat_plan.proofs.InOrder.{numbered_view, path_at}
use Rattle.stat_plan.proofs.path_order.in_order.Given as goal

abbrev pub invariant-loop-number : goal.invariant-loop-number
invariant-loop-number l = numbered_view l.keyed.items ≡ map (path_at l.paths) (up_to l.number)

abbrev pub invariant-loop-entry : goal.invariant-loop-entry
invariant-loop-entry l = l.numbers.items ≡ map (λ (e : Bor Path × ℕ). e.1) (take l.entry-index l.entry-items)
