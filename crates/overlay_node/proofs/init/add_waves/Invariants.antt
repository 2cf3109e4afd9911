use Rattle.std.proofs.Common.{◌≡◌, ◌++◌, map}
use Rattle.std.specs.List.{AllByRecursion}
use Rattle.stat_plan.specs.Plans.{Plan}
use Rattle.overlay_setup.specs.NodeSets.{up_to}
use Rattle.overlay_node.specs.NodeViews.{held_keys}
use Rattle.overlay_node.specs.Starts.{HasWaves, IsFresh}
use Rattle.overlay_node.proofs.init.add_waves.Given as goal

abbrev pub invariant-loop-w : goal.invariant-loop-w
invariant-loop-w g l = record {
  keys : held_keys l.held.items ≡ held_keys l.fn.held.items ++ map (λ w. (l.s, w)) (up_to l.w);
  fresh : (p : Plan) → HasWaves p l.s l.waves → AllByRecursion (IsFresh p) l.fn.held.items → AllByRecursion (IsFresh p) l.held.items;
}
