use Rattle.std.proofs.Common.{◌≡◌, ◌++◌, drop, filter}
use Rattle.std.specs.List.{AllByRecursion}
use Rattle.stat_plan.specs.Plans.{serves, waves_of}
use Rattle.overlay_node.specs.NodeViews.{held_keys}
use Rattle.overlay_node.specs.Starts.{IsFresh}
use Rattle.overlay_node.proofs.init.fresh_waves.Given as goal

abbrev pub invariant-loop-stream : goal.invariant-loop-stream
invariant-loop-stream g l = record {
  keys : held_keys l.held.items ++ filter (λ v. serves l.plan l.n v.0) (waves_of (drop l.stream-index l.stream-items)) ≡ filter (λ v. serves l.plan l.n v.0) (waves_of l.stream-items);
  fresh : AllByRecursion (IsFresh l.plan) l.held.items;
}
