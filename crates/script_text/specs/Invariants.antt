-- What holds of a script after each line.
use Rattle.std.specs.Prelude.{◌≢◌, ◌<◌, ◌≤◌, length, map}
use Rattle.std.specs.List.{AllByRecursion}
use Rattle.overlay_setup.specs.Scripts.{IsDaemon, IsStream, IsFault, Scripted}
use Rattle.overlay_setup.specs.declared.script.TheConstants.{FAULT_LIMIT}
use Rattle.overlay_setup.specs.NodeSets.{IsStrictlyIncreasing}
use Rattle.overlay_setup.specs.Topologies.{Nodes}
use Rattle.overlay_setup.specs.Trees.{root_of}

-- streams of daemons, ascending by number, and losses of nodes other than the front end, ascending by node
pub record ParserInvariant (t : Nodes) (c : Scripted) : Type 0 where
  pub streams : AllByRecursion IsStream c.streams
  pub streams_increase : IsStrictlyIncreasing (map (λ x. x.number) c.streams)
  pub fault_ranges : AllByRecursion IsFault c.faults
  pub faults_limit : length c.faults ≤ FAULT_LIMIT
  pub faults_increase : IsStrictlyIncreasing (map (λ f. f.node) c.faults)
  pub daemons : AllByRecursion (λ x. AllByRecursion (IsDaemon t) x.daemons) c.streams
  pub faults : AllByRecursion (λ f. (f.node < length t.parents) × (f.node ≢ root_of t.parents)) c.faults
