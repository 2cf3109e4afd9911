-- What a script says: the streams of a job, and the nodes that are to be lost.
use Rattle.std.specs.Prelude.{◌≡◌, ◌≢◌, ◌≤◌, ◌<◌, ◌+◌, ◌*◌, ◌&&◌, ⊤, ℕ, Bool, true, List, [], length, map, nat_le, nat_lt}
use Rattle.std.specs.List.{AllByRecursion}
use Rattle.overlay_setup.specs.NodeSets.{IsStrictlyIncreasing}
use Rattle.overlay_setup.specs.Topologies.{Nodes}
use Rattle.overlay_setup.specs.Trees.{is_daemon, root_of}
use Rattle.overlay_setup.specs.declared.script.TheConstants.{FAULT_LIMIT}
use Rattle.overlay_setup.specs.declared.script.Grain.{Grain}
use Rattle.overlay_setup.specs.declared.script.Mode.{Mode}
use Rattle.overlay_setup.specs.declared.script.Mode.TheVariants.{WaitForAll, TimeOut, DontWait}
use Rattle.overlay_setup.specs.declared.script.Fault.{Fault}

-- a stream: its number, when its nodes pass a wave on, how many waves it has and how many sample times each, how it sees
-- paths, and its daemons
pub record Stream : Type 0 where
  pub number : ℕ
  pub mode : Mode
  pub waves : ℕ
  pub samples : ℕ
  pub grain : Grain
  pub daemons : List ℕ  -- ascending

-- the stream of these parts
abbrev pub stream : ℕ → Mode → ℕ → ℕ → Grain → List ℕ → Stream
stream number mode waves samples grain daemons = record {
  number = number;
  mode = mode;
  waves = waves;
  samples = samples;
  grain = grain;
  daemons = daemons;
}

-- whether a time is one of a wave's: wave w of k sample times has the times w * k to w * k + k - 1
abbrev pub is_in_wave : ℕ → ℕ → ℕ → Bool
is_in_wave k w time = nat_le (w * k) time && nat_lt time (w * k + k)

-- what a script says: the streams, ascending, and the nodes that are to be lost, ascending
pub record Scripted : Type 0 where
  pub streams : List Stream
  pub faults : List Fault

-- a script of these parts
abbrev pub scripted : List Stream → List Fault → Scripted
scripted streams faults = record { streams = streams; faults = faults }

-- a timeout is 1 to 1,000 ticks
abbrev pub IsMode : Mode → Type 0
IsMode WaitForAll = ⊤
IsMode (TimeOut t) = (1 ≤ t) × (t ≤ 1000)
IsMode DontWait = ⊤

-- one of 8 streams, of 1 to 16 waves with 1 to 64 sample times each, of some daemons in ascending order
pub record IsStream (x : Stream) : Type 0 where
  pub number : x.number < 8
  pub mode : IsMode x.mode
  pub has_waves : 1 ≤ x.waves
  pub waves_within_limit : x.waves ≤ 16
  pub has_samples : 1 ≤ x.samples
  pub samples_within_limit : x.samples ≤ 64
  pub has_daemons : x.daemons ≢ []
  pub daemons_increase : IsStrictlyIncreasing x.daemons

-- the nodes that are to be lost
abbrev pub fault_nodes : List Fault → List ℕ
fault_nodes faults = map (λ f. f.node) faults

-- a node is lost after at most 65,535 events, and at most as many packets stay
pub record IsFault (f : Fault) : Type 0 where
  pub after : f.after ≤ 65535
  pub keep : f.keep ≤ 65535

-- streams and faults, each ascending, with at least one stream and at most 256 faults
pub record IsScript (c : Scripted) : Type 0 where
  pub some : c.streams ≢ []
  pub streams : AllByRecursion IsStream c.streams
  pub streams_increase : IsStrictlyIncreasing (map (λ x. x.number) c.streams)
  pub faults : AllByRecursion IsFault c.faults
  pub faults_limit : length c.faults ≤ FAULT_LIMIT
  pub faults_increase : IsStrictlyIncreasing (fault_nodes c.faults)

-- a node that is a daemon
abbrev pub IsDaemon : Nodes → ℕ → Type 0
IsDaemon t n = (n < length t.parents) × (is_daemon t.parents n ≡ true)

-- the streams are of daemons, and the nodes that are to be lost are nodes other than the front end
pub record ScriptFits (t : Nodes) (c : Scripted) : Type 0 where
  pub daemons : AllByRecursion (λ x. AllByRecursion (IsDaemon t) x.daemons) c.streams
  pub faults : AllByRecursion (λ f. (f.node < length t.parents) × (f.node ≢ root_of t.parents)) c.faults
