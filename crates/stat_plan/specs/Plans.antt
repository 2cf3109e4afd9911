-- A plan: what the three files of a job say together, and what is looked up there.
use Rattle.std.specs.Prelude.{ℕ, ◌<◌, ◌⊎◌, Bool, ◌||◌, ◌==◌, List, [], ◌∷◌, ◌++◌, map, filter, length, slice_index_or, find, Option, Some, None}
use Rattle.std.specs.List.{AllByRecursion, list_any}
use Rattle.rank_set.specs.Ranks.{Ranks, none}
use Rattle.call_path.specs.Pairs.{Pairs}
use Rattle.overlay_setup.specs.NodeSets.{In, member, up_to}
use Rattle.stat_plan.specs.Samples.{SampleLine, all_ranks, samples_of, seen_by, wave_lines}
use Rattle.overlay_setup.specs.Scripts.{Scripted, Stream}
use Rattle.overlay_setup.specs.Topologies.{Nodes}
use Rattle.overlay_setup.specs.Trees as tree
use Rattle.overlay_setup.specs.declared.script.Grain.{Grain}
use Rattle.overlay_setup.specs.declared.script.Grain.TheVariants.{Line}
use Rattle.overlay_setup.specs.declared.script.Mode.{Mode}
use Rattle.overlay_setup.specs.declared.script.Mode.TheVariants.{WaitForAll}
use Rattle.overlay_setup.specs.declared.script.Fault.{Fault}

-- what a samples text says: each node's ranks, by node number, and the samples in the order of the text
pub record Sampled : Type 0 where
  pub placed : List Ranks
  pub lines : List SampleLine

-- samples of these parts
abbrev pub sampled : List Ranks → List SampleLine → Sampled
sampled placed lines = record { placed = placed; lines = lines }

-- the nodes' names and parents, their ranks, the samples, the streams, and the nodes that are to be lost
pub record Plan : Type 0 where
  pub names : List (List ℕ)
  pub parents : List (Option ℕ)  -- by node number; the front end's is none
  pub placed : List Ranks
  pub lines : List SampleLine
  pub streams : List Stream
  pub faults : List Fault

-- the plan of what three texts say
abbrev pub plan_of : Nodes → Sampled → Scripted → Plan
plan_of t s c = record {
  names = t.names;
  parents = t.parents;
  placed = s.placed;
  lines = s.lines;
  streams = c.streams;
  faults = c.faults;
}

-- the plan with these lines in place of its samples
abbrev pub with_lines : Plan → List SampleLine → Plan
with_lines p lines = record { names = p.names; parents = p.parents; placed = p.placed; lines = lines; streams = p.streams; faults = p.faults }

-- what each of the three texts says of a plan
abbrev pub nodes_of : Plan → Nodes
nodes_of p = record { names = p.names; parents = p.parents }

abbrev pub sampled_of : Plan → Sampled
sampled_of p = record { placed = p.placed; lines = p.lines }

abbrev pub scripted_of : Plan → Scripted
scripted_of p = record { streams = p.streams; faults = p.faults }

-- how many nodes there are
abbrev pub nodes : Plan → ℕ
nodes p = length p.parents

-- each is the number of a node
abbrev pub AreNodes : Plan → List ℕ → Type 0
AreNodes p numbers = AllByRecursion (λ n. n < nodes p) numbers

-- the front end
unfoldable pub front : Plan → ℕ
front p = tree.root_of p.parents

-- whether a node is the front end
unfoldable pub is_front : Plan → ℕ → Bool
is_front p n = n == front p

-- a node's original ancestors, nearest first
unfoldable pub ancestors : Plan → ℕ → List ℕ
ancestors p n = tree.climb p.parents (nodes p) n

-- m is an original ancestor of n
abbrev pub IsUnder : Plan → ℕ → ℕ → Type 0
IsUnder p n m = In m (ancestors p n)

-- whether m is an original ancestor of n
unfoldable pub is_under : Plan → ℕ → ℕ → Bool
is_under p n m = member m (ancestors p n)

-- whether n is m itself or under it
unfoldable pub is_within : Plan → ℕ → ℕ → Bool
is_within p n m = (n == m) || is_under p n m

-- one is an original ancestor of the other
abbrev pub AreRelated : Plan → ℕ → ℕ → Type 0
AreRelated p n m = IsUnder p n m ⊎ IsUnder p m n

-- whether one is an original ancestor of the other
unfoldable pub is_related : Plan → ℕ → ℕ → Bool
is_related p n m = is_under p n m || is_under p m n

-- the ranks that are placed on a node; none if it is not a daemon
unfoldable pub ranks : Plan → ℕ → Ranks
ranks p n = slice_index_or p.placed n none

-- the stream of a number
unfoldable pub stream_of : Plan → ℕ → Option Stream
stream_of p s = find (λ x. x.number == s) p.streams

-- the daemons of a stream
unfoldable pub daemons : Plan → ℕ → List ℕ
daemons p s = elim (stream_of p s) [ None ↦ [] | (Some x) ↦ x.daemons ]

-- the mode of a stream
unfoldable pub mode : Plan → ℕ → Mode
mode p s = elim (stream_of p s) [ None ↦ WaitForAll | (Some x) ↦ x.mode ]

-- how many sample times each wave of a stream has
unfoldable pub sample_count : Plan → ℕ → ℕ
sample_count p s = elim (stream_of p s) [ None ↦ 0 | (Some x) ↦ x.samples ]

-- how a stream sees paths
unfoldable pub grain : Plan → ℕ → Grain
grain p s = elim (stream_of p s) [ None ↦ Line | (Some x) ↦ x.grain ]

-- whether a node serves a stream: one of its daemons is the node or stands under it
unfoldable pub serves : Plan → ℕ → ℕ → Bool
serves p n s = list_any (λ d. is_within p d n) (daemons p s)

-- those of some daemons that are a node or stand under it
abbrev pub those_within : Plan → ℕ → List ℕ → List ℕ
those_within p n daemons = filter (λ d. is_within p d n) daemons

-- the ranks of some daemons
abbrev pub ranks_on : Plan → List ℕ → Ranks
ranks_on p daemons = all_ranks (map (ranks p) daemons)

-- the ranks of the daemons of a stream that are a node or stand under it
unfoldable pub expected : Plan → ℕ → ℕ → Ranks
expected p n s = ranks_on p (those_within p n (daemons p s))

-- all ranks of a stream
unfoldable pub stream_ranks : Plan → ℕ → Ranks
stream_ranks p s = ranks_on p (daemons p s)

-- the waves of some streams, by stream and wave
abbrev pub waves_of : List Stream → List (ℕ × ℕ)
waves_of [] = []
waves_of (x ∷ xs) = map (λ w. (x.number, w)) (up_to x.waves) ++ waves_of xs

-- the waves of the streams that a node serves, by stream and wave
unfoldable pub waves_at : Plan → ℕ → List (ℕ × ℕ)
waves_at p n = filter (λ v. serves p n v.0) (waves_of p.streams)

-- when a node is to be lost, and what is left on the links out of it
unfoldable pub fault : Plan → ℕ → Option Fault
fault p n = find (λ f. f.node == n) p.faults

-- the lines at the times of a wave, as the stream sees them
abbrev pub seen_lines : Plan → ℕ → ℕ → List SampleLine
seen_lines p s w = map (seen_by (grain p s) (stream_ranks p s)) (wave_lines (sample_count p s) w p.lines)

-- the samples of a wave: each rank of the stream with each path that a line at a time of the wave lists it in, by the
-- stream's grain
unfoldable pub samples : Plan → ℕ → ℕ → Pairs
samples p s w = samples_of (seen_lines p s w)
