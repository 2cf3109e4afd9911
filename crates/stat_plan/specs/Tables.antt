-- Tables by node number.
use Rattle.std.specs.Prelude.{ℕ, ◌≡◌, ◌<◌, cond, List, [], get_or, slice_get, slice_index_or, length, Option, Some, None}
use Rattle.rank_set.specs.Ranks.{Ranks, none, union, Has}
use Rattle.overlay_setup.specs.NodeSets.{member}
use Rattle.stat_plan.specs.Plans.{Plan, nodes, fault, ranks_on, those_within}
use Rattle.overlay_setup.specs.Scripts.{Stream}
use Rattle.overlay_setup.specs.Tables.{ancestors_table}
use Rattle.overlay_setup.specs.declared.script.Fault.{Fault}

-- by node number, the ranks of those of some daemons that are the node or stand under it
pub record AreExpected (p : Plan) (daemons : List ℕ) (sets : List Ranks) : Type 0 where
  pub paired : length sets ≡ nodes p
  pub each : (n : ℕ) → n < nodes p → slice_index_or sets n none ≡ ranks_on p (those_within p n daemons)

-- for each stream, what each node expects of it
pub record AreAllExpected (p : Plan) (streams : List Stream) (tables : List (List Ranks)) : Type 0 where
  pub paired : length tables ≡ length streams
  pub each : (i : ℕ) (x : Stream) → slice_get streams i ≡ Some x → AreExpected p x.daemons (slice_index_or tables i [])

-- by node number, each node's fault, if it is to be lost
pub record AreFaults (p : Plan) (table : List (Option Fault)) : Type 0 where
  pub paired : length table ≡ nodes p
  pub each : (n : ℕ) → slice_index_or table n None ≡ fault p n

-- the tables of a plan: each node's ancestors, what it expects, and its fault
pub record AreTables (p : Plan) (ancestors : List (List ℕ)) (expected : List (List Ranks)) (faults : List (Option Fault)) : Type 0 where
  pub above : ancestors ≡ ancestors_table p.parents
  pub ranks : AreAllExpected p p.streams expected
  pub losses : AreFaults p faults

-- ---- how the tables are filled: what single loops do. No clause of a public call cites what follows.

-- sets by number: those at some places have gained ranks, and the others are as they were
pub record GainRanks (old new : List Ranks) (at : List ℕ) (more : Ranks) : Type 0 where
  pub paired : length new ≡ length old
  pub each : (n : ℕ) → n < length old → slice_index_or new n none ≡ cond (member n at) (union (slice_index_or old n none) more) (slice_index_or old n none)

-- each placed rank has its node's number
pub record AreRankNodes (placed : List Ranks) (rank_to_node : List ℕ) : Type 0 where
  pub each : (n r : ℕ) → Has r (slice_index_or placed n none) → (r < length rank_to_node) × (get_or rank_to_node r 0 ≡ n)
