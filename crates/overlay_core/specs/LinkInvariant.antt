-- What holds of each node and each link of a state that a legal journal leaves: of kin, of links and of losses that are known, as of
-- any overlay; of what packets carry, of what the books cover, and of counts.
use Rattle.rank_set.specs.Ranks.{Ranks, none, Has, IsSubset}
use Rattle.std.specs.Prelude.{ℕ, ◌≡◌, ◌≢◌, ◌≤◌, ◌⊎◌, true, ⊤, Some}
use Rattle.overlay_setup.specs.NodeSets.{In}
use Rattle.stat_plan.specs.Plans.{Plan, AreRelated, IsUnder, fault, ranks, daemons, serves, waves_of}
use Rattle.overlay_setup.specs.declared.script.Fault.{Fault}
use Rattle.stat_plan.specs.Machine.LossInvariant.{LossInvariant}
use Rattle.stat_plan.specs.Machine.Waves.{Wave, Open, Closed, Book}
use Rattle.overlay_core.specs.Nodes.{Packet, Up, Done, Attach, Down, Node}
use Rattle.overlay_core.specs.Machine.{State, net_of}

-- d is a daemon of s that is n or stands under n
pub record IsDaemonAt (p : Plan) (d s n : ℕ) : Type 0 where
  pub listed : In d (daemons p s)
  pub within : (d ≡ n) ⊎ IsUnder p d n

-- r is a rank of a daemon at or under n whose ranks are all covered
pub record ComesWhole (p : Plan) (s n : ℕ) (covered : Ranks) (r : ℕ) : Type 0 where
  pub daemon : ℕ
  pub place : IsDaemonAt p daemon s n
  pub holds : Has r (ranks p daemon)
  pub all : IsSubset (ranks p daemon) covered

-- what is covered are all ranks of some daemons of s at or under n
abbrev pub IsUnion : Plan → ℕ → ℕ → Ranks → Type 0
IsUnion p s n covered = (r : ℕ) → Has r covered → ComesWhole p s n covered r

-- What may be on a link from m to n: ranks go up, and are all ranks of some daemons under m; the end of a wave goes down, to
-- who serves it; an attachment goes up; a node is notified of the loss of one above or under it.
abbrev pub Fits : Plan → ℕ → ℕ → Packet → Type 0
Fits p m n (Up s w set) = IsUnder p m n × IsUnion p s m set × (set ≢ none) × In (s, w) (waves_of p.streams)
Fits p m n (Done s w) = IsUnder p n m × (serves p n s ≡ true) × In (s, w) (waves_of p.streams)
Fits p m n Attach = IsUnder p m n
Fits p m n Down = AreRelated p n m

-- an open wave covers all ranks of some daemons, and what was sent of it is covered
pub record OpenIsSound (p : Plan) (n s : ℕ) (covered sent : Ranks) : Type 0 where
  pub within : IsSubset sent covered
  pub whole : IsUnion p s n covered

-- a wave that has ended is sound
abbrev pub WaveIsSound : Plan → ℕ → ℕ → Wave → Type 0
WaveIsSound p n s (Open covered sent timer) = OpenIsSound p n s covered sent
WaveIsSound p n s Closed = ⊤

-- Books: each wave is sound
abbrev pub BookIsSound : Plan → ℕ → Book → Type 0
BookIsSound p n book = (s w : ℕ) → WaveIsSound p n s (book s w)

-- Counts: no node does more events than it does before it is lost
abbrev pub CountIsSound : Plan → ℕ → Node → Type 0
CountIsSound p n x = (f : Fault) → fault p n ≡ Some f → x.count ≤ f.after

-- all of these
pub record LinkInvariant (p : Plan) (st : State) : Type 0 where
  pub net : LossInvariant p Down (Fits p) (net_of st)
  pub books : (n : ℕ) → BookIsSound p n (st.node n).book
  pub counts : (n : ℕ) → CountIsSound p n (st.node n)
