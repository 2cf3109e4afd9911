-- What holds of a living node and its living parent, which are joined by two links.
use Rattle.rank_set.specs.Ranks.{Ranks, Has}
use Rattle.std.specs.Prelude.{ℕ, ◌≡◌, ◌⊎◌, true, false, List, Some}
use Rattle.overlay_setup.specs.NodeSets.{In}
use Rattle.stat_plan.specs.Plans.{Plan, waves_at}
use Rattle.overlay_core.specs.Nodes.{Packet, Up, Done, Attach, Node}
use Rattle.stat_plan.specs.Machine.Waves.{is_open, coverage_of, sent_of}
use Rattle.overlay_core.specs.Machine.{State}

-- r is on the way up in a packet of the wave
pub record IsUnderWay (r s w : ℕ) (qs : List Packet) : Type 0 where
  pub set : Ranks
  pub there : In (Up s w set) qs
  pub holds : Has r set

-- a node c, which stands as x, and its parent, which stands as y, with the links up and down between them
pub record ParentChildHolds (p : Plan) (c : ℕ) (x y : Node) (up down : List Packet) : Type 0 where
  -- the parent has the child, or will hear of it
  pub child : In c y.kin.children ⊎ In Attach up
  -- what the child sent of a wave that is open at the parent, the parent covers, or it is on the way
  pub sent : (s w r : ℕ) → is_open (y.book s w) ≡ true → Has r (sent_of (x.book s w)) → Has r (coverage_of (y.book s w)) ⊎ IsUnderWay r s w up
  -- where a wave has ended at the parent and not at the child, the word of it is on the way, or the parent will be asked
  pub closed : (s w : ℕ) → In (s, w) (waves_at p c) → is_open (y.book s w) ≡ false → is_open (x.book s w) ≡ true → In (Done s w) down ⊎ In Attach up

-- The invariant of parents and children: so it is of each living node and its living parent
abbrev pub ParentChildInvariant : Plan → State → Type 0
ParentChildInvariant p st = (c q : ℕ) → st.alive c ≡ true → st.alive q ≡ true → (st.node c).kin.parent ≡ Some q → ParentChildHolds p c (st.node c) (st.node q) (st.link c q) (st.link q c)
