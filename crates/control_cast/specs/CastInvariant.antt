-- What holds of each state that a legal journal of the cast leads to.
use Rattle.std.specs.Prelude.{ℕ, ◌≡◌, ◌≤◌, ◌<◌, ◌+◌, ◌⊎◌, Bool, true, false, List, [], ◌∷◌, ◌++◌, map, Some}
use Rattle.overlay_setup.specs.NodeSets.{In}
use Rattle.stat_plan.specs.Plans.{Plan, IsUnder, AreRelated}
use Rattle.stat_plan.specs.Machine.LossInvariant.{LossInvariant}
use Rattle.control_cast.specs.Machine.{Packet, Cmd, Attach, Down, State, seen, numbers_after}

-- commands go down, an attachment goes up
abbrev pub Fits : Plan → ℕ → ℕ → Packet → Type 0
Fits p m n (Cmd i) = IsUnder p n m
Fits p m n (Attach k) = IsUnder p m n
Fits p m n Down = AreRelated p n m

-- the r commands after k, on a link
abbrev pub cmds : ℕ → ℕ → List Packet
cmds k r = map Cmd (numbers_after k r)

-- A node c that has obeyed `below` commands is a child of its living parent, which has obeyed `above`: the commands between are on
-- the way, in order, and nothing else is on the links of the two.
pub record IsChild (c below above : ℕ) (children : List ℕ) (up down : List Packet) : Type 0 where
  pub there : In c children
  pub up_empty : up ≡ []
  pub rest : ℕ
  pub coming : down ≡ cmds below rest
  pub sum : below + rest ≡ above

-- or it is none yet, and the parent will hear how many it has obeyed
pub record IsAttaching (c below : ℕ) (children : List ℕ) (up down : List Packet) : Type 0 where
  pub absent : In c children → ⊥
  pub attach : up ≡ Attach below ∷ []
  pub down_empty : down ≡ []

-- the parent is lost, and the node will hear of it after some commands that follow those that it has obeyed
pub record IsOrphan (below above : ℕ) (down : List Packet) : Type 0 where
  pub rest : ℕ
  pub coming : down ≡ cmds below rest ++ Down ∷ []
  pub within : 0 < rest → below + rest ≤ above

-- a living node and its parent, which lives or not
pub record IsJoined (alive : Bool) (c below above : ℕ) (children : List ℕ) (up down : List Packet) : Type 0 where
  pub living : alive ≡ true → IsChild c below above children up down ⊎ IsAttaching c below children up down
  pub lost : alive ≡ false → IsOrphan below above down

-- Kin, links and losses; and of the cast: each node has obeyed the first commands, in order, and no more than any living ancestor; what
-- joins a living node to any but its parent isn't there; and each living node is joined to its parent.
pub record CastInvariant (p : Plan) (commands : ℕ) (st : State) : Type 0 where
  pub base : LossInvariant p Down (Fits p) st.net
  pub order : (n : ℕ) → st.obeyed n ≡ numbers_after 0 (seen st n)
  pub within_limit : (n : ℕ) → seen st n ≤ commands
  pub above : (n q : ℕ) → st.net.alive q ≡ true → IsUnder p n q → seen st n ≤ seen st q
  pub children : (n c : ℕ) → st.net.alive n ≡ true → st.net.alive c ≡ true → In c (st.net.kin n).children → (st.net.kin c).parent ≡ Some n
  pub attaches : (m n k : ℕ) → st.net.alive m ≡ true → In (Attach k) (st.net.link m n) → (st.net.kin m).parent ≡ Some n
  pub commanded : (m n i : ℕ) → In (Cmd i) (st.net.link m n) → (st.net.kin n).parent ≡ Some m
  pub joined : (c q : ℕ) → st.net.alive c ≡ true → (st.net.kin c).parent ≡ Some q → IsJoined (st.net.alive q) c (seen st c) (seen st q) (st.net.kin q).children (st.net.link c q) (st.net.link q c)
