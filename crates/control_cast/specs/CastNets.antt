-- A net of a cast as the machine's state, and the journals that lead to it.
use Rattle.std.specs.Prelude.{◌≡◌, ◌<◌, ℕ, zero, suc, Bool, ◌==◌, cond, List, [], ◌∷◌, ◌++◌, length, false, slice_get, slice_set, slice_index_or, Some}
use Rattle.overlay_setup.specs.NodeSets.{member}
use Rattle.stat_plan.specs.Plans.{AreNodes, Plan, nodes, is_related}
use Rattle.stat_plan.specs.Machine.Kin.{start_kin}
use Rattle.loss_adoption.specs.NodeKins.{IsKinOf}
use Rattle.node_inbox.specs.Inboxes.{InboxView, queue_of}
use Rattle.node_inbox.specs.Sends.{inbox_at, is_alive}
use Rattle.control_cast.specs.declared.event.CastEvent.{CastEvent}
use Rattle.control_cast.specs.Machine.{Packet, Down, State, Outcome, obey, received, start, step, after, IsLegal}
use Rattle.control_cast.specs.CastNodes.{NodeView, node_kin, obeyed_of, left_of}

-- a node that has done no event
abbrev pub start_view : Plan → ℕ → NodeView
start_view p n = record { number = n; kin = start_kin p n; seen = 0; count = 0 }

-- the node of this number; if there is none, one that has done no event
abbrev pub node_at : Plan → List NodeView → ℕ → NodeView
node_at p xs n = slice_index_or xs n (start_view p n)

-- the machine's state of these parts
abbrev pub state_with : Plan → List Bool → List NodeView → List (InboxView Packet) → State
state_with p alive xs boxes = record {
  net = record {
    alive = is_alive alive;
    kin = λ n. (node_at p xs n).kin;
    count = λ n. (node_at p xs n).count;
    link = λ m n. queue_of (inbox_at boxes n) m;
  };
  obeyed = λ n. obeyed_of (node_at p xs n);
}

-- they are as many as the plan's nodes, and each node is the one of its number
pub record AreParts (p : Plan) (alive : List Bool) (xs : List NodeView) (boxes : List (InboxView Packet)) : Type 0 where
  pub alive_count : length alive ≡ nodes p
  pub node_count : length xs ≡ nodes p
  pub inbox_count : length boxes ≡ nodes p
  pub numbers : (n : ℕ) (x : NodeView) → slice_get xs n ≡ Some x → (x.number ≡ n) × IsKinOf p (node_kin x)

-- a legal journal leads to the state
pub record IsReached (p : Plan) (commands : ℕ) (st : State) : Type 0 where
  pub journal : List CastEvent
  pub legal : IsLegal p commands journal
  pub state : st ≡ after p journal

-- what holds of a net between its events
pub record IsNet (p : Plan) (commands : ℕ) (alive : List Bool) (xs : List NodeView) (boxes : List (InboxView Packet)) : Type 0 where
  pub parts : AreParts p alive xs boxes
  pub reached : IsReached p commands (state_with p alive xs boxes)

-- nothing has happened to the parts yet
pub record AreInitial (p : Plan) (alive : List Bool) (xs : List NodeView) (boxes : List (InboxView Packet)) : Type 0 where
  pub parts : AreParts p alive xs boxes
  pub state : state_with p alive xs boxes ≡ start p

-- a node, and what is on the way to it, are as before
pub record IsSameAt (n : ℕ) (old new : State) : Type 0 where
  pub alive : new.net.alive n ≡ old.net.alive n
  pub count : new.net.count n ≡ old.net.count n
  pub link : (m : ℕ) → new.net.link m n ≡ old.net.link m n
  pub obeyed : new.obeyed n ≡ old.obeyed n

-- The event was done to the old state, and these are the new parts. Each node of the plan but for the changed ones is as before.
pub record HasDone (p : Plan) (e : CastEvent) (changed : List ℕ) (old : State) (alive : List Bool) (xs : List NodeView) (boxes : List (InboxView Packet)) : Type 0 where
  pub parts : AreParts p alive xs boxes
  pub step : state_with p alive xs boxes ≡ step p old e
  pub below : AreNodes p changed
  pub same : (n : ℕ) → n < nodes p → member n changed ≡ false → IsSameAt n old (state_with p alive xs boxes)

-- the node n had an event with this outcome, and each other node is as it was
pub record HasChanged (p : Plan) (n : ℕ) (old new : List NodeView) (o : Outcome) (sends : List (ℕ × Packet)) : Type 0 where
  pub node : NodeView
  pub all : new ≡ slice_set old n node
  pub outcome : left_of node sends ≡ o
  pub number : node.number ≡ n
  pub kin : IsKinOf p (node_kin node)
  pub count : node.count ≡ suc (node_at p old n).count

-- what the next command leaves of the node of this number
abbrev pub obeyed_at : Plan → List NodeView → ℕ → Outcome
obeyed_at p xs n = obey (node_at p xs n).kin (obeyed_of (node_at p xs n)) (suc (node_at p xs n).seen)

-- what a packet of m leaves of it
abbrev pub received_at : Plan → List NodeView → ℕ → ℕ → Packet → Outcome
received_at p xs n m q = received p n (node_at p xs n).kin (obeyed_of (node_at p xs n)) m q

-- q was the first packet that waited from m for n, and is taken
pub record IsFirst (m n : ℕ) (q : Packet) (old new : List (InboxView Packet)) : Type 0 where
  pub first : queue_of (inbox_at old n) m ≡ q ∷ queue_of (inbox_at new n) m
  pub rest : (a : ℕ) → (a == m) ≡ false → queue_of (inbox_at new n) a ≡ queue_of (inbox_at old n) a
  pub others : (b : ℕ) → (b == n) ≡ false → inbox_at new b ≡ inbox_at old b
  pub inbox_count : length new ≡ length old

-- the notices of the loss of n to the first nodes
abbrev pub notices_below : Plan → ℕ → ℕ → List (ℕ × Packet)
notices_below p n zero = []
notices_below p n (suc b) = notices_below p n b ++ cond (is_related p n b) ((b, Down) ∷ []) []
