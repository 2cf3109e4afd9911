-- The packets that a node sends, and the inboxes that they go to.
use Rattle.std.specs.Prelude.{◌≡◌, ◌≢◌, ⊤, ℕ, ◌<◌, false, ◌==◌, List, [], ◌∷◌, length, Option, Some, None, option_map}
use Rattle.overlay_setup.specs.NodeSets.{up_to}
use Rattle.stat_plan.specs.Plans.{Plan, fault, nodes}
use Rattle.overlay_event.specs.declared.event.Event.{Event}
use Rattle.overlay_event.specs.declared.event.Event.TheVariants.{Sample, Recv, Tick, Lose}
use Rattle.node_inbox.specs.Inboxes.{IsInbox, queue_of}
use Rattle.overlay_net.specs.Inboxes.{FrameInbox}
use Rattle.node_inbox.specs.Sends.{inbox_at}

-- the node, if it is to be lost
abbrev pub if_lost : Plan → ℕ → Option ℕ
if_lost p n = option_map (λ f. n) (fault p n)

-- these nodes, and one before them, if there is one
abbrev pub with_first : Option ℕ → List ℕ → List ℕ
with_first None ns = ns
with_first (Some n) ns = n ∷ ns

-- the nodes of whom an event may change which of their events may be claimed: its own, the sender of what it receives, if a loss
-- waits there for the event, and the receivers of what it sends; all nodes, if it is a loss
abbrev pub changed : Plan → Event → List ℕ → List ℕ
changed p (Sample n s w) receivers = n ∷ receivers
changed p (Recv n m) receivers = n ∷ with_first (if_lost p m) receivers
changed p (Tick n) receivers = n ∷ receivers
changed p (Lose n) receivers = up_to (nodes p)

-- if the event receives a packet, a packet waits
abbrev pub CanTake : List FrameInbox → Event → Type 0
CanTake old (Sample n s w) = ⊤
CanTake old (Recv n m) = (n < length old) × (queue_of (inbox_at old n) m ≢ [])
CanTake old (Tick n) = ⊤
CanTake old (Lose n) = ⊤

-- q was the first packet that waited from m for n, and is taken
pub record IsFirst (m n : ℕ) (q : (List ℕ)) (old new : List FrameInbox) : Type 0 where
  pub first : queue_of (inbox_at old n) m ≡ q ∷ queue_of (inbox_at new n) m
  pub rest : (a : ℕ) → (a == m) ≡ false → queue_of (inbox_at new n) a ≡ queue_of (inbox_at old n) a
  pub others : (b : ℕ) → (b == n) ≡ false → inbox_at new b ≡ inbox_at old b
  pub inbox_count : length new ≡ length old
  pub inboxes : ((b : ℕ) → IsInbox (inbox_at old b)) → (b : ℕ) → IsInbox (inbox_at new b)

-- the packet that an event receives was taken
abbrev pub IsTaken : List FrameInbox → Event → Option (List ℕ) → List FrameInbox → Type 0
IsTaken old (Sample n s w) packet new = (packet ≡ None) × (new ≡ old)
IsTaken old (Recv n m) None new = ⊥
IsTaken old (Recv n m) (Some q) new = IsFirst m n q old new
IsTaken old (Tick n) packet new = (packet ≡ None) × (new ≡ old)
IsTaken old (Lose n) packet new = (packet ≡ None) × (new ≡ old)
