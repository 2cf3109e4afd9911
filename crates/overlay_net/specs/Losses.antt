-- What the loss of a node does to what waits, node by node.
use Rattle.std.specs.Prelude.{◌≡◌, ◌<◌, ◌≤◌, ℕ, Bool, true, false, ◌==◌, ◌&&◌, cond, List, [], ◌∷◌, ◌++◌, map, take, length}
use Rattle.std.specs.List.{AllByRecursion}
use Rattle.stat_plan.specs.Plans.{Plan, fault, is_related, nodes}
use Rattle.overlay_event.specs.declared.event.Event.{Event}
use Rattle.overlay_event.specs.declared.event.Event.TheVariants.{Sample, Recv, Tick, Lose}
use Rattle.stat_plan.specs.Machine.Overlays.{keep_of}
use Rattle.overlay_core.specs.Nodes.{Down}
use Rattle.overlay_node.specs.Frames.{IsFrame, packet_of}
use Rattle.node_inbox.specs.Inboxes.{IsInbox, queue_of}
use Rattle.node_inbox.specs.Cuts.{AreCut}
use Rattle.overlay_net.specs.Inboxes.{FrameInbox, WaitingFrames}
use Rattle.node_inbox.specs.Sends.{inbox_at, is_alive}

-- ---- the links alone

-- an event that is a loss cuts the inboxes, and another one leaves them
abbrev pub AreCutBy : Plan → Event → List FrameInbox → List FrameInbox → Type 0
AreCutBy p (Sample n s w) old new = new ≡ old
AreCutBy p (Recv n m) old new = new ≡ old
AreCutBy p (Tick n) old new = new ≡ old
AreCutBy p (Lose n) old new = AreCut n (keep_of (fault p n)) (nodes p) old new

-- ---- the links, and who is notified

-- Of what waits from n for b, the first packets stay, and behind them b is notified if it lives and is related to n. What waits
-- from others stays.
pub record IsCutAndTold (p : Plan) (alive : List Bool) (n b : ℕ) (old new : WaitingFrames) : Type 0 where
  pub cut : map packet_of (queue_of new n) ≡ take (keep_of (fault p n)) (map packet_of (queue_of old n)) ++ cond (is_alive alive b && is_related p n b) (Down ∷ []) []
  pub others : (a : ℕ) → (a == n) ≡ false → queue_of new a ≡ queue_of old a
  pub frames : AllByRecursion (IsFrame p) (queue_of old n) → AllByRecursion (IsFrame p) (queue_of new n)
  pub inbox : IsInbox new

-- what the loss of n leaves of the inbox of b; nothing of its own
pub record IsLost (p : Plan) (alive : List Bool) (n b : ℕ) (old new : WaitingFrames) : Type 0 where
  pub own : (b == n) ≡ true → new ≡ []
  pub else : (b == n) ≡ false → IsCutAndTold p alive n b old new

-- the loss of n was done to the inboxes of the first nodes, and each other one is unchanged
pub record AreLost (p : Plan) (alive : List Bool) (n count : ℕ) (old new : List FrameInbox) : Type 0 where
  pub inbox_count : length new ≡ length old
  pub done : (b : ℕ) → b < count → IsLost p alive n b (inbox_at old b) (inbox_at new b)
  pub rest : (b : ℕ) → count ≤ b → inbox_at new b ≡ inbox_at old b
