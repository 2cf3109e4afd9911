-- The events of the nodes, found by number, and the invariants of a net.
use Rattle.std.specs.Prelude.{◌≡◌, ⊤, ℕ, ◌+◌, ◌<◌, Bool, true, false, ◌&&◌, not, cond, filter, List, [], ◌∷◌, length, slice_get, slice_set, Option, Some, None}
use Rattle.std.specs.List.{AllByRecursion}
use Rattle.std.specs.List.Sorted.{IsStrictlySortedBy}
use Rattle.std.specs.Ordering.{nat_cmp}
use Rattle.stat_plan.specs.Plans.{Plan, daemons, nodes, front}
use Rattle.overlay_setup.specs.NodeSets.{member}
use Rattle.count_tree.specs.Places.{AreCountsBut}
use Rattle.overlay_event.specs.declared.event.Event.{Event}
use Rattle.overlay_event.specs.declared.event.Event.TheVariants.{Sample, Recv, Tick, Lose}
use Rattle.overlay_core.specs.Machine.{is_enabled, is_wave, next_sample}
use Rattle.overlay_core.specs.TreeReleases.{TreeRelease, bare_releases}
use Rattle.overlay_node.specs.Frames.{IsFrame}
use Rattle.overlay_node.specs.NodeViews.{NodeView, Counts, IsNodeOf, has_running, node_of}
use Rattle.node_inbox.specs.Inboxes.{HaveSent, is_waiting, queue_of, senders_of}
use Rattle.overlay_net.specs.Inboxes.{FrameInbox, WaitingFrames}
use Rattle.event_claims.specs.Claims.{Outs, is_loss_of}
use Rattle.overlay_net.specs.Nets.{NetView, IsReachedBy, claims_at, is_doomed_node, state_with}
use Rattle.node_inbox.specs.Sends.{inbox_at}
use Rattle.overlay_net.specs.declared.events.Nth.{Nth}
use Rattle.overlay_net.specs.declared.events.Nth.TheVariants.{Found, Beyond}

-- the event at this index, or by how much the index is beyond the events
abbrev pub IsNth : List Event → ℕ → Nth → Type 0
IsNth events i (Found e) = slice_get events i ≡ Some e
IsNth events i (Beyond k) = i ≡ length events + k

-- a sample of a wave, if there is one
abbrev pub sample_at : ℕ → ℕ → Option ℕ → List Event
sample_at n s None = []
sample_at n s (Some w) = Sample n s w ∷ []

-- it isn't the loss of a node
abbrev pub IsOrdinary : Event → Type 0
IsOrdinary (Sample n s w) = ⊤
IsOrdinary (Recv n m) = ⊤
IsOrdinary (Tick n) = ⊤
IsOrdinary (Lose n) = ⊥

-- whether an event of this living node may come next
abbrev pub may_come : Plan → NodeView → WaitingFrames → Event → Bool
may_come p x box (Sample n s w) = not (is_doomed_node p x) && (member x.number (daemons p s) && is_wave (next_sample p (node_of x) s) w)
may_come p x box (Recv n m) = not (is_doomed_node p x) && is_waiting box m
may_come p x box (Tick n) = not (is_doomed_node p x) && has_running p x
may_come p x box (Lose n) = is_doomed_node p x

-- There is each node of the plan, with its inbox. What waits are frames of the plan. The senders of an inbox are
-- strictly increasing nodes, and each has packets waiting.
pub record AreParts (p : Plan) (alive : List Bool) (xs : List NodeView) (inboxes : List FrameInbox) : Type 0 where
  pub node_count : length xs ≡ nodes p
  pub inbox_count : length inboxes ≡ nodes p
  pub alive_count : length alive ≡ nodes p
  pub node : (n : ℕ) (x : NodeView) → slice_get xs n ≡ Some x → (x.number ≡ n) × IsNodeOf p x
  pub packets : (m n : ℕ) → AllByRecursion (IsFrame p) (queue_of (inbox_at inboxes n) m)
  pub senders : (m n : ℕ) → is_waiting (inbox_at inboxes n) m ≡ true → m < nodes p
  pub sent : (n : ℕ) → HaveSent (inbox_at inboxes n)
  pub increasing : (n : ℕ) → IsStrictlySortedBy nat_cmp (senders_of (inbox_at inboxes n))

-- the senders that are not being lost
abbrev pub free_senders : Outs → List ℕ → List ℕ
free_senders out senders = filter (λ m. not (is_loss_of (out m) m)) senders

-- the counts are those of the events of each node that may be claimed, but for these nodes
abbrev pub AreCountedBut : List ℕ → Plan → List Bool → List NodeView → List FrameInbox → Outs → List ℕ → Type 0
AreCountedBut rest p alive xs inboxes out counts = AreCountsBut (λ n. member n rest) (claims_at p alive xs inboxes out) (nodes p) counts

-- the counts are those of the events of each node that may be claimed
abbrev pub AreCounted : Plan → List Bool → List NodeView → List FrameInbox → Outs → List ℕ → Type 0
AreCounted = AreCountedBut []

-- each node that is out with its loss is counted
pub record AreLosing (p : Plan) (out : Outs) (losing : List ℕ) : Type 0 where
  pub node_count : length losing ≡ nodes p
  pub each : (n : ℕ) → n < nodes p → slice_get losing n ≡ Some (cond (is_loss_of (out n) n) 1 0)

-- an event that is a loss sets the count of its node
abbrev pub with_loss : Event → ℕ → List ℕ → List ℕ
with_loss (Sample n s w) count losing = losing
with_loss (Recv n m) count losing = losing
with_loss (Tick n) count losing = losing
with_loss (Lose n) count losing = slice_set losing n count

-- after an event that is a loss its node doesn't live
abbrev pub without_lost : Event → List Bool → List Bool
without_lost (Sample n s w) alive = alive
without_lost (Recv n m) alive = alive
without_lost (Tick n) alive = alive
without_lost (Lose n) alive = slice_set alive n false

-- no node is out with its loss
abbrev pub NoneIsLosing : Outs → Type 0
NoneIsLosing out = (n : ℕ) → is_loss_of (out n) n ≡ false

-- the front end has counted the releases
abbrev pub FrontCounts : Plan → List NodeView → List TreeRelease → Type 0
FrontCounts p xs releases = (x : NodeView) → slice_get xs (front p) ≡ Some x → Counts x.held (bare_releases releases)

-- a net that is reached by a journal
pub record IsNet (v : NetView) : Type 0 where
  pub journal : List Event
  pub reached : IsReachedBy v journal
  pub parts : AreParts v.plan v.alive v.nodes v.inboxes
  pub front : FrontCounts v.plan v.nodes v.releases

-- the event may come next in a net of these parts
abbrev pub IsEnabledIn : Plan → List Bool → List NodeView → List FrameInbox → List TreeRelease → Event → Type 0
IsEnabledIn p alive xs inboxes releases e = is_enabled p (state_with p alive xs inboxes releases) e ≡ true
