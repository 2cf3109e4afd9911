-- What a node sends, and the inboxes that it goes to.
use Rattle.std.specs.Prelude.{◌≡◌, ℕ, ◌<◌, ◌≤◌, ◌-◌, Bool, false, ◌==◌, ◌&&◌, cond, List, [], ◌∷◌, ◌++◌, length, slice_index_or}
use Rattle.std.specs.List.{AllByRecursion, list_any}
use Rattle.node_inbox.specs.Inboxes.{InboxView, IsInbox, Waiting, queue_of, room_for}

-- whether a node lives
abbrev pub is_alive : List Bool → ℕ → Bool
is_alive alive n = slice_index_or alive n false

module _ {X : Type 0} where
  -- an inbox without items or room
  abbrev pub no_inbox : InboxView X
  no_inbox = record { waiting = []; rooms = [] }

  -- what waits for a node
  abbrev pub inbox_at : List (InboxView X) → ℕ → Waiting X
  inbox_at inboxes n = (slice_index_or inboxes n no_inbox).waiting

  -- for how many more items of m the inbox of n has room
  abbrev pub room_at : List (InboxView X) → ℕ → ℕ → ℕ
  room_at inboxes n m = room_for (slice_index_or inboxes n no_inbox) m

  -- the items that go to b
  abbrev pub packets_to : ℕ → List (ℕ × X) → List X
  packets_to b [] = []
  packets_to b (v ∷ vs) = cond (v.0 == b) (v.1 ∷ packets_to b vs) (packets_to b vs)

  -- whether an item goes to b
  abbrev pub is_receiver : List (ℕ × X) → ℕ → Bool
  is_receiver sends b = list_any (λ v. v.0 == b) sends

  -- each receiver is below this number
  abbrev pub GoBelow : ℕ → List (ℕ × X) → Type 0
  GoBelow count sends = AllByRecursion (λ v. v.0 < count) sends

  -- each inbox has room for all that is sent to it
  abbrev pub HaveRoom : ℕ → List (ℕ × X) → List (InboxView X) → Type 0
  HaveRoom from sends inboxes = (b : ℕ) → length (packets_to b sends) ≤ room_at inboxes b from

  -- each inbox of a node that lives used the sender's room for what was sent to it, and all other room is as it was
  abbrev pub UseRoom : List Bool → ℕ → List (ℕ × X) → List (InboxView X) → List (InboxView X) → Type 0
  UseRoom alive from sends old new = (a b : ℕ) → room_at new b a
      ≡ cond ((a == from) && is_alive alive b) (room_at old b a - length (packets_to b sends)) (room_at old b a)

  -- whether an item goes to b, and b lives
  abbrev pub is_reached : List Bool → List (ℕ × X) → ℕ → Bool
  is_reached alive sends b = is_receiver sends b && is_alive alive b

  -- What a node sent is at the end of its queues in the inboxes of the receivers that live, and in each other inbox the
  -- same waits as before.
  pub record AreSent (alive : List Bool) (from : ℕ) (sends : List (ℕ × X)) (old new : List (InboxView X)) : Type 0 where
    pub queues : (a b : ℕ) → queue_of (inbox_at new b) a
        ≡ cond ((a == from) && is_alive alive b) (queue_of (inbox_at old b) a ++ packets_to b sends)
        (queue_of (inbox_at old b) a)
    pub others : (b : ℕ) → is_reached alive sends b ≡ false → inbox_at new b ≡ inbox_at old b
    pub inbox_count : length new ≡ length old
    pub inboxes : ((b : ℕ) → IsInbox (inbox_at old b)) → (b : ℕ) → IsInbox (inbox_at new b)
