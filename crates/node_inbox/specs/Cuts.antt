-- What the loss of a node does to what waits, node by node.
use Rattle.std.specs.Prelude.{◌≡◌, ◌<◌, ◌≤◌, ℕ, true, false, ◌==◌, List, [], length, slice_index_or, take}
use Rattle.node_inbox.specs.Inboxes.{InboxView, IsInbox, queue_of, room_for}
use Rattle.node_inbox.specs.Sends.{no_inbox}

module _ {X : Type 0} where
  -- the inbox of a node, with its rooms
  abbrev pub full_inbox_at : List (InboxView X) → ℕ → InboxView X
  full_inbox_at inboxes n = slice_index_or inboxes n no_inbox

  -- Of what waits from n for b, the first `keep` items stay, and nothing for n itself. What waits for another from others stays,
  -- and no room becomes smaller.
  pub record IsCut (n keep b : ℕ) (old new : InboxView X) : Type 0 where
    pub own : (b == n) ≡ true → new.waiting ≡ []
    pub cut : (b == n) ≡ false → queue_of new.waiting n ≡ take keep (queue_of old.waiting n)
    pub others : (b == n) ≡ false → (a : ℕ) → (a == n) ≡ false → queue_of new.waiting a ≡ queue_of old.waiting a
    pub grows : (m : ℕ) → room_for old m ≤ room_for new m
    pub inbox : IsInbox new.waiting

  -- the inboxes of the first nodes were cut, and each other one is unchanged
  pub record AreCut (n keep count : ℕ) (old new : List (InboxView X)) : Type 0 where
    pub inbox_count : length new ≡ length old
    pub done : (b : ℕ) → b < count → IsCut n keep b (full_inbox_at old b) (full_inbox_at new b)
    pub rest : (b : ℕ) → count ≤ b → full_inbox_at new b ≡ full_inbox_at old b
