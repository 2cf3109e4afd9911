-- What is seen of a program's queues.
use Rattle.std.specs.Prelude.{◌≡◌, ℕ, ◌+◌, ◌-◌, ◌≤◌, not, ◌==◌, cond, List, [], ◌∷◌, length, map}
use Rattle.std.specs.List.{filter, list_any}
use Rattle.std.specs.List.Sorted.{IsStrictlySortedBy}
use Rattle.std.specs.Ordering.{nat_cmp}
use Rattle.std.specs.Map.{keys_of}
use Rattle.std.specs.declared.collections.VecDeque.{VecDeque}
use Rattle.std.specs.VecDeque.{deque_capacity, deque_len}
use Rattle.node_inbox.specs.Inboxes.{Waiting, queue_of, senders_of, room_of}

-- the senders without this one
abbrev pub without_sender : ℕ → List ℕ → List ℕ
without_sender m senders = filter (λ s. not (s == m)) senders

-- a sender with its items before the others, if it has any
abbrev pub with_queue : {X : Type 0} → ℕ → List X → Waiting X → Waiting X
with_queue m [] others = others
with_queue m (x ∷ xs) others = (m, x ∷ xs) ∷ others

module _ {X A : Type 0} where
  -- the queues that aren't empty
  abbrev pub waiting_view : List (ℕ × VecDeque X A) → Waiting X
  waiting_view [] = []
  waiting_view (e ∷ es) = with_queue e.0 e.1.items (waiting_view es)

  -- how many more items a queue has room for
  abbrev pub spare : VecDeque X A → ℕ
  spare queue = deque_capacity queue - deque_len queue

  -- the rooms of all queues
  abbrev pub rooms_view : List (ℕ × VecDeque X A) → List (ℕ × ℕ)
  rooms_view es = map (λ e. (e.0, spare e.1)) es

  -- the senders with items waiting are listed, and the list has capacity for each sender that has a queue
  pub record AreListed (queues : List (ℕ × VecDeque X A)) (listed : List ℕ) (capacity : ℕ) : Type 0 where
    pub increasing : IsStrictlySortedBy nat_cmp (keys_of queues)
    pub senders : listed ≡ senders_of (waiting_view queues)
    pub places : length queues ≤ capacity

  -- the queues of these senders are empty, each other one is as it was, and the places of dropped items are room
  pub record AreEmptied (senders : List ℕ) (old new : List (ℕ × VecDeque X A)) : Type 0 where
    pub keys : keys_of new ≡ keys_of old
    pub queues : (m : ℕ) → queue_of (waiting_view new) m
        ≡ cond (list_any (λ s. s == m) senders) [] (queue_of (waiting_view old) m)
    pub places : (m : ℕ) → room_of (rooms_view new) m + length (queue_of (waiting_view new) m)
        ≡ room_of (rooms_view old) m + length (queue_of (waiting_view old) m)
