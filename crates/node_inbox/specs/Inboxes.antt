-- What waits for a node, by sender, and the room for more.
use Rattle.std.specs.Prelude.{◌≡◌, ◌≢◌, refl, ℕ, Bool, false, ◌||◌, List, [], ◌∷◌, ◌++◌, ◌==◌, cond, map}
use Rattle.std.specs.Coded.{Coded, code_by, coded×, coded_list, coded_ℕ}
use Rattle.std.specs.List.{AllByRecursion}
use Rattle.std.specs.List.Sorted.{IsStrictlySortedBy}
use Rattle.std.specs.Ordering.{nat_cmp}

-- the senders with items waiting, ascending, each with its items in order
abbrev pub Waiting : Type 0 → Type 0
Waiting X = List (ℕ × List X)

-- what waits, and for each sender that has a queue how many more items it has room for
pub record InboxView (X : Type 0) : Type 0 where
  pub waiting : Waiting X
  pub rooms : List (ℕ × ℕ)

-- for how many more items of a sender there is room
abbrev pub room_of : List (ℕ × ℕ) → ℕ → ℕ
room_of [] m = 0
room_of (e ∷ es) m = cond (e.0 == m) e.1 (room_of es m)

module _ {X : Type 0} where
  -- the items that wait from a sender, in order
  abbrev pub queue_of : Waiting X → ℕ → List X
  queue_of [] m = []
  queue_of (e ∷ es) m = cond (e.0 == m) e.1 (queue_of es m)

  -- the senders
  abbrev pub senders_of : Waiting X → List ℕ
  senders_of es = map (λ e. e.0) es

  -- whether items wait from a sender
  abbrev pub is_waiting : Waiting X → ℕ → Bool
  is_waiting [] m = false
  is_waiting (e ∷ es) m = (e.0 == m) || is_waiting es m

  -- for how many more items of a sender an inbox has room
  abbrev pub room_for : InboxView X → ℕ → ℕ
  room_for box m = room_of box.rooms m

  -- each sender in the list has items waiting
  abbrev pub HaveSent : Waiting X → Type 0
  HaveSent es = AllByRecursion (λ e. e.1 ≢ []) es

  -- the sender's new queue is the old one with the item at its end, and each other queue is unchanged
  abbrev pub Enqueues : Waiting X → Waiting X → ℕ → X → Type 0
  Enqueues old new sender item =
      (m : ℕ) → queue_of new m ≡ cond (m == sender) (queue_of old m ++ item ∷ []) (queue_of old m)

  -- the item was the first of the sender's queue
  abbrev pub Dequeues : Waiting X → Waiting X → ℕ → X → Type 0
  Dequeues old new sender item = queue_of old sender ≡ item ∷ queue_of new sender

  -- each other queue is unchanged
  abbrev pub KeepsOthers : Waiting X → Waiting X → ℕ → Type 0
  KeepsOthers old new sender = (m : ℕ) → (m == sender) ≡ false → queue_of new m ≡ queue_of old m

  -- the invariant of an inbox: the senders are strictly increasing, and each has items waiting
  pub record IsInbox (waiting : Waiting X) : Type 0 where
    pub sent : HaveSent waiting
    pub increasing : IsStrictlySortedBy nat_cmp (senders_of waiting)

-- an inbox is stored as the pair of its parts
abbrev pub inbox_code : {X : Type 0} → Coded X → Coded (InboxView X)
inbox_code {X} code =
    code_by (Waiting X × List (ℕ × ℕ))
    (coded× (coded_list (coded× coded_ℕ (coded_list code))) (coded_list (coded× coded_ℕ coded_ℕ)))
    (λ b. (b.waiting, b.rooms)) (λ p. record { waiting = p.0; rooms = p.1 }) (λ _. refl)
