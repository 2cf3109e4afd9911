-- The invariant of the table under a turn, and what each step does to a seat's view.
use Rattle.std.specs.Prelude.{cond, Bool, ◌≡◌, ◌≢◌, ℕ, ◌+◌, ◌*◌, ◌^◌, ◌<◌, ◌≤◌, true, false, List, [], ◌∷◌, ◌++◌, length, Option, Some, None, slice_get}
use mathlib.Core.Option.{some, none}
use mathlib.Core.List.{IsPrefix}
use lib.ListN.{get_elem?}
use Rattle.atomic_table.specs.Table.{State, Me, Step, rest}
use Rattle.overlay_event.specs.declared.event.Event.{Event}
use Rattle.board_turn.specs.declared.holding.Holding.{Holding}
use Rattle.board_turn.specs.declared.view.LogEntry.{LogEntry}
use Rattle.board_turn.specs.declared.view.View.{View}
use Rattle.board_turn.specs.Entries.{holding, claim_of, commit_of, LogState, log_state, out_count, IsUnmoved}
use Rattle.overlay_event.specs.Events.{event_node}

-- the invariant of the state that a log leads to, of a board of n nodes, where `made` seats were split off and the log has
-- this number of entries
pub record LogInvariant (n made entries : ℕ) (x : LogState) : Type 0 where
  -- what a seat has out is held under its own number
  pub outs_held : (k : ℕ) (h : Holding) → x.outs k ≡ Some h → (h.seat ≡ k) × (slice_get x.holders (event_node h.event) ≡ Some (Some h))
  -- and what is held is out with the seat of that number, at the node of the event
  pub holders_out : (v : ℕ) (h : Holding) → slice_get x.holders v ≡ Some (Some h) → (x.outs h.seat ≡ Some h) × (event_node h.event ≡ v)
  -- since a claim, no event of its node was committed
  pub unmoved : (k : ℕ) (h : Holding) → x.outs k ≡ Some h → (h.since ≤ length x.journal) × IsUnmoved x.journal h
  -- a number that no seat has yet has nothing out
  pub unused : (k : ℕ) → made + 1 < k → x.outs k ≡ None
  pub node_count : length x.holders ≡ n
  pub within_limit : n < 2 ^ 32
  -- two entries for each commit, and one for each node that is out
  pub entry_count : entries ≡ 2 * length x.journal + out_count x.holders
  -- so the number of entries fits a 64-bit word
  pub count_limit : length x.journal + out_count x.holders ≤ 2 ^ 62 + n

module _ {X Y : Type 0} (journal : X → List Event) (holders : X → List (Option Holding)) (base : X → Y) where
  -- the invariant of the view of a living seat
  pub record ViewInvariant (n made owner pending : ℕ) (lifted : Bool) (log : List LogEntry) (v : View) : Type 0 where
    pub nodes : v.nodes ≡ n
    pub low : 1 ≤ v.number
    pub high : v.number ≤ made + 1
    -- the first seat knows how many were split off
    pub first : v.number ≡ 1 → v.made ≡ made
    -- what it saw is a prefix of the log
    pub seen_prefix : IsPrefix v.seen log
    -- it knows what it has out
    pub out : v.out ≡ (log_state n log).outs v.number
    -- and it saw the journal of that claim
    pub claim_seen : (h : Holding) → v.out ≡ Some h → h.since ≤ length (log_state n v.seen).journal
    -- with the turn it is the owner, and knows the whole log
    pub turn : v.turn ≡ true → (v.number ≡ owner) × (v.known ≡ log) × (v.due ≡ pending) × (v.lifts ≡ lifted)

  -- the board has the journal and the holders that the log leads to, and the base of the board x
  pub record Matches (x : X) (n : ℕ) (log : List LogEntry) (b : X) : Type 0 where
    pub same_journal : journal b ≡ (log_state n log).journal
    pub same_holders : holders b ≡ (log_state n log).holders
    pub same_base : base b ≡ base x

  -- The invariant of the table between any two steps, for the opening board x: the log, what the words and the slot hold, and
  -- what each seat knows. The other definitions of this file say what each step changes.
  pub record TableInvariant (x : X) (s : State (Option X) View) : Type 0 where
    -- the claims and commits so far
    pub log : List LogEntry
    -- how many seats were split off
    pub made : ℕ
    -- the number of the seat that has the turn, or 0
    pub owner : ℕ
    -- 1 where the last entry is not counted yet, else 0
    pub pending : ℕ
    -- how many entries are counted
    pub entries : ℕ
    -- how many seats wait for the turn; it serves wakes alone, and nothing rests on it
    pub waiting : ℕ
    -- whether the owner carries the slot
    pub lifted : Bool
    pub words : s.words ≡ owner ∷ length (log_state (length (holders x)) log).journal ∷ entries ∷ waiting ∷ []
    pub counted : entries + pending ≡ length log
    pub log_invariant : LogInvariant (length (holders x)) made (length log) (log_state (length (holders x)) log)
    -- where no seat has the turn, the slot has the board, in the state that the log leads to
    pub slot_home : owner ≡ 0 → (pending ≡ 0) × ((b : X) × (s.homes ≡ some (Some b) ∷ []) × Matches x (length (holders x)) log b)
    -- else the slot is carried or empty
    pub slot_away : owner ≢ 0 → s.homes ≡ cond lifted none (some None) ∷ []
    -- the owner is a living seat
    pub owner_lives : owner ≢ 0 → (j : ℕ) × (v : View) × (get_elem? s.views j ≡ some v) × (v.spent ≡ false) × (v.turn ≡ true)
    -- so does the first seat
    pub first_lives : (j : ℕ) × (v : View) × (get_elem? s.views j ≡ some v) × (v.spent ≡ false) × (v.number ≡ 1)
    -- the invariant of each living seat's view
    pub living_views : (j : ℕ) (v : View) → get_elem? s.views j ≡ some v → v.spent ≡ false → ViewInvariant (length (holders x)) made owner pending lifted log v
    -- no two living seats have one number
    pub distinct_numbers : (i j : ℕ) (v w : View) → get_elem? s.views i ≡ some v → get_elem? s.views j ≡ some w → v.spent ≡ false → w.spent ≡ false → v.number ≡ w.number → i ≡ j

-- the view of the first seat, of a board of n nodes
abbrev pub first_view : ℕ → View
first_view n = record { nodes = n; number = 1; turn = false; spent = false; made = 0; due = 0; lifts = false; seen = []; known = []; out = None }

-- the view that takes the turn, and knows these entries
abbrev pub with_turn : View → List LogEntry → View
with_turn v log = record { nodes = v.nodes; number = v.number; turn = true; spent = v.spent; made = v.made; due = 0; lifts = true; seen = v.seen; known = log; out = v.out }

-- the view without the turn
abbrev pub with_no_turn : View → View
with_no_turn v = record { nodes = v.nodes; number = v.number; turn = false; spent = v.spent; made = v.made; due = v.due; lifts = false; seen = v.seen; known = v.known; out = v.out }

-- the view that made this entry, which is not counted yet, and has this out then
abbrev pub with_entry : View → LogEntry → Option Holding → View
with_entry v e o = record { nodes = v.nodes; number = v.number; turn = v.turn; spent = v.spent; made = v.made; due = 1; lifts = v.lifts; seen = v.known ++ e ∷ []; known = v.known ++ e ∷ []; out = o }

-- the view whose entry is counted
abbrev pub with_none_due : View → View
with_none_due v = record { nodes = v.nodes; number = v.number; turn = v.turn; spent = v.spent; made = v.made; due = 0; lifts = v.lifts; seen = v.seen; known = v.known; out = v.out }

-- the view off which one more seat was split
abbrev pub with_one_more : View → View
with_one_more v = record { nodes = v.nodes; number = v.number; turn = v.turn; spent = v.spent; made = v.made + 1; due = v.due; lifts = v.lifts; seen = v.seen; known = v.known; out = v.out }

-- the view of the seat that is split off
abbrev pub split_off : View → View
split_off v = record { nodes = v.nodes; number = v.made + 2; turn = false; spent = v.spent; made = 0; due = 0; lifts = false; seen = v.seen; known = []; out = None }

-- the view of a seat that was joined away
abbrev pub spent_view : View
spent_view = record { nodes = 0; number = 0; turn = false; spent = true; made = 0; due = 0; lifts = false; seen = []; known = []; out = None }

-- the state that the entries lead to which a seat saw last
abbrev pub seen_state : View → LogState
seen_state v = log_state v.nodes v.seen

-- the state that the entries lead to which a seat with the turn knows
abbrev pub known_state : View → LogState
known_state v = log_state v.nodes v.known

module _ {X Y : Type 0} (journal : X → List Event) (holders : X → List (Option Holding)) (base : X → Y) where
  -- the board has the journal and the holders that the view knows, and this base
  abbrev pub IsKnownTo : Option Y → X → View → Type 0
  IsKnownTo o b v = (journal b ≡ (known_state v).journal) × (holders b ≡ (known_state v).holders) × ((y : Y) → o ≡ Some y → base b ≡ y)

  -- the taker knows the board that it takes, whose journal extends the one that it saw; what it has out is still out
  abbrev pub TakesBoard : Option Y → View → View → X → Type 0
  TakesBoard o v w b = (w ≡ with_turn v w.known) × IsPrefix v.seen w.known × IsKnownTo o b w
      × ((h : Holding) → v.out ≡ Some h → (slice_get (known_state w).holders (event_node h.event) ≡ Some (Some h)) × IsUnmoved (known_state w).journal h)

  -- a try for the turn: where word 0 was 0, the seat has the turn and carries the slot with the board; else nothing changed
  abbrev pub TriesTurn : Option Y → Step (Option X) → Me (Option X) View → ℕ → Me (Option X) View → Type 0
  TriesTurn o st m r m' = (r ≡ 0 → (b : X) × (m'.1 ≡ (0, Some b) ∷ m.1) × TakesBoard o m.0 m'.0 b) × (r ≢ 0 → m' ≡ m)

module _ {S : Type 0} where
  -- the owner gives the slot home, and has no turn
  abbrev pub FreesTurn : Step S → Me S View → ℕ → Me S View → Type 0
  FreesTurn st m r m' = m' ≡ (with_no_turn m.0, rest m.1)

  -- the owner counts its entry
  abbrev pub CountsEntry : Step S → Me S View → ℕ → Me S View → Type 0
  CountsEntry st m r m' = m' ≡ (with_none_due m.0, m.1)

  -- the owner commits what it has out
  abbrev pub CommitsEvent : Step S → Me S View → ℕ → Me S View → Type 0
  CommitsEvent st m r m' = (h : Holding) → m.0.out ≡ Some h → m' ≡ (with_entry m.0 (commit_of m.0.number h.event) None, m.1)

  -- the owner claims an event
  abbrev pub ClaimsEvent : Event → Step S → Me S View → ℕ → Me S View → Type 0
  ClaimsEvent e st m r m' = m' ≡ (with_entry m.0 (claim_of m.0.number e) (Some (holding m.0.number e (length (known_state m.0).journal))), m.1)

-- the view that carries the slot, or doesn't
abbrev pub with_lift : View → Bool → View
with_lift v b = record { nodes = v.nodes; number = v.number; turn = v.turn; spent = v.spent; made = v.made; due = v.due; lifts = b; seen = v.seen; known = v.known; out = v.out }

module _ {S : Type 0} where
  -- a seat is counted among those that wait, or no longer: no view changes
  abbrev pub KeepsView : Step S → Me S View → ℕ → Me S View → Type 0
  KeepsView st m r m' = m' ≡ m

  -- the owner lays the empty slot down
  abbrev pub LaysDown : Step S → Me S View → ℕ → Me S View → Type 0
  LaysDown st m r m' = m' ≡ (with_lift m.0 false, rest m.1)

-- the owner picks the empty slot up
abbrev pub PicksUp : {X : Type 0} → Step (Option X) → Me (Option X) View → ℕ → Me (Option X) View → Type 0
PicksUp st m r m' = m' ≡ (with_lift m.0 true, (0, None) ∷ m.1)

-- the view after a claim and its count
abbrev pub after_claim : View → Event → View
after_claim v e = with_none_due (with_entry v (claim_of v.number e) (Some (holding v.number e (length (known_state v).journal))))

-- the view after a commit and its count
abbrev pub after_commit : View → Holding → View
after_commit v h = with_none_due (with_entry v (commit_of v.number h.event) None)
