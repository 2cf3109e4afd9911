-- Journals of any machine: what its steps leave, and which events may come.
use Rattle.std.specs.Prelude.{◌≡◌, ℕ, zero, suc, ◌+◌, ◌*◌, ◌/◌, ◌%◌, ◌^◌, Bool, true, false, ⊤, List, [], ◌∷◌, length, slice_get, Option, Some, None}

-- the state that these events leave of a state
abbrev pub run : {S E : Type 0} → (S → E → S) → S → List E → S
run step st [] = st
run step st (e ∷ es) = run step (step st e) es

-- each event may come where it comes
abbrev pub IsLegalFrom : {S E : Type 0} → (S → E → S) → (S → E → Bool) → S → List E → Type 0
IsLegalFrom step enabled st [] = ⊤
IsLegalFrom step enabled st (e ∷ es) = (enabled st e ≡ true) × IsLegalFrom step enabled (step st e) es

-- no event may come
abbrev pub IsQuietState : {S E : Type 0} → (S → E → Bool) → S → Type 0
IsQuietState {S} {E} enabled st = (e : E) → enabled st e ≡ false

-- the number after x
unfoldable pub next_number : ℕ → ℕ
next_number x = (x * 6364136223846793005 + 1442695040888963407) % 2 ^ 64

-- the event that x picks of those that may come, if there is one
abbrev pub event_by : {E : Type 0} → List E → ℕ → Option E
event_by events x = slice_get events (x / 2 ^ 33 % length events)

-- the events that the numbers after x pick from a state on, at most this many
abbrev pub picked_from : {S E : Type 0} → (S → E → S) → (S → List E) → ℕ → ℕ → S → List E
picked_from step events zero x st = []
picked_from step events (suc most) x st = elim (event_by (events st) (next_number x)) [ None ↦ [] | Some e ↦ e ∷ picked_from step events most (next_number x) (step st e) ]

-- the numbers after x pick these events from a state on, and y is the last of the numbers
abbrev pub PicksFrom : {S E : Type 0} → (S → E → S) → (S → List E) → ℕ → S → List E → ℕ → Type 0
PicksFrom step events x st [] y = x ≡ y
PicksFrom step events x st (e ∷ es) y = (event_by (events st) (next_number x) ≡ Some e) × PicksFrom step events (next_number x) (step st e) es y

-- the numbers after x pick these events from a state on, and no event may come after them
pub record ArePickedFrom {S E : Type 0} (step : S → E → S) (events : S → List E) (x : ℕ) (st : S) (es : List E) : Type 0 where
  pub last : ℕ
  pub picks : PicksFrom step events x st es last
  pub ends : events (run step st es) ≡ []
