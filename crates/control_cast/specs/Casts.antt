-- What a legal journal of the cast has done, and what one does after which no event may come.
use Rattle.std.specs.Prelude.{ℕ, ⊤, ◌≡◌, ◌≤◌, ◌<◌, true, List}
use Rattle.std.specs.List.{AllByRecursion}
use Rattle.stat_plan.specs.Plans.{Plan, IsUnder, nodes}
use Rattle.control_cast.specs.declared.event.CastEvent.{CastEvent}
use Rattle.control_cast.specs.declared.event.CastEvent.TheVariants.{Issue, Recv, Lose}
use Rattle.control_cast.specs.Machine.{State, seen, numbers_after}

-- each node has obeyed the commands from 1 on in order, each once, and a living node no more than any living original ancestor
pub record ObeysInOrder (p : Plan) (st : State) : Type 0 where
  pub order : (n : ℕ) → st.obeyed n ≡ numbers_after 0 (seen st n)
  pub above : (n q : ℕ) → st.net.alive n ≡ true → st.net.alive q ≡ true → IsUnder p n q → seen st n ≤ seen st q

-- each living node has obeyed all commands, from 1 on in order, each once
abbrev pub ObeysAll : Plan → ℕ → State → Type 0
ObeysAll p commands st = (n : ℕ) → st.net.alive n ≡ true → st.obeyed n ≡ numbers_after 0 commands

-- an event of nodes of the plan
abbrev pub IsEventOf : Plan → CastEvent → Type 0
IsEventOf p Issue = ⊤
IsEventOf p (Recv n m) = (n < nodes p) × (m < nodes p)
IsEventOf p (Lose n) = n < nodes p

-- each event is one of nodes of the plan
abbrev pub AreEventsOf : Plan → List CastEvent → Type 0
AreEventsOf p events = AllByRecursion (IsEventOf p) events
