-- What a node knows of each of its waves.
use Rattle.rank_set.specs.Ranks.{Ranks, none, union, is_empty, is_same}
use Rattle.std.specs.Prelude.{ℕ, zero, suc, Bool, true, false, not, cond, ◌==◌}
use Rattle.overlay_setup.specs.declared.script.Mode.{Mode}
use Rattle.overlay_setup.specs.declared.script.Mode.TheVariants.{WaitForAll, TimeOut, DontWait}
use Rattle.stat_plan.specs.declared.machine.Timer.{Timer}
use Rattle.stat_plan.specs.declared.machine.Timer.TheVariants.{Off, Running, Fired}

-- a wave that a node works on: the ranks that it covers, those that it sent, and its timer; or one that has ended
pub data Wave : Type 0 where
  Open : (covered sent : Ranks) (timer : Timer) → Wave
  Closed : Wave

-- each wave, by stream and wave
abbrev pub Book : Type 0
Book = ℕ → ℕ → Wave

-- the function that gives v at a, and f elsewhere
abbrev pub put_at : {X : Type 0} → (ℕ → X) → ℕ → X → ℕ → X
put_at f a v b = cond (b == a) v (f b)

-- a book with a wave changed
abbrev pub set_wave : Book → ℕ → ℕ → Wave → Book
set_wave book s w v = put_at book s (put_at (book s) w v)

-- a coverage has grown where it isn't what was sent
abbrev pub has_grown : Ranks → Ranks → Bool
has_grown covered sent = not (is_same covered sent)

-- how many ticks a timer of the mode runs
abbrev pub ticks : Mode → ℕ
ticks WaitForAll = 0
ticks (TimeOut t) = t
ticks DontWait = 0

abbrev pub is_fired : Wave → Bool
is_fired (Open covered sent Off) = false
is_fired (Open covered sent (Running t)) = false
is_fired (Open covered sent Fired) = true
is_fired Closed = false

abbrev pub is_running : Wave → Bool
is_running (Open covered sent Off) = false
is_running (Open covered sent (Running t)) = true
is_running (Open covered sent Fired) = false
is_running Closed = false

abbrev pub is_closed : Wave → Bool
is_closed (Open covered sent timer) = false
is_closed Closed = true

abbrev pub is_open : Wave → Bool
is_open (Open covered sent timer) = true
is_open Closed = false

-- whether a wave is open and covers nothing yet
abbrev pub is_empty_open : Wave → Bool
is_empty_open (Open covered sent timer) = is_empty covered
is_empty_open Closed = false

-- the coverage, and what was sent of it; empty for a closed wave
abbrev pub coverage_of : Wave → Ranks
coverage_of (Open covered sent timer) = covered
coverage_of Closed = none

abbrev pub sent_of : Wave → Ranks
sent_of (Open covered sent timer) = sent
sent_of Closed = none

-- a wave with this coverage, or with these ranks besides
abbrev pub covering : Ranks → Wave → Wave
covering set (Open covered sent timer) = Open set sent timer
covering set Closed = Closed

abbrev pub growing : Ranks → Wave → Wave
growing set (Open covered sent timer) = Open (union covered set) sent timer
growing set Closed = Closed

-- a timer one tick later
abbrev pub ticked_timer : Timer → Timer
ticked_timer Off = Off
ticked_timer (Running zero) = Fired
ticked_timer (Running (suc zero)) = Fired
ticked_timer (Running (suc (suc t))) = Running (suc t)
ticked_timer Fired = Fired

abbrev pub ticked : Wave → Wave
ticked (Open covered sent timer) = Open covered sent (ticked_timer timer)
ticked Closed = Closed

-- a wave of which nothing was sent yet and whose timer is off, as for a new parent
abbrev pub unsent : Wave → Wave
unsent (Open covered sent timer) = Open covered none Off
unsent Closed = Closed
