-- The sink in memory, as its callers see it.
use Rattle.std.specs.Prelude.{◌==◌, ◌||◌, ◌&&◌, not, ℕ, Bool, ◌-◌, ◌^◌, ◌<◌, ◌≤◌, min, length, List, [], ◌++◌, take, Some, Result, Ok, Err, if◌then◌else◌}
use Rattle.std.specs.List.{list_any}
use Rattle.stat_desk.specs.Faults.{next_count}
use Rattle.stat_desk.specs.Sink.{SinkSeen}
use Rattle.stat_desk.specs.declared.sink.SinkError.{SinkError}
use Rattle.stat_desk.specs.declared.sink.SinkError.TheVariants.{Failed}

-- what a sink holds, and how its writes have gone
pub record MemSinkView : Type 0 where
  pub bytes : List ℕ
  -- how much a write takes at most, and how much the sink takes in all
  pub at_once : ℕ
  pub room : ℕ
  -- the numbers of the writes that are to fail, and of those that are to take nothing
  pub failing : List ℕ
  pub stalling : List ℕ
  -- how many writes there were, and how many of them were faults
  pub calls : ℕ
  pub faults : ℕ

-- as contracts see a sink
abbrev pub sink_seen : MemSinkView → SinkSeen
sink_seen s = record { faults = s.faults; took = s.bytes; contents = Some s.bytes }

-- a write may take a byte, and the memory for all the room is there
pub record HasRoom (at_once held room capacity faults : ℕ) : Type 0 where
  pub some_at_once : 1 ≤ at_once
  pub within : held ≤ room
  pub reserved : room ≤ capacity
  pub small : faults < 2 ^ 64

-- a sink that has taken nothing yet
abbrev pub new_sink : ℕ → ℕ → MemSinkView
new_sink at_once room = record { bytes = []; at_once = at_once; room = room; failing = []; stalling = []; calls = 0; faults = 0 }

-- whether the next write is one of these
abbrev pub is_next : MemSinkView → List ℕ → Bool
is_next s calls = list_any (λ call. call == next_count s.calls) calls

-- for how many bytes the next write finds room
abbrev pub room_left : MemSinkView → ℕ
room_left s = if is_next s s.stalling then 0 else s.room - length s.bytes

-- how much of a piece the next write takes, if it takes any
abbrev pub taken_of : MemSinkView → List ℕ → ℕ
taken_of s piece = min (min (length piece) s.at_once) (room_left s)

-- what the next write gives: it fails where it is told to, and where it takes no byte of a piece that has some
abbrev pub write_answer : MemSinkView → List ℕ → Result ℕ SinkError
write_answer s piece =
    if is_next s s.failing || (taken_of s piece == 0 && not (length piece == 0))
    then Err Failed else Ok (taken_of s piece)

-- the sink after a write: a fault is counted, and otherwise the bytes are appended
abbrev pub after_write : {E : Type 0} → MemSinkView → List ℕ → Result ℕ E → MemSinkView
after_write s piece (Ok n) = record s { calls = next_count s.calls; bytes = s.bytes ++ take n piece }
after_write s piece (Err e) = record s { calls = next_count s.calls; faults = next_count s.faults }
