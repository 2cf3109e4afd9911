-- What a contract sees of a sink, and what a write does to it.
use Rattle.std.specs.Prelude.{◌≡◌, ℕ, ◌<◌, ◌≤◌, List, [], ◌++◌, length, take, Option, None}
use Rattle.std.specs.Io.KnownBytes.{Appends}
use Rattle.stat_desk.specs.Change.{Change}
use Rattle.stat_desk.specs.Faults.{Rose}

-- a sink, as a contract sees it
pub record SinkSeen : Type 0 where
  -- how often writes have failed, up to 2^64 - 1
  pub faults : ℕ
  -- the bytes that it took, in order
  pub took : List ℕ
  -- the bytes that it holds, where it tells them; `None` says nothing
  pub contents : Option (List ℕ)

-- the sink took just these bytes, and they were appended to what it holds; its count of faults didn't fall
pub record TookWhole (sink : Change SinkSeen) (bytes : List ℕ) : Type 0 where
  pub took : sink.now.took ≡ sink.before.took ++ bytes
  pub contents : Appends sink.before.contents sink.now.contents bytes
  pub later : sink.before.faults ≤ sink.now.faults

-- the sink took the first n bytes of the piece, at least one of a piece that isn't empty
pub record TookFirst (sink : Change SinkSeen) (piece : List ℕ) (n : ℕ) : Type 0 where
  pub within : n ≤ length piece
  pub some_taken : 0 < length piece → 0 < n
  pub taken : TookWhole sink (take n piece)

-- the sink took no byte, and holds what it held
pub record TookNothing (sink : Change SinkSeen) : Type 0 where
  pub took : sink.now.took ≡ sink.before.took
  pub contents : sink.now.contents ≡ sink.before.contents

-- a write failed: the sink took nothing, and counted a fault
pub record HasNotTaken (sink : Change SinkSeen) : Type 0 where
  pub nothing : TookNothing sink
  pub rose : Rose sink.before.faults sink.now.faults

-- the sink took a prefix of the bytes, and counted a fault
pub record TookPrefix (sink : Change SinkSeen) (bytes : List ℕ) : Type 0 where
  pub count : ℕ
  pub took : sink.now.took ≡ sink.before.took ++ take count bytes
  pub contents : Appends sink.before.contents sink.now.contents (take count bytes)
  pub rose : Rose sink.before.faults sink.now.faults

-- a sink that has taken nothing yet, and tells nothing
abbrev pub new_sink_seen : SinkSeen
new_sink_seen = record { faults = 0; took = []; contents = None }
