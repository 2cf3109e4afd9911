-- What is fed to a value by a read in pieces. Feeding bytes, however they are cut, turns the value into another.
use Rattle.std.specs.Prelude.{◌≡◌, ℕ, ◌+◌, ◌^◌, ◌<◌, ◌≤◌, List, ◌++◌, length, Option, Result, Ok, Err}
use Rattle.stat_desk.specs.Change.{Change}
use Rattle.stat_desk.specs.Desk.{Bytes, DeskSeen, HasGiven, IsFront, ReadResult, TooLong}
use Rattle.stat_desk.specs.declared.desk.DeskError.{DeskError}
use Rattle.stat_desk.specs.declared.desk.DeskError.TheVariants.{OutOfMemory}

-- a value was fed something, and this piece more than that is below 2^64 bytes
abbrev pub HasRoomFor : {F : Type 0} → (F → List ℕ → F → Type 0) → F → List ℕ → Type 0
HasRoomFor {F} feeds fed piece =
    (start : F) × ((before : List ℕ) × (feeds start before fed × (length before + length piece < 2 ^ 64)))

-- whatever was fed before, this piece is fed after it
abbrev pub FeedsNext : {F : Type 0} → (F → List ℕ → F → Type 0) → F → List ℕ → F → Type 0
FeedsNext {F} feeds old piece new =
    (start : F) (before : List ℕ) → feeds start before old → feeds start (before ++ piece) new

-- the file of this name gave all its bytes, and these were fed
abbrev pub FeedsFile : {F : Type 0} → (F → List ℕ → F → Type 0) → F → F → Change DeskSeen → List ℕ → ℕ → Type 0
FeedsFile feeds old new desk name max = (bytes : List ℕ) × (feeds old bytes new × HasGiven desk name max (Bytes bytes))

-- the first bytes of a file were fed, at most max
abbrev pub FeedsPrefix : {F : Type 0} → (F → List ℕ → F → Type 0) → F → F → Option (List ℕ) → ℕ → Type 0
FeedsPrefix feeds old new contents max =
    (bytes : List ℕ) × (feeds old bytes new × ((length bytes ≤ max) × IsFront contents bytes))

-- where a file gave all its bytes, these were fed
abbrev pub FeedsGiven : {F : Type 0} → (F → List ℕ → F → Type 0) → F → F → ReadResult → Type 0
FeedsGiven feeds old new (Bytes bytes) = feeds old bytes new
FeedsGiven feeds old new (TooLong bytes) = Unit {0}

-- What a read in pieces does, where a whole read would return this: it feeds those bytes, or returns that error, or
-- runs out of memory.
abbrev pub FeedsAs : {F : Type 0} → (F → List ℕ → F → Type 0) → F → F →
    Result (List ℕ) DeskError → Result (Unit {0}) DeskError → Type 0
FeedsAs feeds old new answer (Ok x) = (bytes : List ℕ) × (feeds old bytes new × (answer ≡ Ok bytes))
FeedsAs feeds old new answer (Err OutOfMemory) = Unit {0}
FeedsAs feeds old new answer (Err e) = answer ≡ Err e
